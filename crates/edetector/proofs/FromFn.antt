-- An array made by a function of the index: each element is what a call gave.
use Rattle.std.proofs.Common.{ℕ, zero, suc, ◌+◌, ◌<◌, ◌≤◌, List, slice_index_or, sym, subst, ⊎_elim, arith}
use Rattle.std.proofs.lemmas.Bool.{cases_eq}
use Rattle.std.specs.Fn.{Called}
use Rattle.std.specs.Array.{IsFromFnResultFrom}
use denote.Param.Members.{Mut}

-- calls that keep what Same says of the closure's state give P at their index
module _ {F B : Type 0} (g : Mut F (ℕ × Unit {0}) B) (Same : F → Type 0) (P : ℕ → B → Type 0)
    (step : (f : F) (i : ℕ) (y : B) (q : F) → Same f → Called g f (i, tt) y q → P i y × Same q) where
  pub made_each : (f : F) (ys : List B) (i n : ℕ) → Same f → IsFromFnResultFrom g f ys i n → (k : ℕ) (d : B) → i ≤ k → k < i + n → P k (slice_index_or ys k d)
  made_each f ys i zero s each k d l h = absurd (omega arith)
  made_each f ys i (suc n) s each k d l h =
      let here = step f i each.1 each.0 s each.3 in
      ⊎_elim
      (λ e. subst (λ (j : ℕ). P j (slice_index_or ys j d)) (sym e) (subst (P i) (sym (each.2.1 d)) here.0))
      (λ ne. made_each each.0 ys (i + 1) n here.1 each.4 k d (omega arith) (omega arith))
      (cases_eq k i)
