-- The key of the last entry, and a list that goes on above it.
use Rattle.std.proofs.Common.{◌≡◌, ℕ, zero, suc, ◌+◌, ◌-◌, ◌<◌, Bool, true, nat_lt, Option, None, Some, slice_get, slice_set, Bor, MatchOption, IsTrue, List, [], ◌∷◌, ◌++◌, length, take, refl, arith}
use Rattle.std.specs.Option.{option_copied, option_map_or}
use Rattle.std.proofs.lemmas.Bool.Decides.{nat_tests}
use Rattle.std.proofs.lemmas.List.{take_more_set}
use native.Mathlib.Numerals.{unary_clauses}
use Rattle.daybook.specs.Keys.{KeysRise, above_in}

module _ {X : Type 0} (key : X → ℕ) where
  above_in-last : (xs : List X) (k : ℕ) → above_in key xs k ≡ option_map_or (λ x. nat_lt (key x) k) (slice_get xs (length xs - 1)) true
  above_in-last [] k = refl
  above_in-last (x ∷ []) k = refl
  above_in-last (x ∷ y ∷ ys) k = simp unary_clauses (simp unary_clauses at (above_in-last (y ∷ ys) k))

  -- the last entry, if there is one, has a key below k
  pub above_last : {P : Bor X → Type 0} (o : Option (Bor X)) (xs : List X) (k : ℕ) (b : Bool) → option_copied o ≡ slice_get xs (length xs - 1) → MatchOption o (IsTrue b) P → ((r : Bor X) → P r → b ≡ nat_lt (key r.now) k) → b ≡ above_in key xs k
  above_last None xs k b is m says = rw (above_in-last xs k, ← is) m
  above_last (Some r) xs k b is m says = rw (above_in-last xs k, ← is) (says r m)

  -- an entry above the last one is put behind
  pub rises_on : (xs : List X) (e : X) → KeysRise key xs → above_in key xs (key e) ≡ true → KeysRise key (xs ++ e ∷ [])
  rises_on [] e h a k l = absurd (omega (arith, l))
  rises_on (x ∷ []) e h a zero l = grind (arith, nat_tests)
  rises_on (x ∷ []) e h a (suc k) l = absurd (omega (arith, l))
  rises_on (x ∷ y ∷ xs) e h a zero l = h 0 (omega arith)
  rises_on (x ∷ y ∷ xs) e h a (suc k) l =
      let rest : KeysRise key (y ∷ xs) = λ j m. simp unary_clauses (simp unary_clauses at (h (suc j) (omega (arith, m)))) in
      simp unary_clauses (simp unary_clauses at (rises_on (y ∷ xs) e rest a k (omega (arith, l))))

  -- an entry above the last of the first n is put into the place behind them
  pub entered_rises : (xs : List X) (n : ℕ) (e : X) → n < length xs → KeysRise key (take n xs) → above_in key (take n xs) (key e) ≡ true → KeysRise key (take (n + 1) (slice_set xs n e))
  entered_rises xs n e room h a = rw (take_more_set xs n e room) (rises_on (take n xs) e h a)
