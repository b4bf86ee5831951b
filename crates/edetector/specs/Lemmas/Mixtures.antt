-- What a mixture keeps: where the tables are the same, half the sum of two fair rows is fair.
use Rattle.std.specs.Prelude.{◌≡◌, ℕ, zero, suc, ◌+◌, ◌*◌, ◌/◌, ◌≤◌, true, List, [], ◌∷◌, length, ◌==◌, slice_index, slice_index_or, refl}
use Rattle.std.proofs.lemmas.Bool.{and_parts, cond_both}
use Rattle.std.proofs.Common.{sym, ap, ◌∙◌, subst, arith}
use Rattle.std.proofs.lemmas.Bool.Decides.{nat_tests}
use Rattle.edetector.specs.Tables.{IsFair}
use Rattle.edetector.specs.Bettors.{Meaning, IsBettor, pairs_alike, same_table, averages, mixed_row, mixture_meaning}
use Rattle.edetector.specs.Lemmas.Sums.{weigh, weigh_mono, weigh_scale, weigh_add, fair_by_class, fair_from_class}

pairs_from : (xs ys : List ℕ) → length xs ≡ length ys → pairs_alike xs ys ≡ length xs → xs ≡ ys
pairs_from [] [] e h = refl
pairs_from [] (y ∷ ys) e h = absurd (omega arith)
pairs_from (x ∷ xs) [] e h = absurd (omega arith)
pairs_from (x ∷ xs) (y ∷ ys) e h =
    let rest = pairs_alike xs ys in
    cond_both (x == y) (1 + rest) 0 (λ n. n ≡ suc (length xs) → x ∷ xs ≡ y ∷ ys)
    (λ same n.
    let head : x ≡ y = grind (arith, nat_tests) in
    let tail : xs ≡ ys = pairs_from xs ys (omega arith) (omega arith) in cc)
    (λ apart n. absurd (omega arith)) h

pub same_from : (xs ys : List ℕ) → same_table xs ys ≡ true → xs ≡ ys
same_from xs ys h =
    let both = and_parts (length xs == length ys) (pairs_alike xs ys == length xs) h in
    let long : length xs ≡ length ys = (let e = both.0 in grind (arith, nat_tests)) in
    let pairs : pairs_alike xs ys ≡ length xs = (let e = both.1 in grind (arith, nat_tests)) in
    pairs_from xs ys long pairs

pub averages_at : (f g : List ℕ) → length f ≡ length g → (k : ℕ) → slice_index (averages f g) k ≡ (slice_index f k + slice_index g k) / 2
averages_at [] [] e k = refl
averages_at [] (y ∷ g) e k = absurd (omega arith)
averages_at (x ∷ f) [] e k = absurd (omega arith)
averages_at (x ∷ f) (y ∷ g) e zero = refl
averages_at (x ∷ f) (y ∷ g) e (suc k) = averages_at f g (omega arith) k

pub averages_long : (f g : List ℕ) → length f ≡ length g → length (averages f g) ≡ length f
averages_long [] [] e = refl
averages_long [] (y ∷ g) e = absurd (omega arith)
averages_long (x ∷ f) [] e = absurd (omega arith)
averages_long (x ∷ f) (y ∷ g) e = ap suc (averages_long f g (omega arith))

averages_fair : (ws f g : List ℕ) → length f ≡ length ws → length f ≡ length g → IsFair ws f → IsFair ws g → IsFair ws (averages f g)
averages_fair ws f g long e p q =
    let m : ℕ → ℕ = λ k. slice_index_or (averages f g) k 0 in
    let x : ℕ → ℕ = λ k. slice_index_or f k 0 in
    let y : ℕ → ℕ = λ k. slice_index_or g k 0 in
    let up : weigh ws 0 (λ k. 2 * m k) ≤ weigh ws 0 (λ k. x k + y k) = weigh_mono ws 0 (λ k. 2 * m k) (λ k. x k + y k) (λ k. let at = averages_at f g e k in omega (arith, at)) in
    let fair-f = fair_by_class ws f long p in
    let fair-g = fair_by_class ws g (sym e ∙ long) q in
    fair_from_class ws (averages f g) (averages_long f g e ∙ long) (omega (arith, up, weigh_scale ws 0 2 m, weigh_add ws 0 x y, fair-f, fair-g))

module _ (ws vs f g : List ℕ) (long-f : length f ≡ length ws) (long-g : length g ≡ length vs) where
  pub same_length : same_table ws vs ≡ true → length f ≡ length g
  same_length h = long-f ∙ ap length (same_from ws vs h) ∙ sym long-g

  pub mixed_long : length (mixed_row ws vs f g) ≡ length ws
  mixed_long = cond_both (same_table ws vs) (averages f g) f (λ r. length r ≡ length ws) (λ h. averages_long f g (same_length h) ∙ long-f) (λ h. long-f)

  pub mixed_fair : IsFair ws f → IsFair vs g → IsFair ws (mixed_row ws vs f g)
  mixed_fair p q =
      cond_both (same_table ws vs) (averages f g) f (λ r. IsFair ws r)
      (λ h. averages_fair ws f g long-f (same_length h) p (subst (λ (t : List ℕ). IsFair t g) (sym (same_from ws vs h)) q)) (λ h. p)

-- what a mixture keeps follows from what its two bettors keep
pub mixture_law : (first second : Meaning) → IsBettor first → IsBettor second → IsBettor (mixture_meaning first second)
mixture_law first second p q = record {
  table = p.table;
  factors = λ later. mixed_long first.nulls second.nulls (first.strategy later) (second.strategy later) (p.factors later) (q.factors later);
  fair = λ later. mixed_fair first.nulls second.nulls (first.strategy later) (second.strategy later) (p.factors later) (q.factors later) (p.fair later) (q.fair later);
}
