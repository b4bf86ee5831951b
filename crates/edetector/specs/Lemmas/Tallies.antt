-- What an adaptive bettor keeps, whatever it has tallied.
use Rattle.std.specs.Prelude.{◌≡◌, ℕ, zero, suc, ◌+◌, ◌<◌, ◌≤◌, false, cond, List, [], ◌∷◌, map, length, sum, sum_by, None, zip, ◌==◌, refl}
use Rattle.std.specs.List.{range_with_len}
use Rattle.std.proofs.Common.{ap, arith}
use Rattle.std.proofs.lemmas.Bool.{cond_both}
use Rattle.std.proofs.lemmas.Bool.Decides.{nat_tests}
use Rattle.std.proofs.lemmas.List.Sums.{sum_by-cons}
use Rattle.edetector.specs.Tables.{null_fault}
use Rattle.edetector.specs.Bettors.{IsBettor, times, tallied_weights, tally_with, adaptive_meaning}
use Rattle.edetector.specs.Lemmas.Limits.{table_limits}
use Rattle.edetector.specs.Lemmas.Ratios.{ratios_long, ratios_fair}
use Rattle.edetector.specs.Lemmas.Sums.{sum_cons}

-- the weights of classes from i on, each with how often it was tallied
abbrev pub tallied_from : ℕ → List ℕ → List ℕ → List ℕ
tallied_from i ws tally = map (λ p. p.0 + times p.1 tally) (zip ws (range_with_len i (length ws)))

pub tallied_long : (i : ℕ) (ws tally : List ℕ) → length (tallied_from i ws tally) ≡ length ws
tallied_long i [] tally = refl
tallied_long i (w ∷ ws) tally = ap suc (tallied_long (i + 1) ws tally)

-- how often classes from i on were tallied, n of them in all
abbrev times_from : ℕ → ℕ → List ℕ → ℕ
times_from i n tally = sum_by (λ k. times k tally) (range_with_len i n)

times_cons : (k c : ℕ) (tally : List ℕ) → times k (c ∷ tally) ≡ cond (c == k) 1 0 + times k tally
times_cons k c tally = sum_by-cons (λ x. cond (x == k) 1 0) c tally

tallied_sum : (i : ℕ) (ws tally : List ℕ) → sum (tallied_from i ws tally) ≡ sum ws + times_from i (length ws) tally
tallied_sum i [] tally = refl
tallied_sum i (w ∷ ws) tally =
    omega (arith, tallied_sum (i + 1) ws tally, sum_cons w ws, sum_cons (w + times i tally) (tallied_from (i + 1) ws tally), sum_by-cons (λ k. times k tally) i (range_with_len (i + 1) (length ws)))

-- how many of n classes from i on are the class c
abbrev one_from : ℕ → ℕ → ℕ → ℕ
one_from i n c = sum_by (λ k. cond (c == k) 1 0) (range_with_len i n)

one_more : (i n c : ℕ) → one_from i (suc n) c ≡ cond (c == i) 1 0 + one_from (i + 1) n c
one_more i n c = sum_by-cons (λ k. cond (c == k) 1 0) i (range_with_len (i + 1) n)

none_from : (i n c : ℕ) → c < i → one_from i n c ≡ 0
none_from i zero c h = refl
none_from i (suc n) c h =
    let apart : (c == i) ≡ false = grind (arith, nat_tests) in
    omega (arith, one_more i n c, ap (λ b. cond {A = ℕ} b 1 0) apart, none_from (i + 1) n c (omega arith))

at_most_one : (i n c : ℕ) → one_from i n c ≤ 1
at_most_one i zero c = omega arith
at_most_one i (suc n) c =
    cond_both (c == i) 1 0 (λ x. one_from i (suc n) c ≡ x + one_from (i + 1) n c → one_from i (suc n) c ≤ 1)
    (λ same e. let here : c ≡ i = grind (arith, nat_tests) in omega (arith, e, none_from (i + 1) n c (omega arith)))
    (λ apart e. omega (arith, e, at_most_one (i + 1) n c)) (one_more i n c)

times_none : (i n : ℕ) → times_from i n [] ≡ 0
times_none i zero = refl
times_none i (suc n) = omega (arith, sum_by-cons (λ k. times k []) i (range_with_len (i + 1) n), times_none (i + 1) n)

times_more : (i n c : ℕ) (tally : List ℕ) → times_from i n (c ∷ tally) ≡ one_from i n c + times_from i n tally
times_more i zero c tally = refl
times_more i (suc n) c tally =
    omega (arith, times_more (i + 1) n c tally, times_cons i c tally, one_more i n c, sum_by-cons (λ k. times k (c ∷ tally)) i (range_with_len (i + 1) n), sum_by-cons (λ k. times k tally) i (range_with_len (i + 1) n))

times_within : (i n : ℕ) (tally : List ℕ) → times_from i n tally ≤ length tally
times_within i n [] = omega (arith, times_none i n)
times_within i n (c ∷ tally) = omega (arith, times_more i n c tally, at_most_one i n c, times_within i n tally)

-- what an adaptive bettor keeps
pub adaptive_law : (ws tally : List ℕ) → null_fault ws ≡ None → IsBettor (adaptive_meaning ws tally)
adaptive_law ws tally table =
    let positive = (table_limits 1 ws table).positive in
    record {
      table = table;
      factors = λ later. let t = tally_with tally later in ratios_long (sum ws) (sum ws + length t) ws (tallied_weights ws t) (tallied_long 0 ws t);
      fair = λ later.
          let t = tally_with tally later in
          ratios_fair (sum ws + length t) ws (tallied_weights ws t) (tallied_long 0 ws t) (omega arith) (omega (arith, tallied_sum 0 ws t, times_within 0 (length ws) t));
    }
