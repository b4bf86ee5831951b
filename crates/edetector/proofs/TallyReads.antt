-- The adaptive bettor: what its own facts give at a class, and what one class learned does.
use Rattle.std.specs.Prelude.{◌≡◌, ℕ, zero, suc, ◌+◌, ◌-◌, ◌*◌, ◌/◌, ◌<◌, ◌≤◌, Bool, true, false, cond, List, [], ◌∷◌, ◌++◌, length, take, replicate, sum, nat_lt, ◌==◌, slice_index, slice_index_or, slice_set, refl}
use Rattle.std.proofs.Common.{sym, ap, ap₂, ◌∙◌, append_assoc, append-nil, add-zero, le_of_suc-le-suc, not-suc-le-zero, arith, length-append}
use mathlib.Core.Path.{fun_ext}
use Rattle.std.specs.List.{flat_map, zip, range_with_len}
use Rattle.std.proofs.lemmas.Bool.{cond_both}
use Rattle.std.proofs.lemmas.Bool.Decides.{nat_tests}
use Rattle.std.proofs.Math.Seq.{take-set-lt, take-append-add, take-append_seam}
use Rattle.std.proofs.lemmas.List.{get_or-take, get_or_past, take-replicate, length-replicate, length-take-le, take_all}
use Rattle.std.proofs.lemmas.List.Sums.{sum_by-cons, sum_by-append, count_by-le-length}
use Rattle.edetector.specs.declared.adaptive.Adaptive.{Adaptive}
use Rattle.edetector.specs.Bettors.{Meaning, Strategy, meaning_after, ratio, ratios, most_tallied, times, tally_with, tallied_weights, adaptive_row, adaptive_meaning}
use Rattle.edetector.specs.NamedBettors.{classes_counted, tally_of, tally_after}
use Rattle.edetector.specs.Lemmas.Limits.{TableLimits, table_limits}
use Rattle.edetector.specs.Lemmas.Sums.{sum_cons}
use Rattle.edetector.specs.Lemmas.Ratios.{ratios_long}
use Rattle.edetector.specs.Lemmas.Tallies.{tallied_from, tallied_long}
use Rattle.edetector.proofs.RatiosAt.{ratios_at, tallied_at}

-- two tallies in which each class came as often
pub record SameCounts (t u : List ℕ) : Type 0 where
  pub long : length t ≡ length u
  pub each : (k : ℕ) → times k t ≡ times k u

times_cons : (k c : ℕ) (tally : List ℕ) → times k (c ∷ tally) ≡ cond (c == k) 1 0 + times k tally
times_cons k c tally = sum_by-cons (λ x. cond (x == k) 1 0) c tally

times_append : (k : ℕ) (t u : List ℕ) → times k (t ++ u) ≡ times k t + times k u
times_append k t u = sum_by-append (λ x. cond (x == k) 1 0) t u

times_same : (n k : ℕ) → times k (replicate n k) ≡ n
times_same zero k = refl
times_same (suc n) k =
    let same : (k == k) ≡ true = grind (arith, nat_tests) in
    omega (arith, times_cons k k (replicate n k), ap (λ b. cond {A = ℕ} b 1 0) same, times_same n k)

times_other : (n i k : ℕ) → (i == k) ≡ false → times k (replicate n i) ≡ 0
times_other zero i k apart = refl
times_other (suc n) i k apart = omega (arith, times_cons k i (replicate n i), ap (λ b. cond {A = ℕ} b 1 0) apart, times_other n i k apart)

-- classes from i on, each as often as it was counted
abbrev counted_from : ℕ → List ℕ → List ℕ
counted_from i [] = []
counted_from i (c ∷ counts) = replicate c i ++ counted_from (suc i) counts

from_counted : (i : ℕ) (counts : List ℕ) → flat_map (λ p. replicate p.0 p.1) (zip counts (range_with_len i (length counts))) ≡ counted_from i counts
from_counted i [] = refl
from_counted i (c ∷ counts) =
    let next : i + 1 ≡ suc i = omega arith in
    ap (λ l. replicate c i ++ l) (from_counted (i + 1) counts ∙ ap (λ n. counted_from n counts) next)

length_from : (i : ℕ) (counts : List ℕ) → length (counted_from i counts) ≡ sum counts
length_from i [] = refl
length_from i (c ∷ counts) =
    omega (arith, length-append (replicate c i) (counted_from (suc i) counts), length-replicate {A = ℕ} c i, length_from (suc i) counts, sum_cons c counts)

length_counted : (counts : List ℕ) → length (classes_counted counts) ≡ sum counts
length_counted counts = ap length (from_counted 0 counts) ∙ length_from 0 counts

times_before : (i k : ℕ) (counts : List ℕ) → k < i → times k (counted_from i counts) ≡ 0
times_before i k [] h = refl
times_before i k (c ∷ counts) h =
    let apart : (i == k) ≡ false = grind (arith, nat_tests) in
    omega (arith, times_append k (replicate c i) (counted_from (suc i) counts), times_other c i k apart, times_before (suc i) k counts (omega arith))

times_counted : (i j : ℕ) (counts : List ℕ) → times (i + j) (counted_from i counts) ≡ slice_index counts j
times_counted i j [] = refl
times_counted i zero (c ∷ counts) =
    rw add-zero (omega (arith, times_append i (replicate c i) (counted_from (suc i) counts), times_same c i, times_before (suc i) i counts (omega arith)))
times_counted i (suc j) (c ∷ counts) =
    let apart : (i == i + suc j) ≡ false = grind (arith, nat_tests) in
    let next : i + suc j ≡ suc i + j = omega arith in
    omega (arith, times_append (i + suc j) (replicate c i) (counted_from (suc i) counts), times_other c i (i + suc j) apart, ap (λ n. times n (counted_from (suc i) counts)) next, times_counted (suc i) j counts)

times_at : (j : ℕ) (counts : List ℕ) → times j (classes_counted counts) ≡ slice_index counts j
times_at j counts = let same : j ≡ 0 + j = omega arith in ap (times j) (from_counted 0 counts) ∙ ap (λ n. times n (counted_from 0 counts)) same ∙ times_counted 0 j counts

-- nothing is counted
zeros_counted : (i n : ℕ) → counted_from i (replicate n 0) ≡ []
zeros_counted i zero = refl
zeros_counted i (suc n) = zeros_counted (suc i) n

zeros_sum : (n : ℕ) → sum (replicate n 0) ≡ 0
zeros_sum zero = refl
zeros_sum (suc n) = omega (arith, zeros_sum n, sum_cons 0 (replicate n 0))

pub sum_zeros : (n : ℕ) → n ≤ 16 → sum (take n (replicate 16 0)) ≡ 0
sum_zeros n h = ap sum (take-replicate n 16 0 h) ∙ zeros_sum n

pub tally_zeros : (n : ℕ) → n ≤ 16 → classes_counted (take n (replicate 16 0)) ≡ []
tally_zeros n h = ap classes_counted (take-replicate n 16 0 h) ∙ from_counted 0 (replicate n 0) ∙ zeros_counted 0 n

-- a row goes by how often each class came, and by nothing else
tallied_same : (i : ℕ) (ws t u : List ℕ) → SameCounts t u → tallied_from i ws t ≡ tallied_from i ws u
tallied_same i [] t u same = refl
tallied_same i (w ∷ ws) t u same = ap₂ (λ n l. (w + n) ∷ l) (same.each i) (tallied_same (i + 1) ws t u same)

row_same : (ws t u : List ℕ) → SameCounts t u → adaptive_row ws t ≡ adaptive_row ws u
row_same ws t u same = ap₂ (λ n l. ratios (sum ws) (sum ws + n) ws l) same.long (tallied_same 0 ws t u same)

append_same : (t u l : List ℕ) → SameCounts t u → SameCounts (t ++ l) (u ++ l)
append_same t u l same =
    record {
      long = omega (arith, length-append t l, length-append u l, same.long);
      each = λ k. omega (arith, times_append k t l, times_append k u l, same.each k);
    }

-- a tally within the limit, and what of more classes has room behind it
taken_behind : (m : ℕ) (t l : List ℕ) → length t ≤ m → take m (t ++ l) ≡ t ++ take (m - length t) l
taken_behind m t l h =
    let split : m ≡ length t + (m - length t) = omega arith in
    ap (λ n. take n (t ++ l)) split ∙ take-append-add t l (m - length t)

taken_same : (m : ℕ) (t u l : List ℕ) → length t ≤ m → SameCounts t u → SameCounts (take m (t ++ l)) (take m (u ++ l))
taken_same m t u l h same =
    let room : m - length t ≡ m - length u = omega (arith, same.long) in
    let of-t = taken_behind m t l h in
    let of-u : take m (u ++ l) ≡ u ++ take (m - length t) l = taken_behind m u l (omega (arith, same.long)) ∙ ap (λ n. u ++ take n l) (sym room) in
    rw (of-t, of-u) (append_same t u (take (m - length t) l) same)

take_take : (m : ℕ) (t l : List ℕ) → take m (take m t ++ l) ≡ take m (t ++ l)
take_take zero t l = refl
take_take (suc m) [] l = refl
take_take (suc m) (x ∷ t) l = ap (λ r. x ∷ r) (take_take m t l)

-- a tally with one class more, and with more behind it
more_behind : (t u : List ℕ) (k : ℕ) (later : List ℕ) → length u ≤ most_tallied → SameCounts u (tally_with t (k ∷ [])) → SameCounts (tally_with u later) (tally_with t (k ∷ later))
more_behind t u k later h same =
    let joined : take most_tallied (take most_tallied (t ++ (k ∷ [])) ++ later) ≡ tally_with t (k ∷ later) = take_take most_tallied (t ++ (k ∷ [])) later ∙ ap (take most_tallied) (append_assoc t (k ∷ []) later) in
    rw (← joined) (taken_same most_tallied u (tally_with t (k ∷ [])) later h same)

strategy_same : (ws t u : List ℕ) → length u ≤ most_tallied → SameCounts u t → adaptive_meaning ws u ≡ adaptive_meaning ws t
strategy_same ws t u h same =
    ap (λ (s : Strategy). let m : Meaning = record { nulls = ws; strategy = s } in m)
    (fun_ext (λ later. row_same ws (tally_with u later) (tally_with t later) (taken_same most_tallied u t later h same)))

-- learning a class is a step of the meaning
pub adaptive_learns : (ws t u : List ℕ) (k : ℕ) → length u ≤ most_tallied → SameCounts u (tally_after (length ws) t k) → adaptive_meaning ws u ≡ meaning_after (adaptive_meaning ws t) k
adaptive_learns ws t u k h same =
    let m = adaptive_meaning ws t in
    let learned : Meaning = record m { strategy = λ later. m.strategy (k ∷ later) } in
    cond_both (nat_lt k (length ws)) learned m
    (λ x. SameCounts u (cond (nat_lt k (length ws)) (tally_with t (k ∷ [])) t) → adaptive_meaning ws u ≡ x)
    (λ below s.
    let counts : SameCounts u (tally_with t (k ∷ [])) = rw below at s in
    ap (λ (f : Strategy). let n : Meaning = record { nulls = ws; strategy = f } in n)
    (fun_ext (λ later. row_same ws (tally_with u later) (tally_with t (k ∷ later)) (more_behind t u k later h counts))))
    (λ past s. let counts : SameCounts u t = rw past at s in strategy_same ws t u h counts) same

-- one more is counted of a class
sum_set : (cs : List ℕ) (k : ℕ) → k < length cs → sum (slice_set cs k (slice_index cs k + 1)) ≡ sum cs + 1
sum_set [] k h = absurd (not-suc-le-zero h)
sum_set (c ∷ cs) zero h = omega (arith, sum_cons c cs, sum_cons (c + 1) cs)
sum_set (c ∷ cs) (suc k) h =
    omega (arith, sum_set cs k (le_of_suc-le-suc h), sum_cons c cs, sum_cons c (slice_set cs k (slice_index cs k + 1)))

next_alike : (k j : ℕ) (b : Bool) → (k == j) ≡ b → (suc k == suc j) ≡ b
next_alike k j true e = grind (arith, nat_tests)
next_alike k j false e = grind (arith, nat_tests)

set_at : (cs : List ℕ) (k j : ℕ) → k < length cs → slice_index (slice_set cs k (slice_index cs k + 1)) j ≡ slice_index cs j + cond (k == j) 1 0
set_at [] k j h = absurd (not-suc-le-zero h)
set_at (c ∷ cs) zero zero h = refl
set_at (c ∷ cs) zero (suc j) h = let apart : (0 == suc j) ≡ false = grind (arith, nat_tests) in omega (arith, ap (λ b. cond {A = ℕ} b 1 0) apart)
set_at (c ∷ cs) (suc k) zero h = let apart : (suc k == 0) ≡ false = grind (arith, nat_tests) in omega (arith, ap (λ b. cond {A = ℕ} b 1 0) apart)
set_at (c ∷ cs) (suc k) (suc j) h =
    let same : (suc k == suc j) ≡ (k == j) = next_alike k j (k == j) refl in
    omega (arith, set_at cs k j (le_of_suc-le-suc h), ap (λ b. cond {A = ℕ} b 1 0) same)

-- the counts of so many classes, one more of them for class k
module _ (n k : ℕ) (counts : List ℕ) (h : k < n) (long : n ≤ length counts) where
  more : List ℕ
  more = take n (slice_set counts k (slice_index counts k + 1))

  moved : take n (slice_set counts k (slice_index counts k + 1)) ≡ slice_set (take n counts) k (slice_index (take n counts) k + 1)
  moved = take-set-lt n counts k (slice_index counts k + 1) h ∙ ap (λ v. slice_set (take n counts) k (v + 1)) (sym (get_or-take n counts k 0 h))

  within : k < length (take n counts)
  within = omega (arith, length-take-le n counts long)

  pub sum_more : sum (take n (slice_set counts k (slice_index counts k + 1))) ≡ sum (take n counts) + 1
  sum_more = ap sum moved ∙ sum_set (take n counts) k within

  pub counts_more : SameCounts (classes_counted (take n (slice_set counts k (slice_index counts k + 1)))) (classes_counted (take n counts) ++ (k ∷ []))
  counts_more =
      let t = classes_counted (take n counts) in
      record {
        long = omega (arith, length_counted (take n (slice_set counts k (slice_index counts k + 1))), length_counted (take n counts), sum_more, length-append t (k ∷ []));
        each = λ j. omega (arith, times_at j (take n (slice_set counts k (slice_index counts k + 1))), ap (λ l. slice_index l j) moved, set_at (take n counts) k j within, times_at j (take n counts), times_append j t (k ∷ []), times_cons j k []);
      }

module _ (b : Adaptive) where
  pub null_limits : TableLimits 1 b.null
  null_limits = table_limits 1 b.null b.null_unbroken

  pub tally_long : length (tally_of b) ≡ b.tallied
  tally_long = length_counted (take (length b.null) b.counts) ∙ b.counted

  -- the tally now is whole
  now_is : tally_with (tally_of b) [] ≡ tally_of b
  now_is = ap (take most_tallied) (append-nil (tally_of b)) ∙ take_all most_tallied (tally_of b) (omega (arith, tally_long, b.within))

  module _ (k : ℕ) (h : k < length b.null) where
    count_is : times k (tally_of b) ≡ slice_index b.counts k
    count_is = times_at k (take (length b.null) b.counts) ∙ get_or-take (length b.null) b.counts k 0 h

    pub count_part : slice_index_or b.counts k 0 ≤ b.tallied
    count_part = omega (arith, count_is, count_by-le-length (λ c. c == k) (tally_of b), tally_long)

    pub factor_is : ratio (sum b.null) (sum b.null + b.tallied) (slice_index b.null k) (slice_index b.null k + slice_index b.counts k) ≡ slice_index ((adaptive_meaning b.null (tally_of b)).strategy []) k
    factor_is =
        let ws = b.null in
        let t = tally_of b in
        let at = ratios_at (sum ws) (sum ws + length t) ws (tallied_weights ws t) (tallied_long 0 ws t) k h in
        let zeroth : 0 + k ≡ k = omega arith in
        let top : slice_index (tallied_weights ws t) k ≡ slice_index ws k + slice_index b.counts k = tallied_at 0 ws t k h ∙ ap (λ n. slice_index ws k + times n t) zeroth ∙ ap (λ n. slice_index ws k + n) count_is in
        sym (ap (λ l. slice_index (adaptive_row ws l) k) now_is ∙ at ∙ ap₂ (λ x y. (4096 * x * sum ws) / ((sum ws + y) * slice_index ws k)) top tally_long)

  pub factor_past : (k : ℕ) → length b.null ≤ k → 0 ≡ slice_index ((adaptive_meaning b.null (tally_of b)).strategy []) k
  factor_past k h =
      let t = tally_with (tally_of b) [] in
      sym (get_or_past (adaptive_row b.null t) k 0 (omega (arith, h, ratios_long (sum b.null) (sum b.null + length t) b.null (tallied_weights b.null t) (tallied_long 0 b.null t))))

  wide : length b.null ≤ length b.counts
  wide = omega (arith, null_limits.few, b.room)

  pub tallied_more : (k : ℕ) → k < length b.null → sum (take (length b.null) (slice_set b.counts k (slice_index b.counts k + 1))) ≡ b.tallied + 1
  tallied_more k h = sum_more (length b.null) k b.counts h wide ∙ ap (λ n. n + 1) b.counted

  -- what a class, a number that is no class, and a class too many leave of the tally
  pub tally_moves : (k : ℕ) → k < length b.null → b.tallied < most_tallied →
      SameCounts (classes_counted (take (length b.null) (slice_set b.counts k (slice_index b.counts k + 1)))) (tally_after (length b.null) (tally_of b) k)
  tally_moves k h room =
      let t = tally_of b in
      let below : nat_lt k (length b.null) ≡ true = grind (arith, nat_tests) in
      let kept : tally_with t (k ∷ []) ≡ t ++ (k ∷ []) = take_all most_tallied (t ++ (k ∷ [])) (omega (arith, length-append t (k ∷ []), tally_long)) in
      rw (below, kept) (counts_more (length b.null) k b.counts h wide)

  pub tally_stays : (k : ℕ) → length b.null ≤ k → SameCounts (tally_of b) (tally_after (length b.null) (tally_of b) k)
  tally_stays k h =
      let past : nat_lt k (length b.null) ≡ false = grind (arith, nat_tests) in
      rw past (record { long = refl; each = λ j. refl })

  pub tally_full : (k : ℕ) → most_tallied ≤ b.tallied → SameCounts (tally_of b) (tally_after (length b.null) (tally_of b) k)
  tally_full k h =
      let t = tally_of b in
      let full : length t ≡ most_tallied = omega (arith, tally_long, b.within) in
      let kept : tally_with t (k ∷ []) ≡ t = ap (λ n. take n (t ++ (k ∷ []))) (sym full) ∙ take-append_seam t (k ∷ []) in
      cond_both (nat_lt k (length b.null)) (tally_with t (k ∷ [])) t (λ u. SameCounts t u) (λ below. rw kept (record { long = refl; each = λ j. refl })) (λ past. record { long = refl; each = λ j. refl })
