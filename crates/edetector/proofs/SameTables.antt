-- Two tables compared weight by weight.
use Rattle.std.specs.Prelude.{◌≡◌, ℕ, ◌<◌, Bool, true, false, ◌&&◌, List, [], ◌∷◌, length, ◌≢◌, MatchBool, nat_eq, slice_index, refl}
use Rattle.std.specs.List.{AllWithin, HoldsAt, range_with_len}
use Rattle.std.proofs.Common.{◌+◌, cond, sym, ap, ap₂, subst, zero-add, ◌∙◌, arith}
use Rattle.std.proofs.lemmas.Bool.Decides.{nat_tests}
use Rattle.std.proofs.lemmas.Bool.{false_from_ne_true}
use Rattle.std.proofs.lemmas.List.{ext_get_or}
use Rattle.std.proofs.lemmas.List.FromFn.{length-range_with_len, get_or-range_with_len}
use Rattle.edetector.specs.Bettors.{pairs_alike, same_table}
use Rattle.edetector.specs.Lemmas.Mixtures.{same_from}

pairs_self : (xs : List ℕ) → pairs_alike xs xs ≡ length xs
pairs_self [] = refl
pairs_self (x ∷ xs) =
    let e : nat_eq x x ≡ true = grind (arith, nat_tests) in
    ap (λ b. cond b (1 + pairs_alike xs xs) 0) e ∙ omega (arith, pairs_self xs)

pub same_self : (xs : List ℕ) → same_table xs xs ≡ true
same_self xs =
    let long : nat_eq (length xs) (length xs) ≡ true = grind (arith, nat_tests) in
    let all : nat_eq (pairs_alike xs xs) (length xs) ≡ true = (let e = pairs_self xs in grind (arith, nat_tests)) in
    ap₂ (λ a b. a && b) long all

pub apart_long : (xs ys : List ℕ) → (length xs ≢ length ys) → same_table xs ys ≡ false
apart_long xs ys h = false_from_ne_true (same_table xs ys) (λ e. h (ap length (same_from xs ys e)))

pub apart_at : (xs ys : List ℕ) (k : ℕ) → (slice_index xs k ≢ slice_index ys k) → same_table xs ys ≡ false
apart_at xs ys k h = false_from_ne_true (same_table xs ys) (λ e. h (ap (λ l. slice_index l k) (same_from xs ys e)))

pub alike : (xs ys : List ℕ) → length xs ≡ length ys → ((j : ℕ) → j < length xs → slice_index xs j ≡ slice_index ys j) → same_table xs ys ≡ true
alike xs ys e h = subst (λ (l : List ℕ). same_table xs l ≡ true) (ext_get_or 0 xs ys e h) (same_self xs)

-- the answer of a comparison at each class number, from which tables of as many classes are the same or not
pub compared : (xs ys : List ℕ) (n : ℕ) → length xs ≡ n → length ys ≡ n → (r : Bool) →
    MatchBool r (AllWithin (λ k. slice_index xs k ≡ slice_index ys k) (range_with_len 0 n) 0 (length (range_with_len 0 n)))
    ((k : ℕ) × (k < length (range_with_len 0 n)) × HoldsAt (λ k. slice_index xs k ≢ slice_index ys k) (range_with_len 0 n) k) →
    r ≡ same_table xs ys
compared xs ys n ex ey true all =
    sym (alike xs ys (ex ∙ sym ey) (λ j h.
    let here = all j 0 (omega arith) (omega (arith, h, ex, length-range_with_len 0 n)) in
    subst (λ (k : ℕ). slice_index xs k ≡ slice_index ys k) (get_or-range_with_len 0 n j 0 (omega (arith, h, ex)) ∙ zero-add j) here))
compared xs ys n ex ey false one =
    let k = one.0 in
    sym (apart_at xs ys k (subst (λ (j : ℕ). slice_index xs j ≢ slice_index ys j) (get_or-range_with_len 0 n k 0 (omega (arith, one.1, length-range_with_len 0 n)) ∙ zero-add k) (one.2 0)))
