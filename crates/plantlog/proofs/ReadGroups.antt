-- What one group of a number read says.
use Rattle.std.proofs.Common.{◌≡◌, ℕ, zero, suc, ◌+◌, ◌-◌, ◌*◌, ◌<◌, ◌≤◌, Bool, true, false, ◌⊎◌, List, [], ◌∷◌, length, get_or, take, drop, Ok, Err, Result, sym, refl, ap, ◌∙◌, inr, ⊎_elim, arith}
use Rattle.std.proofs.lemmas.Bool.{lt-ltb, le-ltb, ne_eqb}
use Rattle.std.proofs.lemmas.List.{take_rest}
use Rattle.plantlog.specs.declared.number.NumberFault.{NumberFault}
use Rattle.plantlog.specs.declared.number.NumberFault.TheVariants.{CutShort}
use borrow.Author.Tests.{clash}
use Rattle.plantlog.specs.Numbers.{below_more, last_group, first_number_by, first_number}
use Rattle.plantlog.specs.NumberLimits.{limit}

-- the bytes behind the first, as a pattern gives them
abbrev behind : List ℕ → List ℕ
behind xs = take (length xs - 1) (drop 1 xs)

pub last_ok : (several : Bool) (n : ℕ) (rest : List ℕ) → (several ≡ true → 0 < n) → last_group several n rest ≡ Ok (n, rest)
last_ok true n rest h = let z = ne_eqb n 0 (λ e. let p = h refl in omega (arith, p, e)) in rw z refl
last_ok false n rest h = refl

pub cut : (m : ℕ) (several : Bool) (xs : List ℕ) → length xs < 1 → Err CutShort ≡ first_number_by m several xs
cut zero several [] h = refl
cut (suc m) several [] h = refl
cut m several (x ∷ xs) h = absurd (omega arith)

pub limit_some : (m : ℕ) → 16 ≤ limit m
limit_some zero = omega arith
limit_some (suc m) = let ih = limit_some m in omega arith

pub ended : (m : ℕ) (several : Bool) (xs : List ℕ) (b : ℕ) → 0 < length xs → b ≡ get_or xs 0 0 → (m ≡ 0 → b ≤ 15) → (m ≡ 0) ⊎ (b < 128) → (several ≡ true → 0 < b) → (Ok (b, behind xs) ≡ first_number_by m several xs) × (b < limit m)
ended m several [] b z e top either p = absurd (omega arith)
ended zero several (x ∷ xs) b z e top either p =
    let a = le-ltb 15 x (omega (arith, e, top refl)) in
    let t = take_rest (x ∷ xs) 1 in
    (rw a (rw t (rw e (sym (last_ok several x xs (λ q. omega (arith, e, p q)))))), omega (arith, top refl))
ended (suc m) several (x ∷ xs) b z e top either p =
    let small : b < 128 = ⊎_elim (λ h. absurd (omega (arith, h))) (λ h. h) either in
    let a = lt-ltb x 128 (omega (arith, e, small)) in
    let t = take_rest (x ∷ xs) 1 in
    (rw a (rw t (rw e (sym (last_ok several x xs (λ q. omega (arith, e, p q)))))), omega (arith, limit_some m, small))

pub went_on : {r : Result (ℕ × List ℕ) NumberFault} (m : ℕ) (several : Bool) (xs : List ℕ) (b : ℕ) → 0 < length xs → b ≡ get_or xs 0 0 → 0 < m → 128 ≤ b → r ≡ first_number_by (m - 1) true (behind xs) → below_more (b - 128) r ≡ first_number_by m several xs
went_on m several [] b z e h k q = absurd (omega arith)
went_on zero several (x ∷ xs) b z e h k q = absurd (omega arith)
went_on (suc m) several (x ∷ xs) b z e h k q =
    let a = le-ltb x 128 (omega (arith, e, k)) in
    let t = take_rest (x ∷ xs) 1 in
    let g : suc m - 1 ≡ m = omega arith in
    let q2 = q ∙ ap (λ (j : ℕ). first_number_by j true (behind (x ∷ xs))) g ∙ ap (λ (l : List ℕ). first_number_by m true l) t in
    rw a (rw e (ap (below_more (x - 128)) q2))

pub limit_le : (m : ℕ) → m ≤ 3 → limit m ≤ 33554432
limit_le zero h = omega arith
limit_le (suc zero) h = omega arith
limit_le (suc (suc zero)) h = omega arith
limit_le (suc (suc (suc zero))) h = omega arith
limit_le (suc (suc (suc (suc m)))) h = absurd (omega arith)

pub one_group : (xs : List ℕ) (b : ℕ) → 0 < length xs → b ≡ get_or xs 0 0 → b < 128 → Ok (b, behind xs) ≡ first_number xs
unfolding first_number
one_group xs b some e small = (ended 4 false xs b some e (λ z. absurd (omega (arith, z))) (inr small) (λ f. absurd (clash f))).0

pub two_groups : (xs : List ℕ) (a b : ℕ) → 0 < length xs → a ≡ get_or xs 0 0 → 128 ≤ a → 0 < length (behind xs) → b ≡ get_or (behind xs) 0 0 → 0 < b → b < 128 → Ok (a - 128 + 128 * b, behind (behind xs)) ≡ first_number xs
unfolding first_number
two_groups xs a b some ea high more eb low small =
    let second = (ended 3 true (behind xs) b more eb (λ z. absurd (omega (arith, z))) (inr small) (λ _. low)).0 in
    went_on 4 false xs a some ea (omega arith) high second

pub none : (xs : List ℕ) → length xs < 1 → Err CutShort ≡ first_number xs
unfolding first_number
none xs few = cut 4 false xs few
