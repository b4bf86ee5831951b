-- How many groups a number takes.
use Rattle.std.proofs.Common.{◌≡◌, ℕ, zero, suc, ◌+◌, ◌-◌, ◌*◌, ◌/◌, ◌^◌, ◌<◌, ◌≤◌, max, length, ap, ◌∙◌, ⊎_elim, arith, pow_mono, pow-add}
use Rattle.std.specs.Int.{div_ceil}
use lib.Count.{count_leading_zeros, leading_top, leading_of_zero}
use Rattle.std.proofs.lemmas.Bool.{lt-ltb, le-ltb, cases_lt}
use Rattle.plantlog.specs.Numbers.{groups, number_bytes}

pub groups_some : (m n : ℕ) → 1 ≤ length (groups m n)
groups_some zero n = omega arith
groups_some (suc m) n =
    ⊎_elim
    (λ small. let a = lt-ltb n 128 small in rw a (omega arith))
    (λ big. let a = le-ltb n 128 big in rw a (omega arith))
    (cases_lt n 128)

pub groups_few : (m n : ℕ) → length (groups m n) ≤ m + 1
groups_few zero n = omega arith
groups_few (suc m) n =
    ⊎_elim
    (λ small. let a = lt-ltb n 128 small in rw a (omega arith))
    (λ big. let a = le-ltb n 128 big in let ih = groups_few m (n / 128) in rw a (omega arith))
    (cases_lt n 128)

-- the groups, from the place of the highest bit
from_top : (m n j : ℕ) → j < 7 * (m + 1) → 2 ^ j ≤ n → n < 2 ^ suc j → j / 7 + 1 ≡ length (groups m n)
from_top zero n j h lo hi = omega arith
from_top (suc m) n j h lo hi =
    ⊎_elim
    (λ (small : j < 7). let top = pow_mono {i = suc j} {j = 7} (omega arith) in let a = lt-ltb n 128 (omega (arith, top)) in rw a (omega arith))
    (λ (big : 7 ≤ j).
    let top = pow_mono {i = 7} {j = j} big in
    let a = le-ltb n 128 (omega (arith, top)) in
    let up = ap (λ (k : ℕ). 2 ^ k) (let e : j ≡ (j - 7) + 7 = omega arith in e) ∙ pow-add 2 (j - 7) 7 in
    let up1 = ap (λ (k : ℕ). 2 ^ k) (let e : suc j ≡ suc (j - 7) + 7 = omega arith in e) ∙ pow-add 2 (suc (j - 7)) 7 in
    let ih = from_top m (n / 128) (j - 7) (omega arith) (omega (arith, up)) (omega (arith, up1)) in
    rw a (omega (arith, ih)))
    (cases_lt j 7)

-- leading zeros give the groups
pub groups_from_zeros : (n : ℕ) → n < 2 ^ 32 → max (div_ceil (32 - count_leading_zeros 32 n) 7) 1 ≡ length (number_bytes n)
unfolding number_bytes
groups_from_zeros zero h = ap (λ (z : ℕ). max (div_ceil (32 - z) 7) 1) (leading_of_zero 32)
groups_from_zeros (suc n) h =
    let t = leading_top 32 (suc n) (omega arith) h in
    let bits : 32 - count_leading_zeros 32 (suc n) ≡ t.0 + 1 = omega (arith, t.1) in
    let up : max (div_ceil (t.0 + 1) 7) 1 ≡ t.0 / 7 + 1 = omega arith in
    ap (λ (k : ℕ). max (div_ceil k 7) 1) bits ∙ up ∙ from_top 4 (suc n) t.0 (omega (arith, t.1)) t.2 t.3

pub bytes_some : (n : ℕ) → 1 ≤ length (number_bytes n)
unfolding number_bytes
bytes_some n = groups_some 4 n

pub bytes_few : (n : ℕ) → length (number_bytes n) ≤ 5
unfolding number_bytes
bytes_few n = groups_few 4 n
