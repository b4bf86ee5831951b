-- Sums over the classes of a table, and what a fair row does to a base.
use Rattle.std.specs.Prelude.{◌≡◌, ℕ, suc, ◌+◌, ◌*◌, ◌/◌, ◌<◌, ◌≤◌, List, [], ◌∷◌, length, sum, slice_index, slice_index_or, refl}
use Rattle.std.proofs.Common.{ap, ◌∙◌, mul_comm, add-mul, mul_left_comm, mul-le-mul_left, arith}
use Rattle.std.proofs.Math.Nat.{mul-div-le}
use Rattle.edetector.specs.Tables.{unit_factor}
use Rattle.edetector.specs.Lemmas.Sums.{sum_cons, weigh, weigh_mono, weigh_scale}

pub weigh_same : (ws : List ℕ) (i : ℕ) (f g : ℕ → ℕ) → ((k : ℕ) → f k ≡ g k) → weigh ws i f ≡ weigh ws i g
weigh_same [] i f g h = refl
weigh_same (w ∷ ws) i f g h = omega (arith, ap (λ n. w * n) (h i), weigh_same ws (suc i) f g h)

-- only the classes of the table count
pub weigh_within : (ws : List ℕ) (i : ℕ) (f g : ℕ → ℕ) → ((k : ℕ) → k < i + length ws → f k ≡ g k) → weigh ws i f ≡ weigh ws i g
weigh_within [] i f g h = refl
weigh_within (w ∷ ws) i f g h =
    omega (arith, ap (λ n. w * n) (h i (omega arith)), weigh_within ws (suc i) f g (λ k l. h k (omega arith)))

pub weigh_const : (ws : List ℕ) (i c : ℕ) → weigh ws i (λ k. c) ≡ sum ws * c
weigh_const [] i c = omega arith
weigh_const (w ∷ ws) i c = omega (arith, add-mul w (sum ws) c, weigh_const ws (suc i) c, ap (λ n. n * c) (sum_cons w ws))

-- what a fair row does to the base b, over all classes
pub fair_step : (ws row : List ℕ) (b : ℕ) → weigh ws 0 (λ k. slice_index row k) ≤ unit_factor * sum ws → weigh ws 0 (λ k. (b * slice_index row k) / 4096) ≤ sum ws * b
fair_step ws row b fair =
    let e : ℕ → ℕ = λ k. slice_index_or row k 0 in
    let m : ℕ → ℕ = λ k. (b * e k) / 4096 in
    let up : weigh ws 0 (λ k. 4096 * m k) ≤ weigh ws 0 (λ k. b * e k) = weigh_mono ws 0 (λ k. 4096 * m k) (λ k. b * e k) (λ k. mul-div-le (b * e k) 4096) in
    let left : weigh ws 0 (λ k. 4096 * m k) ≡ 4096 * weigh ws 0 m = weigh_scale ws 0 4096 m in
    let right : weigh ws 0 (λ k. b * e k) ≡ b * weigh ws 0 e = weigh_scale ws 0 b e in
    let within : b * weigh ws 0 e ≤ b * (4096 * sum ws) = mul-le-mul_left b fair in
    let turned : b * (4096 * sum ws) ≡ 4096 * (sum ws * b) = mul_left_comm b 4096 (sum ws) ∙ ap (λ n. 4096 * n) (mul_comm b (sum ws)) in
    omega (arith, up, left, right, within, turned)
