-- Rows of likelihood ratios have a factor for each class, and are fair.
use Rattle.std.specs.Prelude.{◌≡◌, ℕ, suc, ◌+◌, ◌*◌, ◌/◌, ◌<◌, ◌≤◌, List, [], ◌∷◌, length, sum, None, slice_index, refl}
use Rattle.std.proofs.Common.{sym, ap, ◌∙◌, mul-le-mul_left, mul-add, mul_assoc, mul_comm, mul_left_comm, mul-zero, add-zero, arith}
use Rattle.std.proofs.Math.Nat.{mul-div-le, le_of_mul-le-mul_left}
use Rattle.edetector.specs.Tables.{IsFair, null_fault, alternative_fault}
use Rattle.edetector.specs.Bettors.{IsBettor, ratios, fixed_meaning}
use Rattle.edetector.specs.Lemmas.Limits.{table_limits}
use Rattle.edetector.specs.Lemmas.Sums.{sum_cons, weigh, fair_from_class}

pub ratios_long : (w v : ℕ) (ws alts : List ℕ) → length alts ≡ length ws → length (ratios w v ws alts) ≡ length ws
ratios_long w v [] alts e = refl
ratios_long w v (x ∷ ws) [] e = absurd (omega arith)
ratios_long w v (x ∷ ws) (a ∷ alts) e = ap suc (ratios_long w v ws alts (omega arith))

ratios_sum : (w v : ℕ) (ws alts : List ℕ) → length alts ≡ length ws → (i : ℕ) (f : ℕ → ℕ) → ((j : ℕ) → f (i + j) ≡ slice_index (ratios w v ws alts) j) → v * weigh ws i f ≤ 4096 * (w * sum alts)
ratios_sum w v [] alts e i f at = omega (arith, mul-zero v)
ratios_sum w v (x ∷ ws) [] e i f at = absurd (omega arith)
ratios_sum w v (x ∷ ws) (a ∷ alts) e i f at =
    let q = (4096 * a * w) / (v * x) in
    let here : f i ≡ q = ap f (sym (add-zero i)) ∙ at 0 in
    let low : (v * x) * q ≤ 4096 * a * w = mul-div-le (4096 * a * w) (v * x) in
    let turned : (v * x) * q ≡ v * (x * q) = mul_assoc v x q in
    let same : v * (x * f i) ≡ v * (x * q) = ap (λ n. v * (x * n)) here in
    let split : v * (x * f i + weigh ws (suc i) f) ≡ v * (x * f i) + v * weigh ws (suc i) f = mul-add v (x * f i) (weigh ws (suc i) f) in
    let rest = ratios_sum w v ws alts (omega arith) (suc i) f (λ j. ap f (omega arith) ∙ at (suc j)) in
    let most : 4096 * a * w ≡ 4096 * (w * a) = mul_assoc 4096 a w ∙ ap (λ n. 4096 * n) (mul_comm a w) in
    let total : w * sum (a ∷ alts) ≡ w * a + w * sum alts = ap (λ n. w * n) (sum_cons a alts) ∙ mul-add w a (sum alts) in
    omega (arith, low, turned, same, split, rest, most, total)

pub ratios_fair : (v : ℕ) (ws alts : List ℕ) → length alts ≡ length ws → 0 < v → sum alts ≤ v → IsFair ws (ratios (sum ws) v ws alts)
ratios_fair v ws alts e pos h =
    let all = ratios_sum (sum ws) v ws alts e 0 (λ k. slice_index (ratios (sum ws) v ws alts) k) (λ j. ap (λ n. slice_index (ratios (sum ws) v ws alts) n) (omega arith)) in
    let within : sum ws * sum alts ≤ sum ws * v = mul-le-mul_left (sum ws) h in
    let turned : v * (4096 * sum ws) ≡ 4096 * (sum ws * v) = mul_left_comm v 4096 (sum ws) ∙ ap (λ n. 4096 * n) (mul_comm v (sum ws)) in
    let scaled : v * weigh ws 0 (λ k. slice_index (ratios (sum ws) v ws alts) k) ≤ v * (4096 * sum ws) = omega (arith, all, within, turned) in
    fair_from_class ws (ratios (sum ws) v ws alts) (ratios_long (sum ws) v ws alts e) (le_of_mul-le-mul_left scaled pos)

-- what a fixed bettor keeps
pub fixed_law : (ws alts : List ℕ) → null_fault ws ≡ None → alternative_fault alts ≡ None → length alts ≡ length ws → IsBettor (fixed_meaning ws alts)
fixed_law ws alts table alternative same-length = record {
  table = table;
  factors = λ later. ratios_long (sum ws) (sum alts) ws alts same-length;
  fair = λ later. ratios_fair (sum alts) ws alts same-length (table_limits 0 alts alternative).positive (omega arith);
}
