-- The weights of a lent slice, tested, added up and copied.
use Rattle.std.specs.Prelude.{◌≡◌, ℕ, ◌+◌, ◌*◌, ◌<◌, ◌≤◌, true, false, List, [], ◌∷◌, All, Some, None, length, take, sum, sum_by, slice_index, slice_index_or, refl}
use Rattle.std.proofs.Common.{sym, ap, ◌∙◌, arith}
use Rattle.std.proofs.lemmas.List.{length-map, take-map}
use Rattle.std.proofs.lemmas.List.Elements.{All-from_get_or}
use Rattle.std.proofs.lemmas.List.Sums.{sum_by-le, sum_by-cons}
use Rattle.edetector.specs.declared.units.Weight.{Weight}
use Rattle.edetector.specs.declared.value.ValueFault.TheVariants.{Total}
use Rattle.edetector.specs.Tables.{weights_in, fewest_classes, most_classes, most_weight, most_total, is_within, weights_within, table_fault}
use Rattle.edetector.specs.Lemmas.Limits.{each_within}
use Rattle.edetector.specs.Lemmas.Sums.{sum_cons}
use Rattle.edetector.proofs.Limits.{total_broken, unbroken}
use Rattle.edetector.proofs.Lists.{number_at}

-- a weight within its limits
abbrev pub Within : ℕ → ℕ → Type 0
Within low n = (low ≤ n) × (n ≤ most_weight)

-- the weights of a lent slice, tested one by one
module _ (low : ℕ) (xs : List Weight) where
  at : (k : ℕ) → (slice_index_or xs k (record { 0 = 0 })).0 ≡ slice_index (weights_in xs) k
  at k = number_at (λ w. w.0) (record { 0 = 0 }) refl xs k

  pub units_each : All (λ w. Within low w.0) xs → (k : ℕ) → k < length xs → Within low (slice_index (weights_in xs) k)
  units_each all k h = let here = all k (record { 0 = 0 }) h in (omega (arith, at k, here.0), omega (arith, at k, here.1))

  within_units : weights_within low (weights_in xs) ≡ true → All (λ w. Within low w.0) xs
  within_units e =
      All-from_get_or (λ w. Within low w.0) xs (record { 0 = 0 })
      (λ k h. let here = each_within low (weights_in xs) e k (omega (arith, length-map xs (λ w. w.0))) in (omega (arith, at k, here.0), omega (arith, at k, here.1)))

  pub units_without : (All (λ w. Within low w.0) xs → ⊥) → weights_within low (weights_in xs) ≡ false
  units_without broken = elim (weights_within low (weights_in xs)) as (λ b. weights_within low (weights_in xs) ≡ b → b ≡ false) [ true ↦ λ e. absurd (broken (within_units e)) | false ↦ λ e. refl ] refl

-- the sum of the units is that of their numbers, and small
pub units_sum : (xs : List Weight) → sum_by (λ w. w.0) xs ≡ sum (weights_in xs)
units_sum [] = refl
units_sum (x ∷ xs) = sum_by-cons (λ w. w.0) x xs ∙ ap (λ n. x.0 + n) (units_sum xs) ∙ sym (sum_cons x.0 (weights_in xs))

pub units_light : (low : ℕ) (xs : List Weight) → length xs ≤ most_classes → All (λ w. Within low w.0) xs → sum_by (λ w. w.0) xs < 4294967296
units_light low xs few all =
    let most : sum_by (λ w. w.0) xs ≤ length xs * most_weight = sum_by-le (λ w. w.0) most_weight xs (λ k d h. (all k d h).1) in
    omega (arith, most, few)

-- the total judged, of weights that keep the other limits
module _ (low : ℕ) (xs : List Weight) (some : fewest_classes ≤ length xs) (few : length xs ≤ most_classes) (all : All (λ w. Within low w.0) xs) (total : ℕ) (is : total ≡ sum_by (λ w. w.0) xs) where
  total_is : sum (weights_in xs) ≡ total
  total_is = sym (is ∙ units_sum xs)

  pub units_broken : is_within 1 most_total total ≡ false → table_fault low (weights_in xs) ≡ Some Total
  units_broken out =
      let long = length-map xs (λ w. w.0) in
      total_broken low (weights_in xs) (omega (arith, long)) (omega (arith, long)) (λ k h. units_each low xs all k (omega (arith, h, long))) (ap (is_within 1 most_total) total_is ∙ out)

  pub units_unbroken : is_within 1 most_total total ≡ true → table_fault low (weights_in xs) ≡ None
  units_unbroken within =
      let long = length-map xs (λ w. w.0) in
      unbroken low (weights_in xs) (omega (arith, long)) (omega (arith, long)) (λ k h. units_each low xs all k (omega (arith, h, long))) (ap (is_within 1 most_total) total_is ∙ within)

-- the weights copied to the front of an array
module _ (ws held : List Weight) (front : take (length ws) held ≡ ws) where
  pub padded_units : take (length ws) (weights_in held) ≡ weights_in ws
  padded_units = take-map (λ w. w.0) (length ws) held ∙ ap weights_in front
