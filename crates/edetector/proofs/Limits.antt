-- When a table breaks which limit.
use Rattle.std.specs.Prelude.{◌≡◌, ℕ, suc, ◌<◌, ◌≤◌, true, false, List, [], ◌∷◌, length, sum, Some, None, slice_index, refl}
use Rattle.std.proofs.Common.{arith}
use Rattle.std.proofs.lemmas.Bool.Decides.{nat_tests}
use Rattle.std.proofs.lemmas.Bool.{and_from}
use Rattle.edetector.specs.declared.value.ValueFault.TheVariants.{Weight, Total}
use Rattle.edetector.specs.Tables.{fewest_classes, most_classes, most_weight, most_total, is_within, weights_within, table_fault}

pub inside : (low high n : ℕ) → low ≤ n → n ≤ high → is_within low high n ≡ true
inside low high n h l = grind (arith, nat_tests)

pub all_within : (low : ℕ) (ws : List ℕ) → ((j : ℕ) → j < length ws → (low ≤ slice_index ws j) × (slice_index ws j ≤ most_weight)) → weights_within low ws ≡ true
all_within low [] h = refl
all_within low (w ∷ ws) h =
    let here = h 0 (omega arith) in
    and_from _ _ (inside low most_weight w here.0 here.1) (all_within low ws (λ j l. h (suc j) (omega arith)))

module _ (low : ℕ) (ws : List ℕ) where
  pub weights_broken : fewest_classes ≤ length ws → length ws ≤ most_classes → weights_within low ws ≡ false → table_fault low ws ≡ Some Weight
  weights_broken some few b = let a = inside fewest_classes most_classes (length ws) some few in rw (a, b) refl

  module _ (some : fewest_classes ≤ length ws) (few : length ws ≤ most_classes) (each : (j : ℕ) → j < length ws → (low ≤ slice_index ws j) × (slice_index ws j ≤ most_weight)) where
    pub total_broken : is_within 1 most_total (sum ws) ≡ false → table_fault low ws ≡ Some Total
    total_broken out =
        let a = inside fewest_classes most_classes (length ws) some few in
        let b = all_within low ws each in
        rw (a, b, out) refl

    pub unbroken : is_within 1 most_total (sum ws) ≡ true → table_fault low ws ≡ None
    unbroken whole =
        let a = inside fewest_classes most_classes (length ws) some few in
        let b = all_within low ws each in
        rw (a, b, whole) refl
