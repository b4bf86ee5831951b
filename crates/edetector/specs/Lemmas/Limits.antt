-- What a table keeps that breaks no limit, and the largest factor of a fair row.
use Rattle.std.specs.Prelude.{◌≡◌, ℕ, zero, suc, ◌*◌, ◌<◌, ◌≤◌, Bool, true, false, cond, not, List, [], ◌∷◌, length, sum, Some, None, slice_index, refl}
use Rattle.std.proofs.Common.{le_of_suc-le-suc, not-suc-le-zero}
use Rattle.std.proofs.lemmas.Bool.{and_parts, leb-true}
use Rattle.edetector.specs.declared.value.ValueFault.TheVariants.{Classes, Weight, Total}
use Rattle.edetector.specs.Tables.{fewest_classes, most_classes, most_weight, most_total, is_within, weights_within, table_fault, unit_factor}

-- no factor of a fair row is larger, since each weight is at least 1
abbrev pub most_factor : ℕ
most_factor = unit_factor * most_total

-- the limits of a table, one by one
pub record TableLimits (low : ℕ) (ws : List ℕ) : Type 0 where
  pub some : fewest_classes ≤ length ws
  pub few : length ws ≤ most_classes
  pub each : (k : ℕ) → k < length ws → low ≤ slice_index ws k
  pub positive : 1 ≤ sum ws
  pub within : sum ws ≤ most_total

pub each_within : (low : ℕ) (ws : List ℕ) → weights_within low ws ≡ true → (k : ℕ) → k < length ws → (low ≤ slice_index ws k) × (slice_index ws k ≤ most_weight)
each_within low [] e k h = absurd (not-suc-le-zero h)
each_within low (w ∷ ws) e zero h =
    let both = and_parts _ _ (and_parts (is_within low most_weight w) _ e).0 in
    (leb-true low w both.0, leb-true w most_weight both.1)
each_within low (w ∷ ws) e (suc k) h = each_within low ws (and_parts (is_within low most_weight w) _ e).1 k (le_of_suc-le-suc h)

pub by_tests : (a b d : Bool) → cond (not a) (Some Classes) (cond (not b) (Some Weight) (cond (not d) (Some Total) None)) ≡ None → (a ≡ true) × (b ≡ true) × (d ≡ true)
by_tests true true true e = (refl, refl, refl)
by_tests true true false e = (cc, cc, cc)
by_tests true false d e = (cc, cc, cc)
by_tests false b d e = (cc, cc, cc)

pub table_limits : (low : ℕ) (ws : List ℕ) → table_fault low ws ≡ None → TableLimits low ws
table_limits low ws e =
    let tests = by_tests (is_within fewest_classes most_classes (length ws)) (weights_within low ws) (is_within 1 most_total (sum ws)) e in
    let classes = and_parts _ _ tests.0 in
    let total = and_parts _ _ tests.2 in
    record {
      some = leb-true fewest_classes (length ws) classes.0;
      few = leb-true (length ws) most_classes classes.1;
      each = λ k h. (each_within low ws tests.1 k h).0;
      positive = leb-true 1 (sum ws) total.0;
      within = leb-true (sum ws) most_total total.1;
    }
