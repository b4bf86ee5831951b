-- What the two tables of a fixed bettor give at a class.
use Rattle.std.specs.Prelude.{◌≡◌, ℕ, ◌<◌, ◌≤◌, List, [], length, sum, None, slice_index}
use Rattle.std.proofs.Common.{sym, arith}
use Rattle.std.proofs.lemmas.List.{get_or_past}
use Rattle.edetector.specs.Tables.{most_total, null_fault}
use Rattle.edetector.specs.Bettors.{ratio, fixed_meaning}
use Rattle.edetector.specs.Lemmas.Ratios.{ratios_long}
use Rattle.edetector.specs.Lemmas.Limits.{table_limits}
use Rattle.edetector.proofs.Lists.{index_le_sum}
use Rattle.edetector.proofs.RatiosAt.{ratios_at}

module _ (ws : List ℕ) (unbroken : null_fault ws ≡ None) (k : ℕ) where
  pub weight_within : slice_index ws k ≤ most_total
  weight_within = omega (arith, index_le_sum ws k, (table_limits 1 ws unbroken).within)

  pub weight_some : k < length ws → 1 ≤ slice_index ws k
  weight_some h = (table_limits 1 ws unbroken).each k h

module _ (ws alts : List ℕ) (same-length : length alts ≡ length ws) (k : ℕ) where
  pub factor_is : k < length ws → ratio (sum ws) (sum alts) (slice_index ws k) (slice_index alts k) ≡ slice_index ((fixed_meaning ws alts).strategy []) k
  factor_is h = sym (ratios_at (sum ws) (sum alts) ws alts same-length k h)

  pub factor_past : length ws ≤ k → 0 ≡ slice_index ((fixed_meaning ws alts).strategy []) k
  factor_past h = sym (get_or_past ((fixed_meaning ws alts).strategy []) k 0 (omega (arith, ratios_long (sum ws) (sum alts) ws alts same-length)))
