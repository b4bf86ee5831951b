-- The row of a fair bettor: its factors are small, and a copy of it begins with it.
use Rattle.std.proofs.Common.{◌≡◌, ℕ, zero, suc, ◌+◌, ◌*◌, ◌<◌, ◌≤◌, List, [], ◌∷◌, ◌-◌, length, replicate, get_or, take, None, ap, sym, ◌∙◌, ⊎_elim, le_of_suc-le-suc, not-suc-le-zero, add-zero, zero-add, mul-le-mul_right, arith}
use Rattle.std.specs.List.{sum}
use Rattle.std.proofs.lemmas.List.{get_or_past, take-append-le}
use Rattle.std.proofs.Math.Seq.{take-length}
use Rattle.std.proofs.lemmas.Bool.{cases_lt}
use Rattle.edetector.specs.declared.units.Factor.{Factor}
use Rattle.edetector.specs.Tables.{factors_in, padded_row, IsFair, null_fault, unit_factor}
use Rattle.edetector.specs.Lemmas.Limits.{most_factor, TableLimits, table_limits}
use Rattle.edetector.specs.Lemmas.Sums.{weigh, fair_by_class}

pub term_le : (ws : List ℕ) (i : ℕ) (f : ℕ → ℕ) (k : ℕ) → k < length ws → get_or ws k 0 * f (i + k) ≤ weigh ws i f
term_le [] i f k h = absurd (not-suc-le-zero h)
term_le (w ∷ ws) i f zero h = rw add-zero (omega arith)
term_le (w ∷ ws) i f (suc k) h =
    let e : i + suc k ≡ suc i + k = omega arith in
    rw e (omega (arith, term_le ws (suc i) f k (le_of_suc-le-suc h)))

small_within : (ws row : List ℕ) → TableLimits 1 ws → weigh ws 0 (λ j. get_or row j 0) ≤ unit_factor * sum ws → (k : ℕ) → k < length ws → get_or row k 0 ≤ most_factor
small_within ws row table fair k h =
    let term = rw zero-add at (term_le ws 0 (λ j. get_or row j 0) k h) in
    omega (arith, term, mul-le-mul_right (get_or row k 0) (table.each k h), fair, table.within)

pub small_row : (ws row : List ℕ) → null_fault ws ≡ None → IsFair ws row → length row ≡ length ws → (k : ℕ) → get_or row k 0 ≤ most_factor
small_row ws row table fair long k =
    ⊎_elim (small_within ws row (table_limits 1 ws table) (fair_by_class ws row long fair) k) (λ h. omega (arith, get_or_past row k 0, long, h)) (cases_lt k (length ws))

-- the first places of a copied row are the row
pub row_copied : (row : List Factor) (ws es : List ℕ) → null_fault ws ≡ None → length es ≡ length ws → factors_in row ≡ padded_row es → take (length ws) (factors_in row) ≡ es
row_copied row ws es table long same =
    ap (take (length ws)) same ∙ take-append-le (length ws) es (replicate (16 - length es) 0) (omega (arith, long)) ∙ ap (λ n. take n es) (sym long) ∙ take-length es
