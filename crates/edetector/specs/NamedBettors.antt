-- The fixed and the adaptive bettor: what they are made of.
use Rattle.std.specs.Prelude.{ℕ, if◌then◌else◌, List, [], ◌∷◌, length, take, replicate, Ok, Err, Result, ◌==◌, nat_lt}
use Rattle.std.specs.List.{flat_map, zip, range_with_len}
use Rattle.edetector.specs.declared.fixed.Fixed.{Fixed}
use Rattle.edetector.specs.declared.adaptive.Adaptive.{Adaptive}
use Rattle.edetector.specs.declared.value.ValueFault.{ValueFault}
use Rattle.edetector.specs.declared.value.ValueFault.TheVariants.{Alternative}
use Rattle.edetector.specs.Bettors.{tally_with}

-- the null table of a fixed bettor, and its alternative
abbrev pub tables_of : Fixed → List ℕ × List ℕ
tables_of b = (b.null, b.alternative)

-- the two tables handed over, if they have as many classes
abbrev pub new_fixed : List ℕ → List ℕ → Result (List ℕ × List ℕ) ValueFault
new_fixed null alternative = if length alternative == length null then Ok (null, alternative) else Err Alternative

abbrev pub null_of : Adaptive → List ℕ
null_of b = b.null

-- each class as often as it was counted
abbrev pub classes_counted : List ℕ → List ℕ
classes_counted counts = flat_map (λ p. replicate p.0 p.1) (zip counts (range_with_len 0 (length counts)))

-- the classes that an adaptive bettor has tallied. Its rows do not go by the order in which they came, and it keeps none:
-- they are seen in ascending order
abbrev pub tally_of : Adaptive → List ℕ
tally_of b = classes_counted (take (length b.null) b.counts)

-- the tally once k is learned, out of so many classes
abbrev pub tally_after : ℕ → List ℕ → ℕ → List ℕ
tally_after classes tally k = if nat_lt k classes then tally_with tally (k ∷ []) else tally
