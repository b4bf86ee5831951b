-- Tables of class weights, and rows of factors that are fair against one.
use Rattle.std.specs.Prelude.{ℕ, ◌-◌, ◌*◌, ◌≤◌, min, Bool, not, if◌then◌else◌, ◌&&◌, List, ◌++◌, map, length, replicate, sum, sum_by, Some, None, Option, Ok, Err, Result, nat_le}
use Rattle.std.specs.List.{list_all, zip}
use Rattle.edetector.specs.declared.units.Weight.{Weight}
use Rattle.edetector.specs.declared.units.Factor.{Factor}
use Rattle.edetector.specs.declared.value.ValueFault.{ValueFault}
use Rattle.edetector.specs.declared.value.ValueFault.TheVariants.{Classes, Weight as WeightFault, Total, Threshold, NullTables, Alternative}

-- the number of each refusal of a value
abbrev pub value_number : ValueFault → ℕ
value_number Classes = 1
value_number WeightFault = 2
value_number Total = 3
value_number Threshold = 4
value_number NullTables = 6
value_number Alternative = 8

-- how many classes a table has at the least, and at the most
abbrev pub fewest_classes : ℕ
fewest_classes = 2

abbrev pub most_classes : ℕ
most_classes = 16

-- the largest weight, and the largest total
abbrev pub most_weight : ℕ
most_weight = 65536

abbrev pub most_total : ℕ
most_total = 65536

-- n lies from low to high, both counted
abbrev pub is_within : ℕ → ℕ → ℕ → Bool
is_within low high n = nat_le low n && nat_le n high

-- every weight lies from low to the largest
abbrev pub weights_within : ℕ → List ℕ → Bool
weights_within low ws = list_all (is_within low most_weight) ws

-- the first limit that a table breaks whose weights are to be at least low:
-- the number of classes, then each weight, then the total
abbrev pub table_fault : ℕ → List ℕ → Option ValueFault
table_fault low ws =
    if not (is_within fewest_classes most_classes (length ws)) then Some Classes
    else if not (weights_within low ws) then Some WeightFault
    else if not (is_within 1 most_total (sum ws)) then Some Total
    else None

-- in a null table no weight is 0; in an alternative table a weight may be
abbrev pub null_fault : List ℕ → Option ValueFault
null_fault ws = table_fault 1 ws

abbrev pub alternative_fault : List ℕ → Option ValueFault
alternative_fault ws = table_fault 0 ws

-- a value, unless there is a fault
abbrev pub unless_fault : {X E : Type 0} → Option E → X → Result X E
unless_fault None x = Ok x
unless_fault (Some fault) x = Err fault

-- the class of a count, out of so many classes: the count's own number, or the last class
abbrev pub class_of : ℕ → ℕ → ℕ
class_of classes count = min count (classes - 1)

-- the factor that leaves a bet as it is: factors are in parts of it
abbrev pub unit_factor : ℕ
unit_factor = 4096

-- a row is fair against a table: weighed by the table, a factor is on average at most the unit factor
abbrev pub IsFair : List ℕ → List ℕ → Type 0
IsFair ws row = sum_by (λ p. p.0 * p.1) (zip ws row) ≤ unit_factor * sum ws

abbrev pub weights_in : List Weight → List ℕ
weights_in ws = map (λ w. w.0) ws

abbrev pub factors_in : List Factor → List ℕ
factors_in es = map (λ e. e.0) es

-- a row in as many places as a table can have classes: the factors es, and zeros behind them
abbrev pub padded_row : List ℕ → List ℕ
padded_row es = es ++ replicate (most_classes - length es) 0
