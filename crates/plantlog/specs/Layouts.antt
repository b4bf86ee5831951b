-- The layout of each kind of record: its first byte, and its fields in their order.
use Rattle.std.specs.Prelude.{ℕ, if◌then◌else◌, List, [], ◌∷◌, ◌++◌, length, Some, None, Option}
use Rattle.edetector.specs.Rules.{most_threshold}
use Rattle.edetector.specs.declared.value.ValueFault.{ValueFault}
use Rattle.edetector.specs.declared.value.ValueFault.TheVariants.{Threshold}
use Rattle.edetector.specs.Tables.{is_within, table_fault}
use Rattle.plantlog.specs.declared.fault.RecordFault.{RecordFault}
use Rattle.plantlog.specs.declared.fault.RecordFault.TheVariants.{Value, UnknownChoice}
use Rattle.plantlog.specs.declared.record.RecordKind.{RecordKind}
use Rattle.plantlog.specs.declared.record.RecordKind.TheVariants.{Table, Setup, Alternative, Count, Rearm, End}

-- a field: any number; a number from the one to the other, or else the refusal; the weights of a table, each at least so much,
-- behind how many they are
pub data Field : Type 0 where
  AnyNumber : Field
  NumberWithin : (low high : ℕ) → RecordFault → Field
  TableWeights : (least : ℕ) → Field

abbrev pub kinds : List RecordKind
kinds = Table ∷ Setup ∷ Alternative ∷ Count ∷ Rearm ∷ End ∷ []

abbrev pub kind_byte : RecordKind → ℕ
kind_byte Table = 1
kind_byte Setup = 2
kind_byte Alternative = 3
kind_byte Count = 4
kind_byte Rearm = 5
kind_byte End = 6

-- the number of a rule, and of a bettor
abbrev pub rule_field : Field
rule_field = NumberWithin 1 2 UnknownChoice

abbrev pub bettor_field : Field
bettor_field = NumberWithin 1 3 UnknownChoice

-- the fields: of a setup its threshold, rule and bettor; of a count its day and its count; of an end how many counts there are
abbrev pub layout : RecordKind → List Field
layout Table = TableWeights 1 ∷ []
layout Setup = NumberWithin 1 most_threshold (Value Threshold) ∷ rule_field ∷ bettor_field ∷ []
layout Alternative = TableWeights 0 ∷ []
layout Count = AnyNumber ∷ AnyNumber ∷ []
layout Rearm = []
layout End = AnyNumber ∷ []

-- what a field says: its number, or its weights
abbrev pub Said : Field → Type 0
Said AnyNumber = ℕ
Said (NumberWithin low high fault) = ℕ
Said (TableWeights least) = List ℕ

abbrev pub AllSaid : List Field → Type 0
AllSaid [] = Unit {0}
AllSaid (f ∷ fs) = Said f × AllSaid fs

-- the numbers that say it: weights behind how many they are
abbrev pub field_numbers : (f : Field) → Said f → List ℕ
field_numbers AnyNumber n = n ∷ []
field_numbers (NumberWithin low high fault) n = n ∷ []
field_numbers (TableWeights least) ws = length ws ∷ ws

abbrev pub all_numbers : (fs : List Field) → AllSaid fs → List ℕ
all_numbers [] said = []
all_numbers (f ∷ fs) said = field_numbers f said.0 ++ all_numbers fs said.1

-- the limit that it breaks, or none
abbrev pub limit_fault : (low high : ℕ) → RecordFault → ℕ → Option RecordFault
limit_fault low high fault n = if is_within low high n then None else Some fault

abbrev pub of_value : Option ValueFault → Option RecordFault
of_value None = None
of_value (Some f) = Some (Value f)

abbrev pub field_fault : (f : Field) → Said f → Option RecordFault
field_fault AnyNumber n = None
field_fault (NumberWithin low high fault) n = limit_fault low high fault n
field_fault (TableWeights least) ws = of_value (table_fault least ws)

-- the first fault, or else the second
abbrev pub first_of : Option RecordFault → Option RecordFault → Option RecordFault
first_of None second = second
first_of (Some fault) second = Some fault

-- the first limit that fields break, from the left, or none
abbrev pub first_fault : (fs : List Field) → AllSaid fs → Option RecordFault
first_fault [] said = None
first_fault (f ∷ fs) said = first_of (field_fault f said.0) (first_fault fs said.1)
