-- When the record in front is refused, and by which number: each refusal by what stands there, and nothing of how it is read.
use Rattle.std.specs.Prelude.{◌≡◌, ℕ, ◌<◌, ◌≤◌, ◌⊎◌, Bool, true, false, List, [], ◌∷◌, ◌++◌, length, sum, None}
use Rattle.edetector.specs.Tables.{fewest_classes, most_classes, most_weight, most_total, is_within, weights_within}
use Rattle.plantlog.specs.declared.number.NumberFault.{NumberFault}
use Rattle.plantlog.specs.declared.record.RecordKind.{RecordKind}
use Rattle.plantlog.specs.NumberFaults.{number_fault_number}
use Rattle.plantlog.specs.RecordFaults.{record_fault_number}
use Rattle.plantlog.specs.Numbers.{Malformed}
use Rattle.plantlog.specs.Layouts.{Field, AnyNumber, NumberWithin, TableWeights, Said, kind_byte, layout, field_numbers, field_fault}
use Rattle.plantlog.specs.Format.{Fields, Count, numbers_bytes, framed, record_bytes, Sayable, Writable}
use Rattle.plantlog.specs.FirstRecord.{longest_body}

-- the bytes are those numbers of 32 bits, and then the rest
abbrev pub BeginsWith : List ℕ → List ℕ → List ℕ → Type 0
BeginsWith bs ns rest = (bs ≡ numbers_bytes ns ++ rest) × Sayable ns

-- no number stands in front
abbrev pub NumberRefused : List ℕ → ℕ → Type 0
NumberRefused bs n = (cause : NumberFault) × Malformed cause bs × (n ≡ number_fault_number cause)

-- no number stands in front, or one that is not within its limits, which is refused by a number of its own
abbrev pub LimitRefused : (low high code : ℕ) → List ℕ → ℕ → Type 0
LimitRefused low high code bs n =
    NumberRefused bs n ⊎ ((m : ℕ) × (rest : List ℕ) × BeginsWith bs (m ∷ []) rest × (is_within low high m ≡ false) × (n ≡ code))

-- the number of classes and the weights before are within their limits, and the next weight is refused
pub record WeightRefused (least : ℕ) (bs : List ℕ) (n : ℕ) : Type 0 where
  pub classes : ℕ
  pub before : List ℕ
  pub rest : List ℕ
  pub holds : BeginsWith bs (classes ∷ before) rest
  pub classes_within : is_within fewest_classes most_classes classes ≡ true
  pub each : weights_within least before ≡ true
  pub fewer : length before < classes
  pub next : LimitRefused least most_weight 2 rest n

-- all weights stand there and are within their limits, and their total is not
pub record TotalRefused (least : ℕ) (bs : List ℕ) (n : ℕ) : Type 0 where
  pub weights : List ℕ
  pub rest : List ℕ
  pub holds : BeginsWith bs (length weights ∷ weights) rest
  pub classes_within : is_within fewest_classes most_classes (length weights) ≡ true
  pub each : weights_within least weights ≡ true
  pub total : is_within 1 most_total (sum weights) ≡ false
  pub number : n ≡ 3

-- the field in front is refused: the number of classes, a weight, then their total
abbrev pub FieldRefused : Field → List ℕ → ℕ → Type 0
FieldRefused AnyNumber bs n = NumberRefused bs n
FieldRefused (NumberWithin low high fault) bs n = LimitRefused low high (record_fault_number fault) bs n
FieldRefused (TableWeights least) bs n =
    LimitRefused fewest_classes most_classes 1 bs n ⊎ (WeightRefused least bs n ⊎ TotalRefused least bs n)

-- the field in front breaks no limit, and the rest is behind it
abbrev pub FieldHolds : (f : Field) → Said f → List ℕ → List ℕ → Type 0
FieldHolds f said bs rest = BeginsWith bs (field_numbers f said) rest × (field_fault f said ≡ None)

-- the first field that is refused, from the left; or bytes are left behind the last
abbrev pub FieldsRefused : List Field → List ℕ → ℕ → Type 0
FieldsRefused [] bs n = (bs ≡ [] → ⊥) × (n ≡ 24)
FieldsRefused (f ∷ fs) bs n =
    FieldRefused f bs n ⊎ ((said : Said f) × (rest : List ℕ) × FieldHolds f said bs rest × FieldsRefused fs rest n)

-- no kind has the first byte; or the fields behind it are refused
abbrev pub BodyRefused : List ℕ → ℕ → Type 0
BodyRefused body n =
    (((k : RecordKind) (bs : List ℕ) → body ≡ kind_byte k ∷ bs → ⊥) × (n ≡ 23))
    ⊎ ((k : RecordKind) × (bs : List ℕ) × (body ≡ kind_byte k ∷ bs) × FieldsRefused (layout k) bs n)

-- no byte is left; a length byte that no body has; fewer bytes behind it; or the body is refused that stands behind it
pub data Refused (bs : List ℕ) (n : ℕ) : Type 0 where
  NoByte : bs ≡ [] → n ≡ 45 → Refused bs n
  BadLength : (l : ℕ) (rest : List ℕ) → bs ≡ l ∷ rest → is_within 1 longest_body l ≡ false → n ≡ 21 → Refused bs n
  CutOff : (l : ℕ) (rest : List ℕ) → bs ≡ l ∷ rest → is_within 1 longest_body l ≡ true → length rest < l → n ≡ 22 → Refused bs n
  InBody : (body rest : List ℕ) → bs ≡ framed body ++ rest → is_within 1 longest_body (length body) ≡ true → BodyRefused body n → Refused bs n

-- asking is refused with a receive buffer of so many bytes: the longest body may not fit; else the bytes that are left are
-- refused, if any are left
pub data AskRefused (room : ℕ) (left : List ℕ) (n : ℕ) : Type 0 where
  NoRoomToAsk : room < longest_body → n ≡ 27 → AskRefused room left n
  NoneToTell : longest_body ≤ room → (left ≡ [] → ⊥) → Refused left n → AskRefused room left n

-- whether it is a count
abbrev pub is_count : Fields → Bool
is_count (Count head count) = true
is_count f = false

-- a call is refused that wants a count, or that wants none, with a receive buffer of so many bytes: the longest body may not
-- fit; else the bytes that are left are refused; else a sound record of the other sort stands in front
pub data CallRefused (count : Bool) (room : ℕ) (left : List ℕ) (n : ℕ) : Type 0 where
  NoRoom : room < longest_body → n ≡ 27 → CallRefused count room left n
  NoRecord : longest_body ≤ room → Refused left n → CallRefused count room left n
  OtherSort : longest_body ≤ room → (f : Fields) (rest : List ℕ) → left ≡ record_bytes f ++ rest → Writable f → (is_count f ≡ count → ⊥) → n ≡ 28 → CallRefused count room left n
