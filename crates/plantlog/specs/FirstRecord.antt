-- The record at the front of some bytes, or the first condition that refuses it.
use Rattle.std.specs.Prelude.{ℕ, zero, suc, if◌then◌else◌, List, [], ◌∷◌, length, take, drop, sum, Some, None, Ok, Err, Option, Result, ◌==◌, nat_le}
use Rattle.edetector.specs.declared.value.ValueFault.TheVariants.{Classes, Weight, Total}
use Rattle.edetector.specs.Tables.{fewest_classes, most_classes, most_weight, most_total, is_within, unless_fault}
use Rattle.plantlog.specs.declared.fault.FrontFault.{FrontFault}
use Rattle.plantlog.specs.declared.fault.FrontFault.TheVariants.{NoneLeft, LengthByte, Truncated}
use Rattle.plantlog.specs.declared.fault.RecordFault.{RecordFault}
use Rattle.plantlog.specs.declared.fault.RecordFault.TheVariants.{Front, Value, Number, UnknownKind, LeftOver}
use Rattle.plantlog.specs.declared.record.RecordKind.{RecordKind}
use Rattle.plantlog.specs.Results.{of_ok, of_err, and_then}
use Rattle.plantlog.specs.Numbers.{first_number}
use Rattle.plantlog.specs.Layouts.{Field, AnyNumber, NumberWithin, TableWeights, Said, AllSaid, kinds, kind_byte, layout, limit_fault}
use Rattle.plantlog.specs.Format.{Fields, says}

-- the bytes that a body has at most
abbrev pub longest_body : ℕ
longest_body = 63

-- the next number, with the bytes behind it
unfoldable pub any_number : List ℕ → Result (ℕ × List ℕ) RecordFault
any_number bs = of_err Number (first_number bs)

-- a number that has to lie from low to high
unfoldable pub number_within : (low high : ℕ) → RecordFault → List ℕ → Result (ℕ × List ℕ) RecordFault
number_within low high fault bs = and_then (any_number bs) (λ n. unless_fault (limit_fault low high fault n.0) n)

-- k weights of at least so much
abbrev pub weights : ℕ → ℕ → List ℕ → Result (List ℕ × List ℕ) RecordFault
weights least zero bs = Ok ([], bs)
weights least (suc k) bs =
    and_then (number_within least most_weight (Value Weight) bs) (λ w. of_ok (λ ws. (w.0 ∷ ws.0, ws.1)) (weights least k w.1))

-- the number of classes, and as many weights
unfoldable pub all_weights : ℕ → List ℕ → Result (List ℕ × List ℕ) RecordFault
all_weights least bs = and_then (number_within fewest_classes most_classes (Value Classes) bs) (λ k. weights least k.0 k.1)

-- a field, with the bytes behind it; of weights the total is judged last
abbrev pub read_field : (f : Field) → List ℕ → Result (Said f × List ℕ) RecordFault
read_field AnyNumber bs = any_number bs
read_field (NumberWithin low high fault) bs = number_within low high fault bs
read_field (TableWeights least) bs = and_then (all_weights least bs) (λ ws. unless_fault (limit_fault 1 most_total (Value Total) (sum ws.0)) ws)

-- nothing may follow the last field
abbrev pub no_more : List ℕ → Result (Unit {0}) RecordFault
no_more [] = Ok tt
no_more (b ∷ bs) = Err LeftOver

-- fields one after the other, and then nothing more
abbrev pub read_fields : (fs : List Field) → List ℕ → Result (AllSaid fs) RecordFault
read_fields [] bs = no_more bs
read_fields (f ∷ fs) bs = and_then (read_field f bs) (λ p. of_ok (λ said. (p.0, said)) (read_fields fs p.1))

unfoldable pub kind_fields : RecordKind → List ℕ → Result Fields RecordFault
kind_fields k bs = of_ok (says k) (read_fields (layout k) bs)

-- the kind among these whose byte it is
abbrev pub kind_among : List RecordKind → ℕ → Option RecordKind
kind_among [] byte = None
kind_among (k ∷ ks) byte = if byte == kind_byte k then Some k else kind_among ks byte

abbrev pub by_kind : Option RecordKind → List ℕ → Result Fields RecordFault
by_kind None bs = Err UnknownKind
by_kind (Some k) bs = kind_fields k bs

-- a body; no length byte gives an empty one
unfoldable pub body_fields : List ℕ → Result Fields RecordFault
body_fields [] = Err UnknownKind
body_fields (byte ∷ bs) = by_kind (kind_among kinds byte) bs

-- the body in front, by its length byte, and the bytes behind it
unfoldable pub front : List ℕ → Result (List ℕ × List ℕ) FrontFault
front [] = Err NoneLeft
front (l ∷ bs) =
    if is_within 1 longest_body l
    then (if nat_le l (length bs) then Ok (take l bs, drop l bs) else Err Truncated)
    else Err LengthByte

-- the record in front and the bytes behind it
unfoldable pub first_record : List ℕ → Result (Fields × List ℕ) RecordFault
first_record bs = and_then (of_err Front (front bs)) (λ p. of_ok (λ f. (f, p.1)) (body_fields p.0))
