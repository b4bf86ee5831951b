-- The laws of the format: what was written is read back, what is read was written so and in no other way, and what is refused
-- is refused by the number that its bytes ask for.
use Rattle.std.specs.Prelude.{◌≡◌, ℕ, zero, suc, true, false, List, [], ◌∷◌, ◌++◌, length, Ok, Err, Result}
use Rattle.plantlog.specs.declared.fault.RecordFault.{RecordFault}
use Rattle.plantlog.specs.Bytes.{Bytes}
use Rattle.plantlog.specs.Results.{of_ok, of_err, and_then}
use Rattle.plantlog.specs.Format.{Fields, record_bytes, Writable}
use Rattle.plantlog.specs.FirstRecord.{first_record}
use Rattle.plantlog.specs.RecordFaults.{record_fault_number}
use Rattle.plantlog.specs.Calls.{asked, next_count, next_other}
use Rattle.plantlog.specs.Refusals.{Refused, AskRefused, CallRefused}

abbrev pub AllWritable : List Fields → Type 0
AllWritable [] = Unit {0}
AllWritable (f ∷ fs) = Writable f × AllWritable fs

-- records written one after the other
abbrev pub log_bytes : List Fields → List ℕ
log_bytes [] = []
log_bytes (f ∷ fs) = record_bytes f ++ log_bytes fs

-- so many records read one after the other, and the bytes behind them
abbrev pub records_in : ℕ → List ℕ → Result (List Fields × List ℕ) RecordFault
records_in zero bs = Ok ([], bs)
records_in (suc k) bs = and_then (first_record bs) (λ p. of_ok (λ q. (p.0 ∷ q.0, q.1)) (records_in k p.1))

-- a record that was written is read back, and what follows it is left
abbrev pub ReadBack : Type 0
ReadBack = (f : Fields) (rest : List ℕ) → Writable f → first_record (record_bytes f ++ rest) ≡ Ok (f, rest)

-- bytes that are read as a record are the writing of that record, which the writer accepts
abbrev pub WrittenSo : Type 0
WrittenSo = (bs : List ℕ) (f : Fields) (rest : List ℕ) → Bytes bs → first_record bs ≡ Ok (f, rest) → (bs ≡ record_bytes f ++ rest) × Writable f

-- bytes that are refused are refused by a number that their conditions give
abbrev pub RefusedSo : Type 0
RefusedSo = (bs : List ℕ) (e : RecordFault) → Bytes bs → first_record bs ≡ Err e → Refused bs (record_fault_number e)

-- and bytes to which the conditions give a number are refused by it
abbrev pub SoRefused : Type 0
SoRefused = (bs : List ℕ) (n : ℕ) → Refused bs n → (e : RecordFault) × (first_record bs ≡ Err e) × (record_fault_number e ≡ n)

-- the same of calls: of one that asks, of one that shows or passes over a count, and of one that reads another record
abbrev pub CallsRefusedSo : Type 0
CallsRefusedSo = (room : ℕ) (left : List ℕ) (e : RecordFault) → Bytes left →
    (asked room left ≡ Err e → AskRefused room left (record_fault_number e))
    × (next_count room left ≡ Err e → CallRefused true room left (record_fault_number e))
    × (next_other room left ≡ Err e → CallRefused false room left (record_fault_number e))

abbrev pub SoCallsRefused : Type 0
SoCallsRefused = (room : ℕ) (left : List ℕ) (n : ℕ) →
    (AskRefused room left n → (e : RecordFault) × (asked room left ≡ Err e) × (record_fault_number e ≡ n))
    × (CallRefused true room left n → (e : RecordFault) × (next_count room left ≡ Err e) × (record_fault_number e ≡ n))
    × (CallRefused false room left n → (e : RecordFault) × (next_other room left ≡ Err e) × (record_fault_number e ≡ n))

-- a log that was written is read back record by record
abbrev pub LogReadBack : Type 0
LogReadBack = (fs : List Fields) (rest : List ℕ) → AllWritable fs → records_in (length fs) (log_bytes fs ++ rest) ≡ Ok (fs, rest)

-- bytes that are read as records are the writing of those records
abbrev pub LogWrittenSo : Type 0
LogWrittenSo = (k : ℕ) (bs : List ℕ) (fs : List Fields) (rest : List ℕ) → Bytes bs → records_in k bs ≡ Ok (fs, rest) → (bs ≡ log_bytes fs ++ rest) × AllWritable fs

-- two byte strings that read as the same records, with nothing left, are one
abbrev pub OneWriting : Type 0
OneWriting = (j k : ℕ) (bs cs : List ℕ) (fs : List Fields) → Bytes bs → Bytes cs → records_in j bs ≡ Ok (fs, []) → records_in k cs ≡ Ok (fs, []) → bs ≡ cs

-- records by the number that refuses them
abbrev pub refusal_of : List ℕ → Result (List ℕ) ℕ
refusal_of bs = of_err record_fault_number (of_ok (λ p. p.1) (first_record bs))

-- a setup of threshold 0, of a rule and of a bettor that is none; one class; a weight of 0, and a total above its limit; a number
-- that stops, one that is padded, and one that is too wide; a byte too many; no kind; a length of 0 and of 64; a body cut off; no byte at all
abbrev pub WorkedRefusals : Type 0
WorkedRefusals =
    (refusal_of (2 ∷ 2 ∷ 0 ∷ []) ≡ Err 4)
    × (refusal_of (3 ∷ 2 ∷ 1 ∷ 3 ∷ []) ≡ Err 25)
    × (refusal_of (4 ∷ 2 ∷ 1 ∷ 1 ∷ 4 ∷ []) ≡ Err 25)
    × (refusal_of (2 ∷ 1 ∷ 1 ∷ []) ≡ Err 1)
    × (refusal_of (3 ∷ 1 ∷ 2 ∷ 0 ∷ []) ≡ Err 2)
    × (refusal_of (6 ∷ 1 ∷ 2 ∷ 0x80 ∷ 0x80 ∷ 4 ∷ 1 ∷ []) ≡ Err 3)
    × (refusal_of (2 ∷ 4 ∷ 0xac ∷ []) ≡ Err 11)
    × (refusal_of (3 ∷ 4 ∷ 0x80 ∷ 0 ∷ []) ≡ Err 12)
    × (refusal_of (6 ∷ 4 ∷ 0xff ∷ 0xff ∷ 0xff ∷ 0xff ∷ 0x10 ∷ []) ≡ Err 13)
    × (refusal_of (2 ∷ 5 ∷ 0 ∷ []) ≡ Err 24)
    × (refusal_of (1 ∷ 7 ∷ []) ≡ Err 23)
    × (refusal_of (0 ∷ []) ≡ Err 21)
    × (refusal_of (64 ∷ []) ≡ Err 21)
    × (refusal_of (2 ∷ 5 ∷ []) ≡ Err 22)
    × (refusal_of [] ≡ Err 45)
