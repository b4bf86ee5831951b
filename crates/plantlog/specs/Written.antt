-- What writing a record answers, and what the buffer holds then.
use Rattle.std.specs.Prelude.{◌≡◌, ℕ, ◌≤◌, if◌then◌else◌, List, ◌∷◌, ◌++◌, length, drop, IfOk, Ok, Err, Result, nat_le}
use Rattle.edetector.specs.Tables.{table_fault, unless_fault}
use Rattle.plantlog.specs.FirstRecord.{longest_body, first_record}
use Rattle.plantlog.specs.declared.fault.RecordFault.{RecordFault}
use Rattle.plantlog.specs.declared.fault.RecordFault.TheVariants.{WriteBuffer}
use Rattle.plantlog.specs.declared.record.RecordKind.{RecordKind}
use Rattle.plantlog.specs.Results.{of_ok, and_then}
use Rattle.plantlog.specs.Layouts.{of_value}
use Rattle.plantlog.specs.Format.{Fields, Sayable, kind_of, numbers, body, fields_fault, record_bytes}

-- the fields break no limit, or the first that they break
abbrev pub fields_judged : Fields → Result (Unit {0}) RecordFault
fields_judged f = unless_fault (fields_fault f) tt

-- so many bytes into a buffer of so many, or it is too short
abbrev pub room_judged : ℕ → ℕ → Result ℕ RecordFault
room_judged long room = if nat_le long room then Ok long else Err WriteBuffer

-- how many bytes were written, after the fields and last the buffer were judged
abbrev pub write_answer : Fields → ℕ → Result ℕ RecordFault
write_answer f room = and_then (fields_judged f) (λ _. room_judged (length (record_bytes f)) room)

-- the record in front and the bytes after it as they were; at a refusal all as it was
abbrev pub after_write : Result ℕ RecordFault → List ℕ → List ℕ → List ℕ
after_write (Ok n) bytes old = bytes ++ drop n old
after_write (Err e) bytes old = old

-- what a call of the writer gave and left in its buffer: a record that was written is read back from there; and the fields
-- are judged as a reader judges their bytes, as far as these are those of numbers of 32 bits and no more than a body has
pub record Wrote (f : Fields) (old : List ℕ) (r : Result ℕ RecordFault) (out : List ℕ) : Type 0 where
  pub value : r ≡ write_answer f (length old)
  pub after : out ≡ after_write r (record_bytes f) old
  pub back : IfOk r (λ n. first_record out ≡ Ok (f, drop n old))
  pub fits : IfOk r (λ n. n ≤ length old)
  pub as_read : (rest : List ℕ) → Sayable (numbers f) → length (body f) ≤ longest_body →
      first_record (record_bytes f ++ rest) ≡ of_ok {U = Fields × List ℕ} (λ u. (f, rest)) (fields_judged f)

-- the fields are those of a table: its kind, its weights, and the limits that it may break
pub record SaysTable (of : RecordKind) (least : ℕ) (ws : List ℕ) (f : Fields) : Type 0 where
  pub kind : kind_of f ≡ of
  pub numbers : numbers f ≡ length ws ∷ ws
  pub limits : fields_fault f ≡ of_value (table_fault least ws)
