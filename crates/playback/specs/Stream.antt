-- A log as it is read.
use Rattle.std.specs.Prelude.{ℕ, zero, suc, List, [], ◌∷◌, length, Ok, Err, Result}
use Rattle.plantlog.specs.declared.fault.RecordFault.{RecordFault}
use Rattle.plantlog.specs.Format.{Fields}
use Rattle.plantlog.specs.FirstRecord.{first_record}
use Rattle.plantlog.specs.Calls.{span}

-- record after record, until no byte is left or a record is refused;
-- with each record how many bytes it takes
pub data Stream : Type 0 where
  Over : Stream
  Broken : RecordFault → Stream
  Next : Fields → ℕ → Stream → Stream

abbrev pub opened : (List ℕ → Stream) → ℕ → Result (Fields × List ℕ) RecordFault → Stream
opened go taken (Ok p) = Next p.0 taken (go p.1)
opened go taken (Err e) = Broken e

-- at most n records
abbrev pub stream_by : ℕ → List ℕ → Stream
stream_by zero bs = Over
stream_by (suc n) [] = Over
stream_by (suc n) (b ∷ bs) = opened (stream_by n) (span (b ∷ bs)) (first_record (b ∷ bs))

-- a record takes a byte at least, so these are all
abbrev pub stream_of : List ℕ → Stream
stream_of bs = stream_by (length bs) bs
