-- What the reader's calls answer on the bytes that are left.
use Rattle.std.specs.Prelude.{ℕ, ◌+◌, if◌then◌else◌, List, [], ◌∷◌, Some, None, Ok, Err, Option, Result, nat_le}
use Rattle.plantlog.specs.declared.fault.RecordFault.{RecordFault}
use Rattle.plantlog.specs.declared.fault.RecordFault.TheVariants.{ReceiveBuffer, WrongCall}
use Rattle.plantlog.specs.declared.record.Announced.{Announced}
use Rattle.plantlog.specs.Results.{of_ok, and_then}
use Rattle.plantlog.specs.Format.{Fields, Count, announced}
use Rattle.plantlog.specs.FirstRecord.{longest_body, first_record}

-- how many bytes the record in front takes: its length byte, and as many as that says
abbrev pub span : List ℕ → ℕ
span [] = 0
span (l ∷ bs) = l + 1

-- r, unless the receive buffer, of so many bytes, is too short for the longest body
abbrev pub roomy : {X : Type 0} → ℕ → Result X RecordFault → Result X RecordFault
roomy room r = if nat_le longest_body room then r else Err ReceiveBuffer

-- the next record
abbrev pub next_in : ℕ → List ℕ → Result (Fields × List ℕ) RecordFault
next_in room left = roomy room (first_record left)

-- asking: what the next record tells, or that none is left
abbrev pub asked : ℕ → List ℕ → Result (Option Announced) RecordFault
asked room [] = roomy room (Ok None)
asked room (b ∷ bs) = of_ok (λ p. Some (announced p.0)) (next_in room (b ∷ bs))

-- for a call that wants a count
abbrev pub only_count : Fields → Result ℕ RecordFault
only_count (Count head count) = Ok count
only_count _ = Err WrongCall

-- for a call that wants another record
abbrev pub no_count : Fields → Result Fields RecordFault
no_count (Count head count) = Err WrongCall
no_count f = Ok f

-- what a call answers that wants a count
abbrev pub next_count : ℕ → List ℕ → Result ℕ RecordFault
next_count room left = and_then (next_in room left) (λ p. only_count p.0)

-- what a call answers that wants another record
abbrev pub next_other : ℕ → List ℕ → Result Fields RecordFault
next_other room left = and_then (next_in room left) (λ p. no_count p.0)

-- what an answer leaves of the bytes
abbrev pub rest_of : Result (Fields × List ℕ) RecordFault → List ℕ → List ℕ
rest_of (Ok p) left = p.1
rest_of (Err e) left = left

-- the bytes behind the record in front, or all of them where none is read
abbrev pub rest_behind : List ℕ → List ℕ
rest_behind left = rest_of (first_record left) left
