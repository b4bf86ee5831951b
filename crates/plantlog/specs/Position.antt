-- Where a reader stands.
use Rattle.std.specs.Prelude.{ℕ, ◌+◌, List, drop, Ok, Err, Result}
use Rattle.plantlog.specs.Calls.{span, rest_behind}

-- a reader: the log that is read, the byte from 0 at which the next record begins, and how many records were moved past
pub record Reading : Type 0 where
  pub log : List ℕ
  pub place : ℕ
  pub records : ℕ

pub record Position : Type 0 where
  pub place : ℕ
  pub records : ℕ

abbrev pub position : Reading → Position
position r = record { place = r.place; records = r.records }

abbrev pub log_of : Reading → List ℕ
log_of r = r.log

-- the bytes that are left
abbrev pub left_in : Reading → List ℕ
left_in r = drop r.place r.log

-- behind the record in front
abbrev pub behind : List ℕ → Position → Position
behind left p = record { place = p.place + span left; records = p.records + 1 }

-- after a call: behind the record in front if the call was accepted, else where it stood
abbrev pub moved : {X E : Type 0} → Result X E → List ℕ → Position → Position
moved (Ok x) left p = behind left p
moved (Err e) left p = p

-- what is left then
abbrev pub left_after : {X E : Type 0} → Result X E → List ℕ → List ℕ
left_after (Ok x) left = rest_behind left
left_after (Err e) left = left
