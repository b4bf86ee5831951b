-- What is left of a log, and what was in the part that a replay moved past.
use Rattle.std.specs.Prelude.{ℕ, ◌+◌, List, if◌then◌else◌, length, nat_le, Some, None, Ok, Err, Option, Result}
use Rattle.plantlog.specs.Calls.{span, rest_behind}
use Rattle.playback.specs.declared.stop.Fault.{Fault}
use Rattle.playback.specs.declared.stop.ReplayFault.{ReplayFault}
use Rattle.playback.specs.declared.stop.ReplayFault.TheVariants.{TooLong}
use Rattle.playback.specs.Replaying.{Spot, longest, first_spot, nowhere, behind, fault_in}

-- the bytes that are left, where they begin, the last count's day, and how many counts there were
pub record Rest : Type 0 where
  pub left : List ℕ
  pub at : Spot
  pub last : Option ℕ
  pub counts : ℕ

-- a cause is told with its spot
abbrev pub at_spot : {X : Type 0} → Spot → Result X ReplayFault → Result X Fault
at_spot at (Ok x) = Ok x
at_spot at (Err cause) = Err (fault_in at cause)

-- a log before its first record; a log of more than 65,536 bytes is not taken
abbrev pub whole : List ℕ → Rest
whole log = record { left = log; at = first_spot; last = None; counts = 0 }

abbrev pub taken_whole : List ℕ → Result Rest Fault
taken_whole log = if nat_le (length log) longest then Ok (whole log) else Err (fault_in nowhere TooLong)

-- behind a record in front that is no count, or that is a count of the day
abbrev pub behind_record : Rest → Rest
behind_record r = record r { left = rest_behind r.left; at = behind r.at (span r.left) }

abbrev pub behind_count : ℕ → Rest → Rest
behind_count day r = record (behind_record r) { last = Some day; counts = r.counts + 1 }

-- an accepted record is moved past
abbrev pub moved_if : {X E : Type 0} → Result X E → Rest → Rest → Rest
moved_if (Ok x) past stood = past
moved_if (Err e) past stood = stood
