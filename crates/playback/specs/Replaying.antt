-- A replay: the log's records, one after the other, until its end or the first fault.
use Rattle.std.specs.Prelude.{ℕ, ◌+◌, Some, None, Ok, Err, Option, Result}
use Rattle.edetector.specs.Monitors.{Terms}
use Rattle.plantlog.specs.declared.fault.FrontFault.TheVariants.{NoneLeft}
use Rattle.plantlog.specs.declared.fault.RecordFault.TheVariants.{Front}
use Rattle.plantlog.specs.Format.{Count, Rearm, End}
use Rattle.playback.specs.declared.stop.ReplayFault.{ReplayFault}
use Rattle.playback.specs.declared.stop.ReplayFault.TheVariants.{Record, NotAllowed, Trailing}
use Rattle.playback.specs.declared.stop.Fault.{Fault}
pub use Rattle.playback.specs.declared.spot.Spot.{Spot}
use Rattle.playback.specs.Stream.{Stream, Over, Broken, Next}
use Rattle.playback.specs.Watch.{Watch, Places, count_read, rearm_read, end_read}

-- the bytes that a log has at most
abbrev pub longest : ℕ
longest = 65536

-- where a log begins, and where no record is
abbrev pub first_spot : Spot
first_spot = record { number = 1; byte = 0 }

abbrev pub nowhere : Spot
nowhere = record { number = 0; byte = 0 }

abbrev pub behind : Spot → ℕ → Spot
behind at taken = record { number = at.number + 1; byte = at.byte + taken }

-- the fault of a cause at a spot
abbrev pub fault_in : Spot → ReplayFault → Fault
fault_in at cause = record { cause = cause; «record» = at.number; byte = at.byte }

abbrev pub fault_at : Spot → ReplayFault → Option Fault
fault_at at cause = Some (fault_in at cause)

-- where the monitor and the books stand at the end, and the fault if there was one
pub record Finish : Type 0 where
  pub watch : Watch
  pub fault : Option Fault

abbrev pub stopped : Watch → Option Fault → Finish
stopped w f = record { watch = w; fault = f }

-- go on where a record was taken, and stop at it where it was not
abbrev pub went : Spot → (Watch → Finish) → Result (Unit {0}) ReplayFault → Watch → Finish
went at go (Ok u) w = go w
went at go (Err f) w = stopped w (fault_at at f)

-- an end has to be the last of a log
abbrev pub at_end : Stream → Spot → Watch → Finish
at_end Over at w = stopped w None
at_end (Broken e) at w = stopped w (fault_at at Trailing)
at_end (Next f n rest) at w = stopped w (fault_at at Trailing)

-- what is left of a log behind its header: each count and rearm in its turn, up to the end or a fault
abbrev pub watching : Terms → Places → Stream → Spot → Watch → Finish
watching t p Over at w = stopped w (fault_at at (Record (Front NoneLeft)))
watching t p (Broken e) at w = stopped w (fault_at at (Record e))
watching t p (Next (Count head count) n rest) at w =
    let d = count_read t p w at.number head.day count in went at (watching t p rest (behind at n)) d.answer d.after
watching t p (Next Rearm n rest) at w = let d = rearm_read t w in went at (watching t p rest (behind at n)) d.answer d.after
watching t p (Next (End counts) n rest) at w = let d = end_read w counts in went at (at_end rest (behind at n)) d.answer d.after
watching t p (Next _ n rest) at w = stopped w (fault_at at NotAllowed)
