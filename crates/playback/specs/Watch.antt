-- What a replay does with each record, by the calls of its monitor.
use Rattle.std.specs.Prelude.{ℕ, ◌+◌, Bool, true, false, if◌then◌else◌, List, [], ◌∷◌, ◌++◌, Some, Ok, Err, Option, Result, ◌==◌}
use Rattle.edetector.specs.declared.state.State.{State}
use Rattle.edetector.specs.declared.state.State.TheVariants.{Armed, Staked, Rung}
use Rattle.edetector.specs.declared.slip.OpenSlip.{OpenSlip}
use Rattle.edetector.specs.declared.slip.ShownSlip.{ShownSlip}
use Rattle.edetector.specs.declared.fault.MonitorFault.{MonitorFault}
use Rattle.edetector.specs.declared.fault.Refused.{Refused}
use Rattle.edetector.specs.Monitors.{shown_slip, Terms, Standing, Outcome, outcome, stake_outcome, settle_outcome, rearm_outcome}
use Rattle.plantlog.specs.Results.{of_err}
use Rattle.playback.specs.declared.stop.ReplayFault.{ReplayFault}
use Rattle.playback.specs.declared.stop.ReplayFault.TheVariants.{Monitor, Book, DayNotAbove, CountsDiffer}
use Rattle.daybook.specs.declared.fault.BookFault.TheVariants.{Full}
use Rattle.daybook.specs.declared.entry.unwatched.Unwatched.{Unwatched}
use Rattle.daybook.specs.Books.{all_used}
use Rattle.playback.specs.Days.{is_after}
use Rattle.daybook.specs.declared.entry.alarm.Alarm.{Alarm}

-- the monitor, the last count's day, how many counts there were, and what the two books hold
pub record Watch : Type 0 where
  pub standing : Standing
  pub last : Option ℕ
  pub counts : ℕ
  pub alarms : List Alarm
  pub unwatched : List Unwatched

-- how many places the two books have
pub record Places : Type 0 where
  pub alarms : ℕ
  pub unwatched : ℕ

-- what a record leads to
pub record Done : Type 0 where
  pub answer : Result (Unit {0}) ReplayFault
  pub after : Watch

abbrev pub done : Result (Unit {0}) ReplayFault → Watch → Done
done answer w = record { answer = answer; after = w }

abbrev pub taken : Watch → Done
taken w = done (Ok tt) w

abbrev pub faulted : Watch → ReplayFault → Done
faulted w f = done (Err f) w

-- a count of the day is dealt with
abbrev pub counted : Watch → ℕ → Standing → List Alarm → List Unwatched → Watch
counted w day s alarms unwatched = record { standing = s; last = Some day; counts = w.counts + 1; alarms = alarms; unwatched = unwatched }

-- what a watched count leads to: the answer, the monitor and the alarm book
pub record Round : Type 0 where
  pub answer : Result (Unit {0}) ReplayFault
  pub standing : Standing
  pub alarms : List Alarm

abbrev pub round : Result (Unit {0}) ReplayFault → Standing → List Alarm → Round
round answer s alarms = record { answer = answer; standing = s; alarms = alarms }

-- a settled round is entered if it rang
abbrev pub alarm_if : Bool → ℕ → Standing → List Alarm → List Alarm
alarm_if true day s alarms = alarms ++ (record { day = day; round = s.rounds; ledger = s.ledger } ∷ [])
alarm_if false day s alarms = alarms

abbrev pub round_of : Result Bool (Refused ShownSlip) → ℕ → Standing → List Alarm → Round
round_of (Ok b) day s alarms = round (Ok tt) s (alarm_if b day s alarms)
round_of (Err r) day s alarms = round (Err (Monitor r.fault)) s alarms

-- a shown slip is settled
abbrev pub settled_slip : Terms → Standing → List Alarm → ℕ → ShownSlip → Round
settled_slip t s alarms day slip = let o = settle_outcome t s slip in round_of o.answer day o.after alarms

abbrev pub shown : Terms → List Alarm → ℕ → ℕ → Result OpenSlip MonitorFault → Standing → Round
shown t alarms day count (Ok slip) s = settled_slip t s alarms day (shown_slip slip count)
shown t alarms day count (Err f) s = round (Err (Monitor f)) s alarms

-- a watched count: stake, show, settle
abbrev pub watched : Terms → Standing → List Alarm → ℕ → ℕ → Round
watched t s alarms day count = let o = stake_outcome t s in shown t alarms day count o.answer o.after

abbrev pub round_done : Watch → ℕ → Result (Unit {0}) ReplayFault → Standing → List Alarm → Done
round_done w day (Ok u) s alarms = taken (counted w day s alarms w.unwatched)
round_done w day (Err f) s alarms = faulted w f

abbrev pub watched_count : Terms → Watch → ℕ → ℕ → Done
watched_count t w day count = let r = watched t w.standing w.alarms day count in round_done w day r.answer r.standing r.alarms

-- a count that is passed over
abbrev pub passed : Watch → ℕ → ℕ → Done
passed w number day = taken (counted w day w.standing w.alarms (w.unwatched ++ (record { day = day; «record» = number } ∷ [])))

-- a count goes unwatched while the alarm rings; the book that it may need must have a place
abbrev pub by_state : State → Terms → Places → Watch → ℕ → ℕ → ℕ → Done
by_state Armed t p w number day count = if all_used p.alarms w.alarms then faulted w (Book Full) else watched_count t w day count
by_state Staked t p w number day count = if all_used p.alarms w.alarms then faulted w (Book Full) else watched_count t w day count
by_state Rung t p w number day count = if all_used p.unwatched w.unwatched then faulted w (Book Full) else passed w number day

abbrev pub count_read : Terms → Places → Watch → ℕ → ℕ → ℕ → Done
count_read t p w number day count = if is_after w.last day then by_state w.standing.state t p w number day count else faulted w DayNotAbove

-- the monitor's own answer and what it leaves
abbrev pub rearm_leads : Terms → Standing → Outcome (Result (Unit {0}) ReplayFault)
rearm_leads t s = let o = rearm_outcome t s in outcome (of_err Monitor o.answer) o.after

abbrev pub restood : Watch → Standing → Watch
restood w s = record w { standing = s }

abbrev pub rearm_read : Terms → Watch → Done
rearm_read t w = let o = rearm_leads t w.standing in done o.answer (restood w o.after)

-- the end says how many counts there were
abbrev pub end_answer : ℕ → ℕ → Result (Unit {0}) ReplayFault
end_answer counts n = if n == counts then Ok tt else Err CountsDiffer

abbrev pub end_read : Watch → ℕ → Done
end_read w n = done (end_answer w.counts n) w
