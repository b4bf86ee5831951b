-- What happens in a replay, in the order of the log: a law over whole replays, whatever the log.
use Rattle.std.specs.Prelude.{◌≡◌, ℕ, ◌+◌, ◌-◌, ◌*◌, ◌/◌, ◌<◌, ◌≤◌, ◌⊎◌, true, false, List, [], ◌∷◌, ◌++◌, length, Some, None, Option, nat_le, slice_index}
use Rattle.edetector.specs.declared.state.State.{State}
use Rattle.edetector.specs.declared.state.State.TheVariants.{Armed, Staked, Rung}
use Rattle.edetector.specs.Rules.{bet}
use Rattle.edetector.specs.Tables.{class_of, unit_factor}
use Rattle.edetector.specs.Monitors.{Terms, Standing, stake_outcome, rearm_outcome, next_outcome}
use Rattle.edetector.specs.States.{most_rounds}
use Rattle.edetector.specs.declared.fault.MonitorFault.TheVariants.{NotArmed, Spent}
use Rattle.plantlog.specs.declared.fault.FrontFault.TheVariants.{NoneLeft}
use Rattle.plantlog.specs.declared.fault.RecordFault.TheVariants.{Front}
use Rattle.plantlog.specs.Format.{Fields, Count, Rearm, End}
use Rattle.daybook.specs.declared.fault.BookFault.TheVariants.{Full}
use Rattle.daybook.specs.declared.entry.unwatched.Unwatched.{Unwatched}
use Rattle.playback.specs.Days.{is_after}
use Rattle.daybook.specs.declared.entry.alarm.Alarm.{Alarm}
use Rattle.playback.specs.declared.stop.ReplayFault.{ReplayFault}
use Rattle.playback.specs.declared.stop.ReplayFault.TheVariants.{Record, Monitor, Book, NotAllowed, DayNotAbove, CountsDiffer, Trailing}
use Rattle.playback.specs.declared.stop.Fault.{Fault}
use Rattle.playback.specs.Stream.{Stream, Over, Broken, Next}
use Rattle.playback.specs.Watch.{Watch, Places, alarm_if}
use Rattle.playback.specs.Replaying.{Spot, behind, fault_at, Finish, watching}

-- a count of a day that was settled, one that was passed over at a record, and a rearm
pub data Event : Type 0 where
  Settled : ℕ → ℕ → Event
  Passed : ℕ → ℕ → Event
  Rearmed : Event

-- the monitor after an event; a settled count is staked on first
abbrev pub after_event : Terms → Standing → Event → Standing
after_event t s (Settled day count) = (next_outcome t (stake_outcome t s).after count).after
after_event t s (Passed day number) = s
after_event t s Rearmed = (rearm_outcome t s).after

abbrev pub after_all : Terms → Standing → List Event → Standing
after_all t s [] = s
after_all t s (e ∷ es) = after_all t (after_event t s e) es

-- the settled counts whose ledger came to the threshold, with day, round and ledger
abbrev pub alarm_of : Terms → Standing → Event → List Alarm
alarm_of t s (Settled day count) =
    let after = after_event t s (Settled day count) in alarm_if (nat_le (t.threshold * bet) after.ledger) day after []
alarm_of t s _ = []

abbrev pub alarms_of : Terms → Standing → List Event → List Alarm
alarms_of t s [] = []
alarms_of t s (e ∷ es) = alarm_of t s e ++ alarms_of t (after_event t s e) es

-- the counts that were passed over, with day and record
abbrev pub passed_in : Event → List Unwatched
passed_in (Passed day number) = record { day = day; «record» = number } ∷ []
passed_in _ = []

abbrev pub unwatched_of : List Event → List Unwatched
unwatched_of [] = []
unwatched_of (e ∷ es) = passed_in e ++ unwatched_of es

-- the days of the counts, settled or passed over
abbrev pub day_of : Event → List ℕ
day_of (Settled day count) = day ∷ []
day_of (Passed day number) = day ∷ []
day_of Rearmed = []

abbrev pub days_of : List Event → List ℕ
days_of [] = []
days_of (e ∷ es) = day_of e ++ days_of es

-- each day is after the one before it, the first after the last count's so far
abbrev pub RisingDays : Option ℕ → List ℕ → Type 0
RisingDays last [] = Unit {0}
RisingDays last (day ∷ days) = (is_after last day ≡ true) × RisingDays (Some day) days

abbrev pub last_day : Option ℕ → List ℕ → Option ℕ
last_day last [] = last
last_day last (day ∷ days) = last_day (Some day) days

-- the places of the two books that are free, and those that an event leaves
abbrev pub free_in : Places → Watch → Places
free_in p w = record { alarms = p.alarms - length w.alarms; unwatched = p.unwatched - length w.unwatched }

abbrev pub free_after : Terms → Standing → Places → Event → Places
free_after t s free e = record { alarms = free.alarms - length (alarm_of t s e); unwatched = free.unwatched - length (passed_in e) }

-- the ledger of a round by the restart rule's recursion: the base of the ledger times the factor of the row now
abbrev pub recursion : Terms → Standing → ℕ → ℕ
recursion t s count = (t.base s.ledger * slice_index (s.strategy []) (class_of (length t.nulls) count)) / unit_factor

-- a count is settled while the monitor is armed and has rounds left, by the recursion, and passed over while it rings;
-- the book that it may need has a free place. A rearm is taken unless a bet is staked
abbrev pub Rightly : Terms → Places → Standing → Event → Type 0
Rightly t free s (Settled day count) =
    (s.state ≡ Armed) × (s.rounds < most_rounds) × (0 < free.alarms) × ((after_event t s (Settled day count)).ledger ≡ recursion t s count)
Rightly t free s (Passed day number) = (s.state ≡ Rung) × (0 < free.unwatched)
Rightly t free s Rearmed = s.state ≡ Staked → ⊥

abbrev pub AllRightly : Terms → Places → Standing → List Event → Type 0
AllRightly t free s [] = Unit {0}
AllRightly t free s (e ∷ es) = Rightly t free s e × AllRightly t (free_after t s free e) (after_event t s e) es

-- the record that an event is of, and its number in the log
abbrev pub EventOf : Event → Fields → ℕ → Type 0
EventOf (Settled day count) f number = f ≡ Count (record { day = day }) count
EventOf (Passed day told) f number = (n : ℕ) × (f ≡ Count (record { day = day }) n) × (told ≡ number)
EventOf Rearmed f number = f ≡ Rearm

-- the events are of the log's records, one after the other
abbrev pub EventsOf : List Event → Stream → Spot → Type 0
EventsOf [] s at = Unit {0}
EventsOf (e ∷ es) Over at = ⊥
EventsOf (e ∷ es) (Broken f) at = ⊥
EventsOf (e ∷ es) (Next f n rest) at = EventOf e f at.number × EventsOf es rest (behind at n)

-- the records behind those that the events are of, and where they begin
abbrev pub behind_all : List Event → Stream → Stream
behind_all [] s = s
behind_all (e ∷ es) Over = Over
behind_all (e ∷ es) (Broken f) = Broken f
behind_all (e ∷ es) (Next f n rest) = behind_all es rest

abbrev pub spot_behind : List Event → Stream → Spot → Spot
spot_behind [] s at = at
spot_behind (e ∷ es) Over at = at
spot_behind (e ∷ es) (Broken f) at = at
spot_behind (e ∷ es) (Next f n rest) at = spot_behind es rest (behind at n)

-- the book that a count may need is full
abbrev pub NoPlace : State → Places → Type 0
NoPlace Armed free = free.alarms ≡ 0
NoPlace Staked free = free.alarms ≡ 0
NoPlace Rung free = free.unwatched ≡ 0

-- why a count of the day is not taken: its day is judged first, then the book, then the monitor
abbrev pub NoCount : Places → Watch → ℕ → ReplayFault → Type 0
NoCount free w day DayNotAbove = is_after w.last day ≡ false
NoCount free w day (Book Full) = (is_after w.last day ≡ true) × NoPlace w.standing.state free
NoCount free w day (Monitor NotArmed) = (is_after w.last day ≡ true) × (0 < free.alarms) × (w.standing.state ≡ Staked)
NoCount free w day (Monitor Spent) =
    (is_after w.last day ≡ true) × (0 < free.alarms) × (w.standing.state ≡ Armed) × (most_rounds ≤ w.standing.rounds)
NoCount free w day _ = ⊥

-- why the next record is not taken, or that there is none
abbrev pub NotTaken : Places → Watch → Stream → ReplayFault → Type 0
NotTaken free w Over cause = cause ≡ Record (Front NoneLeft)
NotTaken free w (Broken e) cause = cause ≡ Record e
NotTaken free w (Next (Count head count) n rest) cause = NoCount free w head.day cause
NotTaken free w (Next Rearm n rest) cause = (cause ≡ Monitor NotArmed) × (w.standing.state ≡ Staked)
NotTaken free w (Next (End counts) n rest) cause = (cause ≡ CountsDiffer) × (counts ≡ w.counts → ⊥)
NotTaken free w (Next _ n rest) cause = cause ≡ NotAllowed

-- a replay without a fault leaves only the end, which names the counts; one with a fault stops at the very next record,
-- for its reason, or behind an end that names the counts and is not the last of the log
abbrev pub Reached : Places → Watch → Spot → Stream → Option Fault → Type 0
Reached free w at left None = (n : ℕ) × (left ≡ Next (End w.counts) n Over)
Reached free w at left (Some f) =
    (NotTaken free w left f.cause × (Some f ≡ fault_at at f.cause))
    ⊎ ((n : ℕ) × (rest : Stream) × (left ≡ Next (End w.counts) n rest) × (rest ≡ Over → ⊥) × (Some f ≡ fault_at (behind at n) Trailing))

-- from w to a finish by events of the log's records: these are all that the monitor and the two books saw, and no record
-- is left out. The monitor's own numbers agree with them: an alarm more for each that was entered, and a round more for
-- each count that was not passed over
pub record WholeCourse (t : Terms) (p : Places) (s : Stream) (at : Spot) (w : Watch) (f : Finish) : Type 0 where
  pub events : List Event
  pub of_log : EventsOf events s at
  pub rightly : AllRightly t (free_in p w) w.standing events
  pub rising : RisingDays w.last (days_of events)
  pub standing : f.watch.standing ≡ after_all t w.standing events
  pub alarms : f.watch.alarms ≡ w.alarms ++ alarms_of t w.standing events
  pub unwatched : f.watch.unwatched ≡ w.unwatched ++ unwatched_of events
  pub alarms_told : f.watch.standing.alarms ≡ w.standing.alarms + length (alarms_of t w.standing events)
  pub settled : f.watch.standing.rounds + length (unwatched_of events) ≡ w.standing.rounds + length (days_of events)
  pub counts : f.watch.counts ≡ w.counts + length (days_of events)
  pub last : f.watch.last ≡ last_day w.last (days_of events)
  pub reached : Reached (free_in p f.watch) f.watch (spot_behind events s at) (behind_all events s) f.fault

-- every replay has such a course, to its end or to its fault
abbrev pub HasWholeCourse : Type 0
HasWholeCourse = (t : Terms) (p : Places) (s : Stream) (at : Spot) (w : Watch) → WholeCourse t p s at w (watching t p s at w)

-- and what has such a course is what the replay comes to: the course leaves nothing open
abbrev pub OneFinish : Type 0
OneFinish = (t : Terms) (p : Places) (s : Stream) (at : Spot) (w : Watch) (f : Finish) → WholeCourse t p s at w f → f ≡ watching t p s at w
