-- A replay as the run of a plan of calls, of the kind that the bound speaks of, which is the same whatever is counted.
use Rattle.std.specs.Prelude.{count_by, ◌≡◌, ℕ, if◌then◌else◌, List, [], ◌∷◌, ◌++◌, length}
use Rattle.edetector.specs.Tables.{class_of}
use Rattle.edetector.specs.States.{is_armed}
use Rattle.edetector.specs.Monitors.{Terms, Standing, stake_outcome, rearm_outcome, Stake, Rearm, is_alarm, is_round, next_outcome}
use Rattle.edetector.specs.Plans.{Plan, run}
use Rattle.playback.specs.Watch.{Places}
use Rattle.playback.specs.Course.{Event, Settled, Passed, Rearmed, AllRightly, alarms_of}

-- what a record asks for, without its day and its count
pub data Turn : Type 0 where
  ToCount : Turn
  ToRearm : Turn

abbrev pub turn_of : Event → Turn
turn_of (Settled day count) = ToCount
turn_of (Passed day number) = ToCount
turn_of Rearmed = ToRearm

abbrev pub turns_of : List Event → List Turn
turns_of [] = []
turns_of (e ∷ es) = turn_of e ∷ turns_of es

-- the classes of the settled counts
abbrev pub classes_of : Terms → List Event → List ℕ
classes_of t [] = []
classes_of t (Settled day count ∷ es) = class_of (length t.nulls) count ∷ classes_of t es
classes_of t (Passed day number ∷ es) = classes_of t es
classes_of t (Rearmed ∷ es) = classes_of t es

-- from s: the rearms before the next settlement, and a stake. What led to the classes settled so far is over; a count is
-- passed over where the monitor is not armed, which these classes tell
abbrev pub calls_before : Terms → Standing → List Turn → Plan
calls_before t s [] past = []
calls_before t s (ToCount ∷ turns) [] = if is_armed s.state then Stake ∷ [] else calls_before t s turns []
calls_before t s (ToCount ∷ turns) (k ∷ past) =
    if is_armed s.state then calls_before t (next_outcome t (stake_outcome t s).after k).after turns past else calls_before t s turns (k ∷ past)
calls_before t s (ToRearm ∷ turns) [] = Rearm ∷ calls_before t (rearm_outcome t s).after turns []
calls_before t s (ToRearm ∷ turns) (k ∷ past) = calls_before t (rearm_outcome t s).after turns (k ∷ past)

-- the run on the classes of the settled counts has an alarm for each that the events enter, and a round for each count that
-- they settle
pub record IsRun (t : Terms) (p : Plan) (s : Standing) (es : List Event) : Type 0 where
  pub alarms : count_by is_alarm (run t p s (classes_of t es)) ≡ length (alarms_of t s es)
  pub rounds : count_by is_round (run t p s (classes_of t es)) ≡ length (classes_of t es)

-- the plan is of the events' turns, and of any that would have come after them
abbrev pub Planned : Type 0
Planned = (t : Terms) (free : Places) (s : Standing) (es : List Event) (more : List Turn) → AllRightly t free s es → IsRun t (calls_before t s (turns_of es ++ more)) s es
