-- A whole replay: the header, then counts and rearms to the end.
use Rattle.std.specs.Prelude.{ℕ, Bool, true, false, if◌then◌else◌, List, [], length, sum, None, Ok, Err, Result, ◌==◌, nat_le}
use Rattle.edetector.specs.declared.value.ValueFault.TheVariants.{Alternative as UnlikeClasses, Threshold}
use Rattle.edetector.specs.Tables.{is_within}
use Rattle.edetector.specs.Rules.{most_threshold, shiryaev_roberts, page}
use Rattle.edetector.specs.Bettors.{Meaning, fixed_meaning, adaptive_meaning, mixture_meaning}
use Rattle.edetector.specs.Monitors.{Terms, terms, first_standing, read_outcome}
use Rattle.plantlog.specs.declared.fault.FrontFault.TheVariants.{NoneLeft}
use Rattle.plantlog.specs.declared.fault.RecordFault.TheVariants.{Front}
use Rattle.plantlog.specs.declared.record.Setup.{Setup}
use Rattle.plantlog.specs.declared.record.BettorChoice.{BettorChoice}
use Rattle.plantlog.specs.declared.record.BettorChoice.TheVariants.{Fixed, Adaptive, Mixture}
use Rattle.plantlog.specs.declared.record.RuleChoice.{RuleChoice}
use Rattle.plantlog.specs.declared.record.RuleChoice.TheVariants.{ShiryaevRoberts, Page}
use Rattle.plantlog.specs.Results.{and_then}
use Rattle.plantlog.specs.Format.{Fields}
use Rattle.playback.specs.declared.report.Run.{Run}
use Rattle.playback.specs.declared.stop.ReplayFault.{ReplayFault}
use Rattle.playback.specs.declared.stop.ReplayFault.TheVariants.{Record, Value, TooLong}
use Rattle.playback.specs.declared.stop.Fault.{Fault}
use Rattle.daybook.specs.declared.book.Book.{Book}
use Rattle.daybook.specs.declared.entry.Keyed.{Ghosts as Keyed}
use Rattle.daybook.specs.declared.entry.alarm.Alarm.{Alarm}
use Rattle.daybook.specs.declared.entry.unwatched.Unwatched.{Unwatched}
use Rattle.daybook.specs.Books.{entries_of}
use Rattle.playback.specs.Front.{next_fields, only_table, only_setup, only_alternative}
use Rattle.playback.specs.Stream.{Stream, Over, Broken, Next, stream_of}
use Rattle.playback.specs.Watch.{Watch, Places}
use Rattle.playback.specs.Replaying.{Spot, longest, first_spot, nowhere, behind, fault_in, Finish, watching}

-- what is told of a replay: the fault where no monitor was made, or the monitor with how it stands at last; and what the two
-- books hold
pub record Replay : Type 0 where
  pub said : Result Run Fault
  pub alarms : List Alarm
  pub unwatched : List Unwatched

-- the report with what the books hold
abbrev pub replay_told : {K : Keyed Alarm} {L : Keyed Unwatched} → Result Run Fault → Book Alarm K → Book Unwatched L → Replay
replay_told report alarms unwatched = record { said = report; alarms = entries_of alarms; unwatched = entries_of unwatched }

abbrev pub rule_base : RuleChoice → ℕ → ℕ
rule_base ShiryaevRoberts = shiryaev_roberts
rule_base Page = page

-- the first record of a stream, or why there is none; how many bytes it takes; what follows
abbrev pub head_of : Stream → Result Fields ReplayFault
head_of Over = Err (Record (Front NoneLeft))
head_of (Broken e) = Err (Record e)
head_of (Next f n rest) = Ok f

abbrev pub taken_of : Stream → ℕ
taken_of Over = 0
taken_of (Broken e) = 0
taken_of (Next f n rest) = n

abbrev pub tail_of : Stream → Stream
tail_of Over = Over
tail_of (Broken e) = Over
tail_of (Next f n rest) = rest

-- a fault before the monitor is made
abbrev pub no_monitor : Spot → ReplayFault → Replay
no_monitor at cause = record { said = Err (fault_in at cause); alarms = []; unwatched = [] }

-- what follows the next record with what it says, or the fault where it begins
abbrev pub with_record : {X : Type 0} → Result X ReplayFault → Stream → Spot → (X → Stream → Spot → Replay) → Replay
with_record (Ok x) s at go = go x (tail_of s) (behind at (taken_of s))
with_record (Err f) s at go = no_monitor at f

-- nothing counted yet, and both books empty
abbrev pub first_watch : Terms → Meaning → Watch
first_watch t m = record { standing = first_standing t 1 m; last = None; counts = 0; alarms = []; unwatched = [] }

-- what is told of a finish
abbrev pub finished : List ℕ → Setup → Terms → Finish → Replay
finished ws x t f = record {
  said = Ok (record {
    classes = length ws;
    total = sum ws;
    threshold = x.threshold;
    rule = x.rule;
    last = (read_outcome t f.watch.standing).answer;
    fault = f.fault;
  });
  alarms = f.watch.alarms;
  unwatched = f.watch.unwatched;
}

-- a monitor with tag 1 watches the rest
abbrev pub monitored : Places → Setup → Meaning → Stream → Spot → Replay
monitored p x m rest at =
    let t = terms m (rule_base x.rule) x.threshold in
    if is_within 1 most_threshold x.threshold then finished m.nulls x t (watching t p rest at (first_watch t m)) else no_monitor at (Value Threshold)

-- what the bettor means that a setup names; the adaptive one has no alternative
abbrev pub meaning_of : BettorChoice → List ℕ → List ℕ → Meaning
meaning_of Fixed ws alts = fixed_meaning ws alts
meaning_of Adaptive ws alts = adaptive_meaning ws []
meaning_of Mixture ws alts = mixture_meaning (fixed_meaning ws alts) (adaptive_meaning ws [])

abbrev pub has_alternative : BettorChoice → Bool
has_alternative Fixed = true
has_alternative Adaptive = false
has_alternative Mixture = true

-- an alternative, which must have as many classes as the null table
abbrev pub as_many : List ℕ → List ℕ → Result (List ℕ) ReplayFault
as_many ws alts = if length alts == length ws then Ok alts else Err (Value UnlikeClasses)

abbrev pub alternative_of : List ℕ → Result Fields ReplayFault → Result (List ℕ) ReplayFault
alternative_of ws head = and_then (and_then head only_alternative) (as_many ws)

abbrev pub alternative_for : List ℕ → List ℕ → Result (List ℕ) ReplayFault
alternative_for ws left = alternative_of ws (next_fields left)

-- an alternative comes next exactly if the bettor has one
abbrev pub after_setup : Places → List ℕ → Setup → Stream → Spot → Replay
after_setup p ws x s at =
    if has_alternative x.bettor then with_record (alternative_of ws (head_of s)) s at (λ alts. monitored p x (meaning_of x.bettor ws alts))
    else monitored p x (meaning_of x.bettor ws []) s at

-- a setup, and what follows it
abbrev pub after_table : Places → List ℕ → Stream → Spot → Replay
after_table p ws s at = with_record (and_then (head_of s) only_setup) s at (after_setup p ws)

-- a table, and what follows it
abbrev pub replayed : Places → Stream → Spot → Replay
replayed p s at = with_record (and_then (head_of s) only_table) s at (after_table p)

-- a log of at most 65,536 bytes is replayed from its first record
abbrev pub replay_of : Places → List ℕ → Replay
replay_of p log =
    if nat_le (length log) longest then replayed p (stream_of log) first_spot else no_monitor nowhere TooLong
