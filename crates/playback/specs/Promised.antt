-- The bound on alarms, of replays.
use Rattle.std.specs.Prelude.{◌≡◌, ℕ, ◌*◌, ◌≤◌, true, List, length, None}
use Rattle.edetector.specs.Tables.{null_fault, alternative_fault}
use Rattle.edetector.specs.Monitors.{terms, first_standing, is_alarm, is_round}
use Rattle.edetector.specs.Plans.{weighted_count, Bound}
use Rattle.plantlog.specs.declared.record.Setup.{Setup}
use Rattle.plantlog.specs.declared.record.BettorChoice.{BettorChoice}
use Rattle.playback.specs.Replayed.{rule_base, meaning_of, has_alternative}
use Rattle.playback.specs.Planned.{Turn, calls_before}

-- a null table within its limits and, where the bettor has an alternative, one within its own with as many classes
pub record WithinLimits (ws : List ℕ) (bettor : BettorChoice) (alts : List ℕ) : Type 0 where
  pub null : null_fault ws ≡ None
  pub alternative : has_alternative bettor ≡ true → alternative_fault alts ≡ None
  pub level : has_alternative bettor ≡ true → length alts ≡ length ws

-- whatever the header, and in whatever order counts and rearms come: threshold × weighted alarms ≤ weighted settled rounds,
-- over all sequences of classes that a sound line could send to be settled. The monitor is the one that a replay makes of the
-- header (`monitored`), the plan the one that a replay's events run (`Planned`). Where the counts settled so far decide
-- whether a rearm comes next, the plan is another: the bound is of every plan
abbrev pub Promised : Type 0
Promised = (ws : List ℕ) (x : Setup) (alts : List ℕ) → WithinLimits ws x.bettor alts →
    let m = meaning_of x.bettor ws alts in
    let t = terms m (rule_base x.rule) x.threshold in
    let s = first_standing t 1 m in
    ((turns : List Turn) (h : ℕ) →
    let plan = calls_before t s turns in x.threshold * weighted_count is_alarm t s plan h ≤ weighted_count is_round t s plan h)
    × Bound m (rule_base x.rule) x.threshold 1
