-- A monitor on plain data: what it is made of, where it stands, what each call answers and leaves, and any calls in a row.
use Rattle.std.specs.Prelude.{◌≡◌, ℕ, ◌+◌, ◌*◌, ◌/◌, Bool, true, false, not, if◌then◌else◌, ◌&&◌, List, [], ◌∷◌, length, Ok, Err, Result, ◌==◌, nat_le, nat_lt, slice_index}
use Rattle.edetector.specs.declared.state.State.{State}
use Rattle.edetector.specs.declared.state.State.TheVariants.{Armed, Staked, Rung}
use Rattle.edetector.specs.declared.monitor.Monitor.{Monitor}
use Rattle.edetector.specs.declared.monitor.Reading.{Reading}
use Rattle.edetector.specs.declared.slip.OpenSlip.{OpenSlip}
use Rattle.edetector.specs.declared.slip.ShownSlip.{ShownSlip}
use Rattle.edetector.specs.declared.fault.MonitorFault.{MonitorFault}
use Rattle.edetector.specs.declared.fault.MonitorFault.TheVariants.{NotArmed, Spent, Misfit}
use Rattle.edetector.specs.declared.fault.Refused.{Refused}
use Rattle.edetector.specs.declared.fault.Unmade.{Unmade}
use Rattle.edetector.specs.declared.value.ValueFault.TheVariants.{Threshold}
use Rattle.edetector.specs.Tables.{is_within, class_of, unit_factor}
use Rattle.edetector.specs.Rules.{bet, most_threshold}
use Rattle.edetector.specs.States.{is_armed, is_staked, most_rounds, state_of, row_in}
use Rattle.edetector.specs.Bettors.{Meaning, Strategy}

-- the number of each refusal
abbrev pub monitor_number : MonitorFault → ℕ
monitor_number NotArmed = 32
monitor_number Spent = 31
monitor_number Misfit = 34

-- what a monitor is made of: the null table, the restart rule's base for every wealth, and the threshold
pub record Terms : Type 0 where
  pub nulls : List ℕ
  pub base : ℕ → ℕ
  pub threshold : ℕ

abbrev pub terms : Meaning → (ℕ → ℕ) → ℕ → Terms
terms m base threshold = record { nulls = m.nulls; base = base; threshold = threshold }

-- the ledger that a monitor of these terms begins with, and again after a rearm: 0, whatever the terms
abbrev pub first_ledger : Terms → ℕ
first_ledger t = 0

-- what is a monitor's own: its tag, and where it stands. There is a row only while it is staked
pub record Standing : Type 0 where
  pub tag : ℕ
  pub state : State
  pub ledger : ℕ
  pub rounds : ℕ
  pub alarms : ℕ
  pub row : List ℕ
  pub strategy : Strategy

-- what a call answers and leaves
pub record Outcome (X : Type 0) : Type 0 where
  pub answer : X
  pub after : Standing

abbrev pub outcome : {X : Type 0} → X → Standing → Outcome X
outcome a s = record { answer = a; after = s }

-- a monitor just made
abbrev pub first_standing : Terms → ℕ → Meaning → Standing
first_standing t tag m =
    record { tag = tag; state = Armed; ledger = first_ledger t; rounds = 0; alarms = 0; row = []; strategy = m.strategy }

abbrev pub shown_slip : OpenSlip → ℕ → ShownSlip
shown_slip slip count = record { stake = slip; count = count }

-- the slip of the round to come, which a stake gives
abbrev pub next_slip : Standing → OpenSlip
next_slip s = record { tag = s.tag; number = s.rounds + 1 }

-- a slip fits while the monitor is staked, if it has the monitor's tag and the number of the round to come
abbrev pub is_fitting : Standing → OpenSlip → Bool
is_fitting s slip = is_staked s.state && (slip.tag == s.tag && slip.number == s.rounds + 1)

-- a slip that does not fit is handed back
abbrev pub misfit : {S : Type 0} → S → Refused S
misfit slip = record { fault = Misfit; slip = slip }

-- Stake: the monitor keeps a copy of the row that the bettor plays at that time, and gives a slip of the round to come
abbrev pub stake_outcome : Terms → Standing → Outcome (Result OpenSlip MonitorFault)
stake_outcome t s =
    if not (is_armed s.state) then outcome (Err NotArmed) s
    else if nat_lt s.rounds most_rounds then outcome (Ok (next_slip s)) (record s { state = Staked; row = s.strategy [] })
    else outcome (Err Spent) s

-- the ledger that class k leads to: the rule's base for the ledger now, multiplied by the factor staked on k
abbrev pub ledger_after : Terms → Standing → ℕ → ℕ
ledger_after t s k = (t.base s.ledger * slice_index s.row k) / unit_factor

-- it rings once that has come to as many bets as the threshold says
abbrev pub is_ringing : Terms → Standing → ℕ → Bool
is_ringing t s k = nat_le (t.threshold * bet) (ledger_after t s k)

-- Settle with class k, which the bettor learns
abbrev pub standing_after : Terms → Standing → ℕ → Standing
standing_after t s k =
    let rang = is_ringing t s k in
    let state : State = if rang then Rung else Armed in
    let alarms = if rang then s.alarms + 1 else s.alarms in
    let strategy : Strategy = λ later. s.strategy (k ∷ later) in
    record s { state = state; ledger = ledger_after t s k; rounds = s.rounds + 1; alarms = alarms; row = []; strategy = strategy }

abbrev pub settle_outcome : Terms → Standing → ShownSlip → Outcome (Result Bool (Refused ShownSlip))
settle_outcome t s slip =
    let k = class_of (length t.nulls) slip.count in
    if is_fitting s slip.stake then outcome (Ok (is_ringing t s k)) (standing_after t s k) else outcome (Err (misfit slip)) s

-- the slip that is out is shown the class k, and settled
abbrev pub next_outcome : Terms → Standing → ℕ → Outcome (Result Bool (Refused ShownSlip))
next_outcome t s k = settle_outcome t s (shown_slip (next_slip s) k)

abbrev pub withdraw_outcome : Terms → Standing → OpenSlip → Outcome (Result (Unit {0}) (Refused OpenSlip))
withdraw_outcome t s slip =
    if is_fitting s slip then outcome (Ok tt) (record s { state = Armed; row = [] }) else outcome (Err (misfit slip)) s

abbrev pub rearm_outcome : Terms → Standing → Outcome (Result (Unit {0}) MonitorFault)
rearm_outcome t s =
    if is_staked s.state then outcome (Err NotArmed) s
    else outcome (Ok tt) (record s { state = Armed; ledger = first_ledger t; row = [] })

abbrev pub read_outcome : Terms → Standing → Outcome Reading
read_outcome t s = outcome (record { state = s.state; ledger = s.ledger; rounds = s.rounds; alarms = s.alarms }) s

-- the five calls, with the slips that they take
pub data Call : Type 0 where
  Stake : Call
  Settle : ShownSlip → Call
  Withdraw : OpenSlip → Call
  Rearm : Call
  Read : Call

-- what each of them answers
pub data Answer : Type 0 where
  OfStake : Result OpenSlip MonitorFault → Answer
  OfSettle : Result Bool (Refused ShownSlip) → Answer
  OfWithdraw : Result (Unit {0}) (Refused OpenSlip) → Answer
  OfRearm : Result (Unit {0}) MonitorFault → Answer
  OfRead : Reading → Answer

abbrev pub answer_outcome : {X : Type 0} → (X → Answer) → Outcome X → Outcome Answer
answer_outcome of o = outcome (of o.answer) o.after

abbrev pub call_outcome : Terms → Standing → Call → Outcome Answer
call_outcome t s Stake = answer_outcome OfStake (stake_outcome t s)
call_outcome t s (Settle slip) = answer_outcome OfSettle (settle_outcome t s slip)
call_outcome t s (Withdraw slip) = answer_outcome OfWithdraw (withdraw_outcome t s slip)
call_outcome t s Rearm = answer_outcome OfRearm (rearm_outcome t s)
call_outcome t s Read = answer_outcome OfRead (read_outcome t s)

-- what calls answer one after the other, each in its place, and what the last leaves
abbrev pub calls_outcome : Terms → Standing → List Call → Outcome (List Answer)
calls_outcome t s [] = outcome [] s
calls_outcome t s (c ∷ cs) =
    let one = call_outcome t s c in let rest = calls_outcome t one.after cs in outcome (one.answer ∷ rest.answer) rest.after

-- which answers count: as a settled round, as an alarm, as a rearm
abbrev pub is_round : Answer → Bool
is_round (OfSettle (Ok rang)) = true
is_round _ = false

abbrev pub is_alarm : Answer → Bool
is_alarm (OfSettle (Ok rang)) = rang
is_alarm _ = false

abbrev pub is_rearm : Answer → Bool
is_rearm (OfRearm (Ok done)) = true
is_rearm _ = false

abbrev pub bettor_of : {B R : Type 0} → Monitor B R → B
bettor_of m = m.bettor

abbrev pub rule_of : {B R : Type 0} → Monitor B R → R
rule_of m = m.rule

abbrev pub terms_of : {B R : Type 0} → (B → Meaning) → (R → ℕ → ℕ) → Monitor B R → Terms
terms_of meaning base m = terms (meaning m.bettor) (base m.rule) m.threshold

abbrev pub view : {B R : Type 0} → (B → Meaning) → Monitor B R → Standing
view meaning m =
    let b = meaning m.bettor in
    let row = row_in m.phase (length b.nulls) in
    record { tag = m.tag; state = state_of m.phase; ledger = m.ledger; rounds = m.rounds; alarms = m.alarms; row = row; strategy = b.strategy }

abbrev pub whole_view : {B R : Type 0} → (B → Meaning) → (R → ℕ → ℕ) → Monitor B R → Terms × Standing × B × R
whole_view meaning base m = (terms_of meaning base m, view meaning m, m.bettor, m.rule)

-- a monitor just made, or what was handed over, handed back where the threshold is not 1 to 4,096
abbrev pub new_monitor : {B R : Type 0} → (B → Meaning) → (R → ℕ → ℕ) → B → R → ℕ → ℕ → Result (Terms × Standing × B × R) (Unmade B R)
new_monitor meaning base bettor rule threshold tag =
    let t = terms (meaning bettor) (base rule) threshold in
    if is_within 1 most_threshold threshold then Ok (t, first_standing t tag (meaning bettor), bettor, rule)
    else Err (record { fault = Threshold; bettor = bettor; rule = rule })

-- what a call does by its contract: it answers a, and leaves n, as on plain data; what the monitor is made of stays
abbrev pub Does : {B R : Type 0} → (B → Meaning) → (R → ℕ → ℕ) → Monitor B R → Call → Answer → Monitor B R → Type 0
Does meaning base m c a n =
    (outcome a (view meaning n) ≡ call_outcome (terms_of meaning base m) (view meaning m) c) × (terms_of meaning base n ≡ terms_of meaning base m)

-- calls of one monitor, one after the other, each as its contract says
abbrev pub DoesAll : {B R : Type 0} → (B → Meaning) → (R → ℕ → ℕ) → Monitor B R → List Call → List Answer → Monitor B R → Type 0
DoesAll meaning base m [] [] n = n ≡ m
DoesAll {B} {R} meaning base m (c ∷ cs) (a ∷ rest) n =
    (between : Monitor B R) × Does meaning base m c a between × DoesAll meaning base between cs rest n
DoesAll meaning base m _ _ n = ⊥

-- after any calls, with whatever slips and each as its contract says, a monitor has answered, and stands, as on plain data
abbrev pub AfterCalls : {B R : Type 0} → (B → Meaning) → (R → ℕ → ℕ) → Type 0
AfterCalls {B} {R} meaning base = (m n : Monitor B R) (cs : List Call) (answers : List Answer) → DoesAll meaning base m cs answers n →
    (outcome answers (view meaning n) ≡ calls_outcome (terms_of meaning base m) (view meaning m) cs) × (terms_of meaning base n ≡ terms_of meaning base m)
