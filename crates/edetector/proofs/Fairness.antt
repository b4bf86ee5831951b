-- What the calls of a plan keep between settlements: rows that are fair, and a potential that does not grow.
use Rattle.std.proofs.Common.{◌≡◌, ℕ, ◌+◌, ◌-◌, ◌*◌, ◌≤◌, Bool, true, false, cond, ◌&&◌, eqb, ltb, List, [], ◌∷◌, length, slice_index, Ok, Err, Result, ap, le_trans, le_refl, arith}
use Rattle.std.specs.List.{sum}
use Rattle.std.proofs.lemmas.Bool.{cond_both}
use Rattle.edetector.specs.declared.state.State.{State}
use Rattle.edetector.specs.declared.state.State.TheVariants.{Armed, Staked, Rung}
use Rattle.edetector.specs.declared.fault.MonitorFault.TheVariants.{Spent}
use Rattle.edetector.specs.declared.slip.ShownSlip.{ShownSlip}
use Rattle.edetector.specs.declared.fault.Refused.{Refused}
use Rattle.edetector.specs.Tables.{unit_factor, class_of}
use Rattle.edetector.specs.Lemmas.Sums.{weigh}
use Rattle.edetector.specs.Rules.{bet}
use Rattle.edetector.specs.States.{most_rounds}
use Rattle.edetector.specs.Bettors.{Strategy}
use Rattle.edetector.specs.Monitors.{Terms, Standing, Outcome, outcome, next_slip, is_fitting, is_ringing, standing_after, settle_outcome, Call, Stake, Settle, Withdraw, Rearm, Read, call_outcome, calls_outcome}
use Rattle.edetector.proofs.Standings.{after_stake, after_withdraw, standing, handed_back}
use Rattle.edetector.specs.Plans.{is_settling, plan_calls}

abbrev pub potential_at : ℕ → State → ℕ → ℕ
potential_at a Armed m = m
potential_at a Staked m = m
potential_at a Rung m = m - a

abbrev pub potential : Terms → Standing → ℕ
potential t s = potential_at (t.threshold * bet) s.state s.ledger

-- fair, class by class
abbrev pub FairRow : List ℕ → List ℕ → Type 0
FairRow ws row = weigh ws 0 (λ k. slice_index row k) ≤ unit_factor * sum ws

abbrev pub row_fair : List ℕ → State → List ℕ → Type 0
row_fair ws Armed row = Unit {0}
row_fair ws Staked row = FairRow ws row
row_fair ws Rung row = Unit {0}

abbrev pub PlaysFair : List ℕ → Strategy → Type 0
PlaysFair ws strategy = (later : List ℕ) → FairRow ws (strategy later)

abbrev pub Sound : Terms → Standing → Type 0
Sound t s = PlaysFair t.nulls s.strategy × row_fair t.nulls s.state s.row

-- s' is sound, with no more potential than s
abbrev pub Kept : Terms → Standing → Standing → Type 0
Kept t s s' = Sound t s' × (potential t s' ≤ potential t s)

either_way : {X : Type 0} (P : Standing → Type 0) (b : Bool) (x y : Outcome X) → P x.after → P y.after → P (cond b x y).after
either_way P true x y p q = p
either_way P false x y p q = q

-- a settle that does not fit leaves all as it is
pub misfits : (t : Terms) (s : Standing) (slip : ShownSlip) → is_fitting s slip.stake ≡ false → settle_outcome t s slip ≡ handed_back s slip
misfits t s slip e =
    let k = class_of (length t.nulls) slip.count in
    ap (λ b. cond b (outcome {X = Result Bool (Refused ShownSlip)} (Ok (is_ringing t s k)) (standing_after t s k)) (handed_back s slip)) e

in_state : (t : Terms) (tag : ℕ) (st : State) (m r al : ℕ) (row : List ℕ) (strategy : Strategy) (c : Call) → let s = standing tag st m r al row strategy in is_settling s c ≡ false → Sound t s → Kept t s (call_outcome t s c).after
in_state t tag Armed m r al row strategy Stake apart ok =
    let s = standing tag Armed m r al row strategy in
    either_way (Kept t s) (ltb r most_rounds) (outcome (Ok (next_slip s)) (after_stake s)) (outcome (Err Spent) s) ((ok.0, ok.0 []), le_refl m) (ok, le_refl m)
in_state t tag Staked m r al row strategy Stake apart ok = (ok, le_refl _)
in_state t tag Rung m r al row strategy Stake apart ok = (ok, le_refl _)
in_state t tag st m r al row strategy (Settle slip) apart ok =
    let s = standing tag st m r al row strategy in
    rw (misfits t s slip apart) (ok, le_refl _)
in_state t tag Armed m r al row strategy (Withdraw slip) apart ok = (ok, le_refl _)
in_state t tag Staked m r al row strategy (Withdraw slip) apart ok =
    let s = standing tag Staked m r al row strategy in
    either_way (Kept t s) (eqb slip.tag tag && eqb slip.number (r + 1)) (outcome (Ok tt) (after_withdraw s)) (handed_back s slip) ((ok.0, tt), le_refl m) (ok, le_refl m)
in_state t tag Rung m r al row strategy (Withdraw slip) apart ok = (ok, le_refl _)
in_state t tag Armed m r al row strategy Rearm apart ok = ((ok.0, tt), omega arith)
in_state t tag Staked m r al row strategy Rearm apart ok = (ok, le_refl _)
in_state t tag Rung m r al row strategy Rearm apart ok = ((ok.0, tt), omega arith)
in_state t tag st m r al row strategy Read apart ok = (ok, le_refl _)

pub call_kept : (t : Terms) (s : Standing) (c : Call) → is_settling s c ≡ false → Sound t s → Kept t s (call_outcome t s c).after
call_kept t s c apart ok = in_state t s.tag s.state s.ledger s.rounds s.alarms s.row s.strategy c apart ok

pub all_kept : (t : Terms) (s : Standing) (cs : List Call) → Sound t s → Kept t s (calls_outcome t s (plan_calls t s cs)).after
all_kept t s [] ok = (ok, le_refl _)
all_kept t s (c ∷ cs) ok =
    let next = (call_outcome t s c).after in
    cond_both (is_settling s c) (plan_calls t s cs) (c ∷ plan_calls t next cs) (λ cs'. Kept t s (calls_outcome t s cs').after)
    (λ left_out. all_kept t s cs ok)
    (λ apart. let one = call_kept t s c apart ok in let rest = all_kept t next cs one.0 in (rest.0, le_trans rest.1 one.1))
