-- The events of a replay are the run of their plan.
use Rattle.std.proofs.Common.{◌≡◌, ℕ, ◌+◌, ◌*◌, ◌<◌, Bool, true, false, cond, ltb, leb, List, [], ◌∷◌, ◌++◌, length, Ok, sym, refl, ap, ◌∙◌, subst, append_assoc, arith}
use Rattle.std.specs.List.{count_by}
use Rattle.std.proofs.lemmas.List.{length-append}
use Rattle.std.proofs.lemmas.Bool.Decides.{nat_tests}
use Rattle.edetector.specs.declared.state.State.TheVariants.{Armed, Staked, Rung}
use Rattle.edetector.specs.Rules.{bet}
use Rattle.edetector.specs.Tables.{class_of}
use Rattle.edetector.specs.Bettors.{Strategy}
use Rattle.edetector.specs.States.{is_armed, is_staked}
use Rattle.edetector.specs.Monitors.{Terms, Standing, stake_outcome, standing_after, is_ringing, rearm_outcome, Call, Stake, Answer, OfSettle, is_round, is_alarm, calls_outcome, next_outcome}
use Rattle.edetector.specs.Plans.{Plan, plan_calls}
use Rattle.edetector.proofs.Standings.{standing}
use Rattle.edetector.proofs.Runs.{CountsRounds, only_alarms, answers_from, accepted, next_is, run_none, run_more}
use Rattle.playback.specs.Watch.{Places, alarm_if}
use Rattle.playback.specs.Course.{Event, Settled, Passed, Rearmed, after_event, alarm_of, alarms_of, free_after, AllRightly}
use Rattle.playback.specs.Planned.{Turn, ToCount, turns_of, classes_of, calls_before, Planned}
use Rattle.playback.proofs.Rounds.{armed_next}

-- where the calls of a plan leave a monitor
abbrev left_by : Terms → Standing → List Call → Standing
left_by t s cs = (calls_outcome t s (plan_calls t s cs)).after

one_class : (classes count : ℕ) → class_of classes (class_of classes count) ≡ class_of classes count
one_class classes count = omega arith

-- a class of a staked monitor is settled
settles_class : (t : Terms) (tag m r al : ℕ) (row : List ℕ) (strategy : Strategy) (k : ℕ) →
    let u = standing tag Staked m r al row strategy in
    (next_outcome t u k).after ≡ standing_after t u (class_of (length t.nulls) k)
settles_class t tag m r al row strategy k = ap (λ o. o.after) (next_is t (standing tag Staked m r al row strategy) k refl)

-- a count and its class leave the same
class_alike : (t : Terms) (tag m r al : ℕ) (row : List ℕ) (strategy : Strategy) (day count : ℕ) → ltb r 1000000 ≡ true →
    let s = standing tag Armed m r al row strategy in
    (next_outcome t (stake_outcome t s).after (class_of (length t.nulls) count)).after ≡ after_event t s (Settled day count)
class_alike t tag m r al row strategy day count left =
    let s = standing tag Armed m r al row strategy in
    let u = standing tag Staked m r al (strategy []) strategy in
    let k = class_of (length t.nulls) count in
    let stakes : (stake_outcome t s).after ≡ u = rw left refl in
    ap (λ x. (next_outcome t x k).after) stakes ∙ settles_class t tag m r al (strategy []) strategy k ∙ ap (standing_after t u) (one_class (length t.nulls) count) ∙ sym (armed_next t tag m r al row strategy day count left)

is_standing : (s : Standing) → s.state ≡ Armed → s ≡ standing s.tag Armed s.ledger s.rounds s.alarms s.row s.strategy
is_standing s armed = ap (λ st. standing s.tag st s.ledger s.rounds s.alarms s.row s.strategy) armed

class_same : (t : Terms) (s : Standing) (day count : ℕ) → s.state ≡ Armed → s.rounds < 1000000 →
    (next_outcome t (stake_outcome t s).after (class_of (length t.nulls) count)).after ≡ after_event t s (Settled day count)
class_same t s day count armed left =
    let few : ltb s.rounds 1000000 ≡ true = grind (arith, nat_tests) in
    subst (λ (x : Standing). (next_outcome t (stake_outcome t x).after (class_of (length t.nulls) count)).after ≡ after_event t x (Settled day count)) (sym (is_standing s armed))
    (class_alike t s.tag s.ledger s.rounds s.alarms s.row s.strategy day count few)

-- the plan at a count, by the monitor's state
stake_first : (t : Terms) (s : Standing) (turns : List Turn) → s.state ≡ Armed → calls_before t s (ToCount ∷ turns) [] ≡ Stake ∷ []
stake_first t s turns armed = ap (λ st. cond (is_armed st) (Stake ∷ []) (calls_before t s turns [])) armed

class_first : (t : Terms) (s : Standing) (turns : List Turn) (k : ℕ) (past : List ℕ) → s.state ≡ Armed → calls_before t s (ToCount ∷ turns) (k ∷ past) ≡ calls_before t (next_outcome t (stake_outcome t s).after k).after turns past
class_first t s turns k past armed = ap (λ st. cond (is_armed st) (calls_before t (next_outcome t (stake_outcome t s).after k).after turns past) (calls_before t s turns (k ∷ past))) armed

passed_first : (t : Terms) (s : Standing) (turns : List Turn) (past : List ℕ) → s.state ≡ Rung → calls_before t s (ToCount ∷ turns) past ≡ calls_before t s turns past
passed_first t s turns [] rung = ap (λ st. cond (is_armed st) (Stake ∷ []) (calls_before t s turns [])) rung
passed_first t s turns (k ∷ past) rung = ap (λ st. cond (is_armed st) (calls_before t (next_outcome t (stake_outcome t s).after k).after turns past) (calls_before t s turns (k ∷ past))) rung

-- what q counts of settled rounds
module _ (q : Answer → Bool) (only : CountsRounds q) where
  abbrev one : Bool → ℕ
  one rang = cond (q (OfSettle (Ok rang))) 1 0

  -- what it counts of the events
  abbrev counted : Terms → Standing → List Event → ℕ
  counted t s [] = 0
  counted t s (Settled day count ∷ es) =
      let after = after_event t s (Settled day count) in one (leb (t.threshold * bet) after.ledger) + counted t after es
  counted t s (Passed day number ∷ es) = counted t s es
  counted t s (Rearmed ∷ es) = counted t (rearm_outcome t s).after es

  abbrev run_counted : Terms → Plan → Standing → List ℕ → List ℕ → ℕ
  run_counted t p s past ks = count_by q (answers_from t p s past ks)

  -- a run whose calls staked the monitor goes on behind the class
  goes_on : (t : Terms) (p : Plan) (tag m r al : ℕ) (row : List ℕ) (strategy : Strategy) (past : List ℕ) (count : ℕ) (ks : List ℕ) (s0 : Standing) →
      let u = standing tag Staked m r al row strategy in
      let k = class_of (length t.nulls) count in
      left_by t s0 (p past) ≡ u → run_counted t p s0 past (k ∷ ks) ≡ one (is_ringing t u k) + run_counted t p (standing_after t u k) (past ++ (k ∷ [])) ks
  goes_on t p tag m r al row strategy past count ks s0 called =
      let u = standing tag Staked m r al row strategy in
      let k = class_of (length t.nulls) count in
      run_more q only t p s0 past k ks
      ∙ ap (λ x. let o = accepted t x k in cond (is_staked x.state) (cond (q (OfSettle o.answer)) 1 0 + run_counted t p o.after (past ++ (k ∷ [])) ks) 0) called
      ∙ ap (λ c. one (is_ringing t u c) + run_counted t p (standing_after t u c) (past ++ (k ∷ [])) ks) (one_class (length t.nulls) count)

  -- from a standing that is armed and has a round left
  from_armed : (t : Terms) (p : Plan) (tag m r al : ℕ) (row : List ℕ) (strategy : Strategy) (past : List ℕ) (day count : ℕ) (ks : List ℕ) (s0 : Standing) → ltb r 1000000 ≡ true →
      let s = standing tag Armed m r al row strategy in
      let after = after_event t s (Settled day count) in
      let k = class_of (length t.nulls) count in
      left_by t s0 (p past) ≡ (stake_outcome t s).after → run_counted t p s0 past (k ∷ ks) ≡ one (leb (t.threshold * bet) after.ledger) + run_counted t p after (past ++ (k ∷ [])) ks
  from_armed t p tag m r al row strategy past day count ks s0 left called =
      let s = standing tag Armed m r al row strategy in
      let k = class_of (length t.nulls) count in
      let stakes : (stake_outcome t s).after ≡ standing tag Staked m r al (strategy []) strategy = rw left refl in
      goes_on t p tag m r al (strategy []) strategy past count ks s0 (called ∙ stakes)
      ∙ ap (λ x. one (leb (t.threshold * bet) x.ledger) + run_counted t p x (past ++ (k ∷ [])) ks) (sym (armed_next t tag m r al row strategy day count left))

  -- the same of any standing that is armed
  settles_count : (t : Terms) (p : Plan) (s : Standing) (past : List ℕ) (day count : ℕ) (ks : List ℕ) (s0 : Standing) → s.state ≡ Armed → s.rounds < 1000000 →
      let after = after_event t s (Settled day count) in
      let k = class_of (length t.nulls) count in
      left_by t s0 (p past) ≡ (stake_outcome t s).after → run_counted t p s0 past (k ∷ ks) ≡ one (leb (t.threshold * bet) after.ledger) + run_counted t p after (past ++ (k ∷ [])) ks
  settles_count t p s past day count ks s0 armed left called =
      let few : ltb s.rounds 1000000 ≡ true = grind (arith, nat_tests) in
      subst
      (λ (x : Standing). left_by t s0 (p past) ≡ (stake_outcome t x).after → run_counted t p s0 past (class_of (length t.nulls) count ∷ ks)
      ≡ one (leb (t.threshold * bet) (after_event t x (Settled day count)).ledger) + run_counted t p (after_event t x (Settled day count)) (past ++ (class_of (length t.nulls) count ∷ [])) ks) (sym (is_standing s armed))
      (from_armed t p s.tag s.ledger s.rounds s.alarms s.row s.strategy past day count ks s0 few) called

  -- p is the plan from s on, but that it may come to s by calls of its own
  follows : (t : Terms) (free : Places) (p : Plan) (more : List Turn) (es : List Event) (s s0 : Standing) (past : List ℕ) → AllRightly t free s es → left_by t s0 (p past) ≡ left_by t s (calls_before t s (turns_of es ++ more) []) →
      ((k : ℕ) (later : List ℕ) → p (past ++ (k ∷ later)) ≡ calls_before t s (turns_of es ++ more) (k ∷ later)) → run_counted t p s0 past (classes_of t es) ≡ counted t s es
  follows t free p more [] s s0 past ok here later = run_none q only t p s0 past
  follows t free p more (Settled day count ∷ es) s s0 past ok here later =
      let k = class_of (length t.nulls) count in
      let after = after_event t s (Settled day count) in
      let turns = turns_of es ++ more in
      let behind : (ks : List ℕ) → p (past ++ (k ∷ ks)) ≡ calls_before t after turns ks =
      λ ks. later k ks ∙ class_first t s turns k ks ok.0.0 ∙ ap (λ x. calls_before t x turns ks) (class_same t s day count ok.0.0 ok.0.1) in
      let rest = follows t (free_after t s free (Settled day count)) p more es after after (past ++ (k ∷ [])) ok.1 (ap (left_by t after) (behind [])) (λ k' later'. ap p (append_assoc past (k ∷ []) (k' ∷ later')) ∙ behind (k' ∷ later')) in
      settles_count t p s past day count (classes_of t es) s0 ok.0.0 ok.0.1 (here ∙ ap (left_by t s) (stake_first t s turns ok.0.0)) ∙ ap (λ n. one (leb (t.threshold * bet) after.ledger) + n) rest
  follows t free p more (Passed day number ∷ es) s s0 past ok here later =
      let turns = turns_of es ++ more in
      follows t (free_after t s free (Passed day number)) p more es s s0 past ok.1 (here ∙ ap (left_by t s) (passed_first t s turns [] ok.0.0)) (λ k later'. later k later' ∙ passed_first t s turns (k ∷ later') ok.0.0)
  follows t free p more (Rearmed ∷ es) s s0 past ok here later = follows t (free_after t s free Rearmed) p more es (rearm_outcome t s).after s0 past ok.1 here later

-- an alarm is counted for each that is entered, and a round for each class
entered : (b : Bool) (day : ℕ) (s : Standing) → cond b 1 0 ≡ length (alarm_if b day s [])
entered true day s = refl
entered false day s = refl

alarms_counted : (t : Terms) (s : Standing) (es : List Event) → counted is_alarm only_alarms t s es ≡ length (alarms_of t s es)
alarms_counted t s [] = refl
alarms_counted t s (Settled day count ∷ es) =
    let after = after_event t s (Settled day count) in
    omega (arith, entered (leb (t.threshold * bet) after.ledger) day after, alarms_counted t after es, length-append (alarm_of t s (Settled day count)) (alarms_of t after es))
alarms_counted t s (Passed day number ∷ es) = alarms_counted t s es
alarms_counted t s (Rearmed ∷ es) = alarms_counted t (rearm_outcome t s).after es

only_rounds : CountsRounds is_round
only_rounds a apart = apart

rounds_counted : (t : Terms) (s : Standing) (es : List Event) → counted is_round only_rounds t s es ≡ length (classes_of t es)
rounds_counted t s [] = refl
rounds_counted t s (Settled day count ∷ es) = omega (arith, rounds_counted t (after_event t s (Settled day count)) es)
rounds_counted t s (Passed day number ∷ es) = rounds_counted t s es
rounds_counted t s (Rearmed ∷ es) = rounds_counted t (rearm_outcome t s).after es

pub planned : Planned
planned t free s es more ok =
    let plan = calls_before t s (turns_of es ++ more) in
    record {
      alarms = follows is_alarm only_alarms t free plan more es s s [] ok refl (λ k later. refl) ∙ alarms_counted t s es;
      rounds = follows is_round only_rounds t free plan more es s s [] ok refl (λ k later. refl) ∙ rounds_counted t s es;
    }
