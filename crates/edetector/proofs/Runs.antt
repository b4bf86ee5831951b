-- What a plan's run answers, settlement by settlement.
use Rattle.std.proofs.Common.{◌≡◌, ℕ, ◌+◌, Bool, true, false, cond, ◌&&◌, eqb, List, [], ◌∷◌, ◌++◌, length, Ok, Result, sym, refl, ap, ap₂, ◌∙◌, zero-add, arith}
use Rattle.std.specs.List.{count_by}
use Rattle.std.proofs.lemmas.Bool.{false≢true, cond_both}
use Rattle.std.proofs.lemmas.Bool.Decides.{nat_tests}
use Rattle.std.proofs.lemmas.List.Sums.{sum_by-cons, sum_by-append}
use Rattle.edetector.specs.declared.slip.ShownSlip.{ShownSlip}
use Rattle.edetector.specs.declared.fault.Refused.{Refused}
use Rattle.edetector.specs.Tables.{class_of}
use Rattle.edetector.specs.States.{is_staked}
use Rattle.edetector.specs.Monitors.{shown_slip, Terms, Standing, Outcome, outcome, next_slip, settle_outcome, standing_after, is_ringing, Call, Stake, Settle, Withdraw, Rearm, Read, Answer, OfSettle, is_round, is_alarm, call_outcome, calls_outcome}
use Rattle.edetector.specs.Plans.{Plan, is_settling, plan_calls, run_calls}
use Rattle.edetector.proofs.Fairness.{misfits}
use Rattle.edetector.proofs.Standings.{handed_back}

-- calls, and more calls behind them
pub calls-append : (t : Terms) (s : Standing) (cs ds : List Call) →
    calls_outcome t s (cs ++ ds) ≡ (let first = calls_outcome t s cs in let rest = calls_outcome t first.after ds in outcome (first.answer ++ rest.answer) rest.after)
calls-append t s [] ds = refl
calls-append t s (c ∷ cs) ds =
    let one = call_outcome t s c in
    ap (λ (o : Outcome (List Answer)). outcome (one.answer ∷ o.answer) o.after) (calls-append t one.after cs ds)

-- what counts settled rounds, or some of them
abbrev pub CountsRounds : (Answer → Bool) → Type 0
CountsRounds q = (a : Answer) → is_round a ≡ false → q a ≡ false

pub only_alarms : CountsRounds is_alarm
only_alarms (OfSettle (Ok rang)) apart = absurd (false≢true (sym apart))
only_alarms _ apart = refl

-- a call that settles nothing answers of no round
unsettled : (t : Terms) (s : Standing) (c : Call) → is_settling s c ≡ false → is_round (call_outcome t s c).answer ≡ false
unsettled t s Stake apart = refl
unsettled t s (Settle slip) apart = ap (λ (o : Outcome (Result Bool (Refused ShownSlip))). is_round (OfSettle o.answer)) (misfits t s slip apart)
unsettled t s (Withdraw slip) apart = refl
unsettled t s Rearm apart = refl
unsettled t s Read apart = refl

plan_none : (q : Answer → Bool) → CountsRounds q → (t : Terms) (s : Standing) (cs : List Call) → count_by q (calls_outcome t s (plan_calls t s cs)).answer ≡ 0
plan_none q only t s [] = refl
plan_none q only t s (c ∷ cs) =
    let next = (call_outcome t s c).after in
    let one = (call_outcome t s c).answer in
    cond_both (is_settling s c) (plan_calls t s cs) (c ∷ plan_calls t next cs) (λ cs'. count_by q (calls_outcome t s cs').answer ≡ 0)
    (λ left_out. plan_none q only t s cs)
    (λ apart.
    let rest = (calls_outcome t next (plan_calls t next cs)).answer in
    sum_by-cons (λ a. cond (q a) 1 0) one rest ∙ ap₂ (λ b n. cond b 1 0 + n) (only one (unsettled t s c apart)) (plan_none q only t next cs))

-- what an accepted settle of class k answers and leaves
abbrev pub accepted : Terms → Standing → ℕ → Outcome (Result Bool (Refused ShownSlip))
accepted t m k = let c = class_of (length t.nulls) k in outcome (Ok (is_ringing t m c)) (standing_after t m c)

-- the slip that is out is accepted
pub next_is : (t : Terms) (m : Standing) (k : ℕ) → is_staked m.state ≡ true → settle_outcome t m (shown_slip (next_slip m) k) ≡ accepted t m k
next_is t m k e =
    let tags : eqb m.tag m.tag ≡ true = grind (arith, nat_tests) in
    let numbers : eqb (m.rounds + 1) (m.rounds + 1) ≡ true = grind (arith, nat_tests) in
    ap (λ b. cond b (accepted t m k) (handed_back m (shown_slip (next_slip m) k))) (ap₂ (λ x y. x && y) e (ap₂ (λ x y. x && y) tags numbers))

abbrev pub answers_from : Terms → Plan → Standing → List ℕ → List ℕ → List Answer
answers_from t plan s past classes = (calls_outcome t s (run_calls t plan s past classes)).answer

-- where a plan's calls leave a monitor
abbrev pub before_settle : Terms → Plan → Standing → List ℕ → Standing
before_settle t plan s past = (calls_outcome t s (plan_calls t s (plan past))).after

module _ (q : Answer → Bool) (only : CountsRounds q) (t : Terms) (plan : Plan) (s : Standing) (past : List ℕ) where
  -- a run on no class settles nothing
  pub run_none : count_by q (answers_from t plan s past []) ≡ 0
  run_none = plan_none q only t s (plan past)

  -- a run on one class more settles it, if a slip is out
  pub run_more : (k : ℕ) (classes : List ℕ) →
      let m = before_settle t plan s past in
      let o = accepted t m k in
      count_by q (answers_from t plan s past (k ∷ classes))
      ≡ cond (is_staked m.state) (cond (q (OfSettle o.answer)) 1 0 + count_by q (answers_from t plan o.after (past ++ (k ∷ [])) classes)) 0
  run_more k classes =
      let first = plan_calls t s (plan past) in
      let m = before_settle t plan s past in
      let o = accepted t m k in
      let settle = Settle (shown_slip (next_slip m) k) in
      let rest = run_calls t plan (settle_outcome t m (shown_slip (next_slip m) k)).after (past ++ (k ∷ [])) classes in
      let none = plan_none q only t s (plan past) in
      let tail : ℕ = cond (q (OfSettle o.answer)) 1 0 + count_by q (answers_from t plan o.after (past ++ (k ∷ [])) classes) in
      cond_both (is_staked m.state) (first ++ (settle ∷ rest)) first
      (λ cs. count_by q (calls_outcome t s cs).answer ≡ cond (is_staked m.state) tail 0)
      (λ out.
      let split = ap (λ (x : Outcome (List Answer)). count_by q x.answer) (calls-append t s first (settle ∷ rest)) in
      let joined = sum_by-append (λ a. cond (q a) 1 0) (calls_outcome t s first).answer (calls_outcome t m (settle ∷ rest)).answer in
      let here : count_by q (calls_outcome t m (settle ∷ rest)).answer ≡ tail =
      sum_by-cons (λ a. cond (q a) 1 0) (OfSettle (settle_outcome t m (shown_slip (next_slip m) k)).answer) (calls_outcome t (settle_outcome t m (shown_slip (next_slip m) k)).after rest).answer
      ∙ ap (λ (x : Outcome (Result Bool (Refused ShownSlip))). cond (q (OfSettle x.answer)) 1 0 + count_by q (answers_from t plan x.after (past ++ (k ∷ [])) classes)) (next_is t m k out) in
      split ∙ joined ∙ ap₂ (λ x y. x + y) none here ∙ zero-add tail ∙ sym (ap (λ b. cond b tail 0) out))
      (λ none_out. none ∙ sym (ap (λ b. cond b tail 0) none_out))
