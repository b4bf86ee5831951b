-- The bound: A × weighted alarms ≤ weighted settled rounds.
use Rattle.std.proofs.Common.{◌≡◌, ℕ, zero, suc, ◌+◌, ◌*◌, ◌≤◌, Bool, true, false, cond, leb, List, [], ◌∷◌, ◌++◌, length, replicate, sym, refl, ap, ◌∙◌, ap₂, mul_assoc, mul_comm, mul-le-mul_left, one-mul, mul-zero, mul-add, arith}
use native.Mathlib.Nat.{le_of_mul-le-mul_left}
use Rattle.std.specs.List.{sum, count_by}
use Rattle.std.proofs.lemmas.Bool.Decides.{nat_tests}
use Rattle.edetector.specs.declared.state.State.{State}
use Rattle.edetector.specs.declared.state.State.TheVariants.{Armed, Staked, Rung}
use Rattle.edetector.specs.Tables.{class_of}
use Rattle.edetector.specs.Rules.{bet, IsRestartRule}
use Rattle.edetector.specs.Bettors.{Meaning, IsBettor}
use Rattle.edetector.specs.States.{is_staked}
use Rattle.edetector.specs.Monitors.{Terms, Standing, terms, first_standing, standing_after, is_ringing, ledger_after, is_round, is_alarm}
use Rattle.edetector.specs.Plans.{Plan, run, Bound}
use Rattle.edetector.specs.Lemmas.Sums.{weigh, fair_by_class, weigh_mono, weigh_add, weigh_scale}
use Rattle.edetector.proofs.Weighing.{weigh_same, weigh_within, weigh_const, fair_step}
use Rattle.edetector.proofs.Sequences.{over_all, over_same, weighted_alike, mass, mass_more, over_none, over_plus}
use Rattle.edetector.proofs.Fairness.{FairRow, potential, potential_at, row_fair, Sound, all_kept}
use Rattle.edetector.proofs.Runs.{only_alarms, answers_from, before_settle, run_none, run_more}

-- an alarm costs a, and what is left of the ledger is the potential
paid_by : (a m : ℕ) (b : Bool) → (b ≡ true → a ≤ m) → a * cond b 1 0 + potential_at a (cond b Rung Armed) m ≡ m
paid_by a m true h = omega (arith, h refl)
paid_by a m false h = omega arith

paid : (a m : ℕ) → a * cond (leb a m) 1 0 + potential_at a (cond (leb a m) Rung Armed) m ≡ m
paid a m = paid_by a m (leb a m) (λ e. grind (arith, nat_tests))

-- one class: what the alarm takes and what is left make up the ledger
one_class : (a u c al ro n left m : ℕ) → a * al ≤ u * ro + n * left → a * c + left ≡ m → a * (c * n + al) ≤ u * ro + n * m
one_class a u c al ro n left m ih e =
    let split : a * (c * n + al) ≡ a * (c * n) + a * al = mul-add a (c * n) al in
    let turned : a * (c * n) ≡ n * (a * c) = sym (mul_assoc a c n) ∙ mul_comm (a * c) n in
    let sum : n * (a * c + left) ≡ n * (a * c) + n * left = mul-add n (a * c) left in
    let same : n * (a * c + left) ≡ n * m = ap (λ x. n * x) e in
    omega (arith, ih, split, turned, sum, same)

-- all classes: the numbers alone
all_classes : (u ro n w m b grow : ℕ) → grow ≤ w * b → b ≤ m + u → u * ro + n * grow ≤ u * (w * (1 * n) + ro) + (w * n) * m
all_classes u ro n w m b grow g h =
    let g2 : n * grow ≤ n * (w * b) = mul-le-mul_left n g in
    let g3 : n * (w * b) ≡ (n * w) * b = sym (mul_assoc n w b) in
    let g4 : (n * w) * b ≤ (n * w) * (m + u) = mul-le-mul_left (n * w) h in
    let g5 : (n * w) * (m + u) ≡ (n * w) * m + (n * w) * u = mul-add (n * w) m u in
    let e1 : n * w ≡ w * n = mul_comm n w in
    let e2 : (n * w) * m ≡ (w * n) * m = ap (λ x. x * m) e1 in
    let e3 : (n * w) * u ≡ u * (w * n) = ap (λ x. x * u) e1 ∙ mul_comm (w * n) u in
    let e4 : w * (1 * n) ≡ w * n = ap (λ x. w * x) (one-mul n) in
    let e5 : u * (w * (1 * n) + ro) ≡ u * (w * (1 * n)) + u * ro = mul-add u (w * (1 * n)) ro in
    let e6 : u * (w * (1 * n)) ≡ u * (w * n) = ap (λ x. u * x) e4 in
    omega (arith, g2, g3, g4, g5, e2, e3, e5, e6)

not_staked : (ws row : List ℕ) (b : Bool) → row_fair ws (cond b Rung Armed) row
not_staked ws row true = tt
not_staked ws row false = tt

abbrev alarms_from : Terms → Plan → Standing → List ℕ → ℕ → ℕ
alarms_from t p s past h = over_all (replicate h t.nulls) (λ ks. count_by is_alarm (answers_from t p s past ks))

abbrev rounds_from : Terms → Plan → Standing → List ℕ → ℕ → ℕ
rounds_from t p s past h = over_all (replicate h t.nulls) (λ ks. count_by is_round (answers_from t p s past ks))

module _ (t : Terms) (p : Plan) (rule : IsRestartRule t.base) where
  -- what is to be shown of h more classes from the state s
  abbrev Holds : ℕ → Standing → List ℕ → Type 0
  Holds h s past = (t.threshold * bet) * alarms_from t p s past h ≤ bet * rounds_from t p s past h + mass (replicate h t.nulls) * potential t s

  -- a settle of class k, with what is counted behind it
  abbrev counted : (Standing → List ℕ → List ℕ → ℕ) → (ℕ → ℕ) → Standing → List ℕ → ℕ → ℕ → ℕ
  counted f here m past h k =
      let c = class_of (length t.nulls) k in over_all (replicate h t.nulls) (λ ks. here c + f (standing_after t m c) (past ++ (k ∷ [])) ks)

  abbrev alarm_here : Standing → ℕ → ℕ
  alarm_here m c = cond (is_ringing t m c) 1 0

  abbrev alarms : Standing → List ℕ → List ℕ → ℕ
  alarms s past ks = count_by is_alarm (answers_from t p s past ks)

  abbrev rounds : Standing → List ℕ → List ℕ → ℕ
  rounds s past ks = count_by is_round (answers_from t p s past ks)

  -- the same, once the calls before the next settlement have left m, staked
  from_staked : (h : ℕ) (m : Standing) (past : List ℕ) → FairRow t.nulls m.row → ((k : ℕ) → Holds h (standing_after t m (class_of (length t.nulls) k)) (past ++ (k ∷ []))) →
      (t.threshold * bet) * weigh t.nulls 0 (counted alarms (alarm_here m) m past h)
      ≤ bet * weigh t.nulls 0 (counted rounds (λ c. 1) m past h) + mass (replicate (suc h) t.nulls) * m.ledger
  from_staked h m past fair ih =
      let ws = t.nulls in
      let a = t.threshold * bet in
      let n = mass (replicate h ws) in
      let clamped : ℕ → ℕ = λ k. ledger_after t m (class_of (length t.nulls) k) in
      let same-ledger : weigh ws 0 clamped ≡ weigh ws 0 (ledger_after t m) = weigh_within ws 0 clamped (ledger_after t m) (λ k l. ap (ledger_after t m) (omega arith)) in
      let al : ℕ → ℕ = λ k. alarms_from t p (standing_after t m (class_of (length t.nulls) k)) (past ++ (k ∷ [])) h in
      let ro : ℕ → ℕ = λ k. rounds_from t p (standing_after t m (class_of (length t.nulls) k)) (past ++ (k ∷ [])) h in
      let c : ℕ → ℕ = λ k. alarm_here m (class_of (length t.nulls) k) in
      let each : (k : ℕ) → a * (c k * n + al k) ≤ bet * ro k + n * clamped k = λ k. one_class a bet (c k) (al k) (ro k) n (potential t (standing_after t m (class_of (length t.nulls) k))) (clamped k) (ih k) (paid a (clamped k)) in
      let alarms-are = weigh_same ws 0 (counted alarms (alarm_here m) m past h) (λ k. c k * n + al k) (λ k. over_plus (replicate h ws) (c k) (alarms (standing_after t m (class_of (length t.nulls) k)) (past ++ (k ∷ [])))) in
      let rounds-are = weigh_same ws 0 (counted rounds (λ x. 1) m past h) (λ k. 1 * n + ro k) (λ k. over_plus (replicate h ws) 1 (rounds (standing_after t m (class_of (length t.nulls) k)) (past ++ (k ∷ [])))) in
      let summed : weigh ws 0 (λ k. a * (c k * n + al k)) ≤ weigh ws 0 (λ k. bet * ro k + n * clamped k) = weigh_mono ws 0 (λ k. a * (c k * n + al k)) (λ k. bet * ro k + n * clamped k) each in
      let left : weigh ws 0 (λ k. a * (c k * n + al k)) ≡ a * weigh ws 0 (λ k. c k * n + al k) = weigh_scale ws 0 a (λ k. c k * n + al k) in
      let right : weigh ws 0 (λ k. bet * ro k + n * clamped k) ≡ bet * weigh ws 0 ro + n * weigh ws 0 clamped =
      weigh_add ws 0 (λ k. bet * ro k) (λ k. n * clamped k) ∙ ap₂ (λ x y. x + y) (weigh_scale ws 0 bet ro) (weigh_scale ws 0 n clamped) in
      let numbers = all_classes bet (weigh ws 0 ro) n (sum ws) m.ledger (t.base m.ledger) (weigh ws 0 clamped) (rw same-ledger (fair_step ws m.row (t.base m.ledger) fair)) (rule.at_most_a_bet m.ledger) in
      let rounds-sum : weigh ws 0 (λ k. 1 * n + ro k) ≡ sum ws * (1 * n) + weigh ws 0 ro = weigh_add ws 0 (λ k. 1 * n) ro ∙ ap (λ x. x + weigh ws 0 ro) (weigh_const ws 0 (1 * n)) in
      rw (alarms-are, rounds-are, rounds-sum, mass_more ws (replicate h ws)) (omega (arith, summed, left, right, numbers))

  -- the same, where a plan's calls have left m in the state st
  abbrev counted_if : Bool → (Standing → List ℕ → List ℕ → ℕ) → (ℕ → ℕ) → Standing → List ℕ → ℕ → ℕ → ℕ
  counted_if b f here m past h k =
      let c = class_of (length t.nulls) k in over_all (replicate h t.nulls) (λ ks. cond b (here c + f (standing_after t m c) (past ++ (k ∷ [])) ks) 0)

  by_state : (h : ℕ) (m : Standing) (past : List ℕ) (st : State) → row_fair t.nulls st m.row → ((k : ℕ) → Holds h (standing_after t m (class_of (length t.nulls) k)) (past ++ (k ∷ []))) →
      (t.threshold * bet) * weigh t.nulls 0 (counted_if (is_staked st) alarms (alarm_here m) m past h)
      ≤ bet * weigh t.nulls 0 (counted_if (is_staked st) rounds (λ c. 1) m past h) + mass (replicate (suc h) t.nulls) * potential_at (t.threshold * bet) st m.ledger
  by_state h m past Armed fair ih = rw (over_none (replicate (suc h) t.nulls), mul-zero) (omega arith)
  by_state h m past Staked fair ih = from_staked h m past fair ih
  by_state h m past Rung fair ih = rw (over_none (replicate (suc h) t.nulls), mul-zero) (omega arith)

  holds : (h : ℕ) (s : Standing) (past : List ℕ) → Sound t s → Holds h s past
  holds zero s past ok = rw (run_none is_alarm only_alarms t p s past, mul-zero) (omega arith)
  holds (suc h) s past ok =
      let ws = t.nulls in
      let m = before_settle t p s past in
      let kept = all_kept t s (p past) ok in
      let more = mul-le-mul_left (mass (replicate (suc h) ws)) kept.1 in
      let step = by_state h m past m.state kept.0.1 (λ k. holds h (standing_after t m (class_of (length ws) k)) (past ++ (k ∷ [])) ((λ later. kept.0.0 (class_of (length ws) k ∷ later)), not_staked ws [] (is_ringing t m (class_of (length ws) k)))) in
      let alarms-are : alarms_from t p s past (suc h) ≡ weigh ws 0 (counted_if (is_staked m.state) alarms (alarm_here m) m past h) =
      weigh_same ws 0 _ _ (λ k. over_same (replicate h ws) _ _ (λ ks. run_more is_alarm only_alarms t p s past k ks)) in
      let rounds-are : rounds_from t p s past (suc h) ≡ weigh ws 0 (counted_if (is_staked m.state) rounds (λ c. 1) m past h) =
      weigh_same ws 0 _ _ (λ k. over_same (replicate h ws) _ _ (λ ks. run_more is_round (λ a apart. apart) t p s past k ks)) in
      omega (arith, step, more, ap (λ n. (t.threshold * bet) * n) alarms-are, rounds-are)

pub bound : (m : Meaning) (base : ℕ → ℕ) (threshold tag : ℕ) → IsRestartRule base → IsBettor m → Bound m base threshold tag
bound m base threshold tag rule bettor h p =
    let t = terms m base threshold in
    let tables = replicate h t.nulls in
    let s = first_standing t tag m in
    let all = holds t p rule h s [] ((λ later. fair_by_class m.nulls (m.strategy later) (bettor.factors later) (bettor.fair later)), tt) in
    let al = alarms_from t p s [] h in
    let ro = rounds_from t p s [] h in
    let turned : (t.threshold * bet) * al ≡ bet * (t.threshold * al) = ap (λ x. x * al) (mul_comm t.threshold bet) ∙ mul_assoc bet t.threshold al in
    let none = mul-zero (mass tables) in
    let scaled : bet * (t.threshold * al) ≤ bet * ro = omega (arith, all, turned, none) in
    rw (weighted_alike t.nulls h (λ ks. count_by is_alarm (run t p s ks)), weighted_alike t.nulls h (λ ks. count_by is_round (run t p s ks))) (le_of_mul-le-mul_left scaled (omega arith))
