-- Free places, rounds left, and what an armed monitor does with a count.
use Rattle.std.proofs.Common.{◌≡◌, ℕ, ◌+◌, ◌-◌, ◌<◌, ◌≤◌, Bool, true, false, cond, ◌&&◌, eqb, ltb, leb, List, [], ◌++◌, length, Ok, Err, Result, sym, refl, ap, ◌∙◌, ap₂, arith}
use Rattle.std.proofs.lemmas.List.{append-nil}
use Rattle.std.proofs.lemmas.Bool.{eqb-true}
use Rattle.std.proofs.lemmas.Bool.Decides.{nat_tests}
use Rattle.edetector.specs.declared.state.State.TheVariants.{Armed, Staked}
use Rattle.edetector.specs.declared.slip.OpenSlip.{OpenSlip}
use Rattle.edetector.specs.declared.fault.MonitorFault.{MonitorFault}
use Rattle.edetector.specs.declared.fault.MonitorFault.TheVariants.{NotArmed, Spent, Misfit}
use Rattle.edetector.specs.declared.fault.Refused.{Refused}
use Rattle.edetector.specs.declared.slip.ShownSlip.{ShownSlip}
use Rattle.edetector.specs.Tables.{class_of}
use Rattle.edetector.specs.Bettors.{Strategy}
use Rattle.edetector.specs.Monitors.{Terms, Standing, outcome, standing_after, is_ringing, next_outcome}
use Rattle.edetector.proofs.Standings.{after_stake, after_rearm, standing}
use Rattle.daybook.specs.declared.entry.alarm.Alarm.{Alarm}
use Rattle.playback.specs.Watch.{alarm_if}
use Rattle.playback.specs.Course.{Settled, after_event}

-- a book whose places are not all used has a free place
pub has_free : (places used : ℕ) → leb places used ≡ false → 0 < places - used
has_free places used e = grind (arith, nat_tests)

pub none_free : (places used : ℕ) → leb places used ≡ true → places - used ≡ 0
none_free places used e = grind (arith, nat_tests)

pub spent : (rounds : ℕ) → ltb rounds 1000000 ≡ false → 1000000 ≤ rounds
spent rounds e = grind (arith, nat_tests)

pub some_left : (rounds : ℕ) → ltb rounds 1000000 ≡ true → rounds < 1000000
some_left rounds e = grind (arith, nat_tests)

pub other_count : (counts n : ℕ) → eqb counts n ≡ false → counts ≡ n → ⊥
other_count counts n e same = grind (arith, nat_tests)

pub has_place : (places used : ℕ) → 0 < places - used → leb places used ≡ false
has_place places used e = grind (arith, nat_tests)

pub no_place : (places used : ℕ) → places - used ≡ 0 → leb places used ≡ true
no_place places used e = grind (arith, nat_tests)

pub unlike : (counts n : ℕ) → (counts ≡ n → ⊥) → (b : Bool) → eqb counts n ≡ b → eqb counts n ≡ false
unlike counts n differ true e = absurd (differ (eqb-true counts n e))
unlike counts n differ false e = e

-- an alarm is put behind those before it
pub alarm_behind : (b : Bool) (day : ℕ) (s : Standing) (ents : List Alarm) → alarm_if b day s ents ≡ ents ++ alarm_if b day s []
alarm_behind true day s ents = refl
alarm_behind false day s ents = sym (append-nil ents)

-- a round that rang is one alarm more
pub alarms_by : (b : Bool) (day : ℕ) (s : Standing) (al : ℕ) → cond b (al + 1) al ≡ al + length (alarm_if b day s [])
alarms_by true day s al = omega arith
alarms_by false day s al = omega arith

-- a rearm, taken or not, is no round and no alarm
pub rearm_keeps : (t : Terms) (s : Standing) (b : Bool) →
    let o = cond b (outcome {X = Result (Unit {0}) MonitorFault} (Err NotArmed) s) (outcome (Ok tt) (after_rearm t s)) in
    (o.after.alarms ≡ s.alarms) × (o.after.rounds ≡ s.rounds)
rearm_keeps t s true = (refl, refl)
rearm_keeps t s false = (refl, refl)

-- what an armed monitor with rounds left does with a count
pub armed_next : (t : Terms) (tag m r al : ℕ) (row : List ℕ) (play : Strategy) (day count : ℕ) → ltb r 1000000 ≡ true →
    after_event t (standing tag Armed m r al row play) (Settled day count) ≡ standing_after t (standing tag Staked m r al (play []) play) (class_of (length t.nulls) count)
armed_next t tag m r al row play day count left =
    let tags : eqb tag tag ≡ true = grind (arith, nat_tests) in
    let numbers : eqb (r + 1) (r + 1) ≡ true = grind (arith, nat_tests) in
    let s = standing tag Armed m r al row play in
    let u = standing tag Staked m r al (play []) play in
    let k = class_of (length t.nulls) count in
    let slip : ShownSlip = record { stake = record { tag = tag; number = r + 1 }; count = count } in
    ap (λ b. (next_outcome t (cond b (outcome {X = Result OpenSlip MonitorFault} (Ok (record { tag = tag; number = r + 1 })) (after_stake s)) (outcome (Err Spent) s)).after count).after) left
    ∙ ap (λ b. (cond b (outcome {X = Result Bool (Refused ShownSlip)} (Ok (is_ringing t u k)) (standing_after t u k)) (outcome (Err (record { fault = Misfit; slip = slip })) u)).after) (ap₂ (λ x y. x && y) tags numbers)
