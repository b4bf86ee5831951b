-- A count record on plain data.
use Rattle.std.proofs.Common.{◌≡◌, ℕ, ◌+◌, Bool, true, false, cond, eqb, ltb, List, [], length, Ok, Err, Result, refl, ap, ◌∙◌, arith}
use Rattle.std.proofs.lemmas.Bool.Decides.{nat_tests}
use Rattle.edetector.specs.declared.state.State.{State}
use Rattle.edetector.specs.declared.state.State.TheVariants.{Armed, Staked, Rung}
use Rattle.edetector.specs.declared.slip.OpenSlip.{OpenSlip}
use Rattle.edetector.specs.declared.fault.MonitorFault.{MonitorFault}
use Rattle.edetector.specs.declared.fault.MonitorFault.TheVariants.{Spent}
use Rattle.edetector.specs.Tables.{class_of}
use Rattle.edetector.specs.declared.monitor.Reading.{Reading}
use Rattle.edetector.specs.Bettors.{Strategy}
use Rattle.edetector.specs.Monitors.{Terms, Standing, Answer, OfRead, outcome, is_ringing, standing_after}
use Rattle.edetector.proofs.Standings.{after_stake, standing}
use Rattle.playback.specs.declared.stop.ReplayFault.{ReplayFault}
use Rattle.daybook.specs.declared.entry.unwatched.Unwatched.{Unwatched}
use Rattle.daybook.specs.Books.{all_used}
use Rattle.playback.specs.Days.{is_after}
use Rattle.daybook.specs.declared.entry.alarm.Alarm.{Alarm}
use Rattle.playback.specs.Rest.{Rest, behind_count, moved_if}
use Rattle.playback.specs.Watch.{Watch, Places, done, round_done, watched_count, round, round_of, settled_slip, shown, watched, count_read}

-- the reading that an answer is of
pub reading_of : (r r' : Reading) → ◌≡◌ {A = Answer} (OfRead r) (OfRead r') → r ≡ r'
reading_of r r' e = cc

-- a refusal differs from a taken round
refused_not_taken : (f : ReplayFault) (s s' : Standing) (ents ents' : List Alarm) → round (Err f) s ents ≡ round (Ok tt) s' ents' → ⊥
refused_not_taken f s s' ents ents' e =
    let told : ◌≡◌ {A = Result (Unit {0}) ReplayFault} (Err f) (Ok tt) = ap (λ r. r.answer) e in
    cc

abbrev Same : Standing → List Alarm → Standing → List Alarm → Type 0
Same s ents s' ents' = (s' ≡ s) × (ents' ≡ ents)

-- a slip just given fits
pub settled_fits : (t : Terms) (tag m r al : ℕ) (row : List ℕ) (play : Strategy) (ents : List Alarm) (day count : ℕ) → (k : ℕ) → k ≡ class_of (length t.nulls) count →
    settled_slip t (standing tag Staked m r al row play) ents day (record { stake = record { tag = tag; number = r + 1 }; count = count })
    ≡ round_of (Ok (is_ringing t (standing tag Staked m r al row play) k)) day (standing_after t (standing tag Staked m r al row play) k) ents
settled_fits t tag m r al row play ents day count k e =
    let tags : eqb tag tag ≡ true = grind (arith, nat_tests) in
    let numbers : eqb (r + 1) (r + 1) ≡ true = grind (arith, nat_tests) in
    rw (tags, numbers, e) refl

by_rounds : (t : Terms) (tag m r al : ℕ) (row : List ℕ) (play : Strategy) (ents : List Alarm) (day count : ℕ) (f : ReplayFault) (s' : Standing) (ents' : List Alarm) (b : Bool) →
    let s = standing tag Armed m r al row play in
    let o = cond b (outcome {X = Result OpenSlip MonitorFault} (Ok (record { tag = tag; number = r + 1 })) (after_stake s)) (outcome (Err Spent) s) in
    round (Err f) s' ents' ≡ shown t ents day count o.answer o.after → Same s ents s' ents'
by_rounds t tag m r al row play ents day count f s' ents' true e =
    absurd (refused_not_taken f s' _ ents' _ (e ∙ settled_fits t tag m r al (play []) play ents day count _ refl))
by_rounds t tag m r al row play ents day count f s' ents' false e = (ap (λ x. x.standing) e, ap (λ x. x.alarms) e)

in_state : (t : Terms) (st : State) (tag m r al : ℕ) (row : List ℕ) (play : Strategy) (ents : List Alarm) (day count : ℕ) (f : ReplayFault) (s' : Standing) (ents' : List Alarm) →
    round (Err f) s' ents' ≡ watched t (standing tag st m r al row play) ents day count → Same (standing tag st m r al row play) ents s' ents'
in_state t Armed tag m r al row play ents day count f s' ents' e = by_rounds t tag m r al row play ents day count f s' ents' (ltb r 1000000) e
in_state t Staked tag m r al row play ents day count f s' ents' e = (ap (λ x. x.standing) e, ap (λ x. x.alarms) e)
in_state t Rung tag m r al row play ents day count f s' ents' e = (ap (λ x. x.standing) e, ap (λ x. x.alarms) e)

-- a refused round leaves the monitor and the alarm book ents they were
pub watched_refused : (t : Terms) (s : Standing) (ents : List Alarm) (day count : ℕ) (f : ReplayFault) (s' : Standing) (ents' : List Alarm) →
    round (Err f) s' ents' ≡ watched t s ents day count → Same s ents s' ents'
watched_refused t s ents day count f s' ents' e = in_state t s.state s.tag s.ledger s.rounds s.alarms s.row s.strategy ents day count f s' ents' e

goes_to_round : (t : Terms) (p : Places) (w : Watch) (number day count : ℕ) (st : State) → st ≡ w.standing.state → (st ≡ Rung → ⊥) → is_after w.last day ≡ true → all_used p.alarms w.alarms ≡ false →
    watched_count t w day count ≡ count_read t p w number day count
goes_to_round t p w number day count Armed e calm later room = rw (later, ← e, room) refl
goes_to_round t p w number day count Staked e calm later room = rw (later, ← e, room) refl
goes_to_round t p w number day count Rung e calm later room = absurd (calm refl)

abbrev watch : Standing → Rest → List Alarm → List Unwatched → Watch
watch s rest ents us = record { standing = s; last = rest.last; counts = rest.counts; alarms = ents; unwatched = us }

round_ends : (t : Terms) (s : Standing) (rest : Rest) (ents : List Alarm) (us : List Unwatched) (day count : ℕ) (r : Result (Unit {0}) ReplayFault) (s' : Standing) (ents' : List Alarm) (rest' : Rest) →
    round r s' ents' ≡ watched t s ents day count → rest' ≡ moved_if r (behind_count day rest) rest → done r (watch s' rest' ents' us) ≡ watched_count t (watch s rest ents us) day count
round_ends t s rest ents us day count (Ok tt) s' ents' rest' e moved =
    ap (λ x. done (Ok tt) (watch s' x ents' us)) moved ∙ ap (λ x. round_done (watch s rest ents us) day x.answer x.standing x.alarms) e
round_ends t s rest ents us day count (Err f) s' ents' rest' e moved =
    let same = watched_refused t s ents day count f s' ents' e in
    let back : watch s' rest' ents' us ≡ watch s rest ents us = rw (moved, same.0, same.1) refl in
    ap (done (Err f)) back ∙ ap (λ x. round_done (watch s rest ents us) day x.answer x.standing x.alarms) e

pub armed_done : (t : Terms) (p : Places) (s : Standing) (rest : Rest) (ents : List Alarm) (us : List Unwatched) (number day count : ℕ) (st : State) (r : Result (Unit {0}) ReplayFault) (s' : Standing) (ents' : List Alarm) (rest' : Rest) →
    st ≡ s.state → (st ≡ Rung → ⊥) → is_after rest.last day ≡ true → all_used p.alarms ents ≡ false →
    round r s' ents' ≡ watched t s ents day count → rest' ≡ moved_if r (behind_count day rest) rest → done r (watch s' rest' ents' us) ≡ count_read t p (watch s rest ents us) number day count
armed_done t p s rest ents us number day count st r s' ents' rest' at calm later room e moved =
    round_ends t s rest ents us day count r s' ents' rest' e moved ∙ goes_to_round t p (watch s rest ents us) number day count st at calm later room
