-- What reading a count or a rearm leads to, by how the watch stands.
use Rattle.std.proofs.Common.{◌≡◌, ℕ, ◌+◌, ◌*◌, ◌≤◌, true, false, cond, ltb, leb, List, [], ◌∷◌, ◌++◌, length, Ok, Err, Option, Result, sym, refl, ap, ◌∙◌, ap₂, arith}
use Rattle.std.proofs.lemmas.List.{append-nil}
use Rattle.std.proofs.lemmas.Bool.Decides.{nat_tests}
use Rattle.edetector.specs.declared.state.State.{State}
use Rattle.edetector.specs.declared.state.State.TheVariants.{Armed, Staked, Rung}
use Rattle.edetector.specs.declared.slip.OpenSlip.{OpenSlip}
use Rattle.edetector.specs.declared.fault.MonitorFault.{MonitorFault}
use Rattle.edetector.specs.declared.fault.MonitorFault.TheVariants.{NotArmed, Spent}
use Rattle.edetector.specs.Rules.{bet}
use Rattle.edetector.specs.Tables.{class_of}
use Rattle.edetector.specs.Bettors.{Strategy}
use Rattle.edetector.specs.Monitors.{Terms, outcome, standing_after, is_ringing, rearm_outcome}
use Rattle.edetector.proofs.Standings.{after_stake, standing}
use Rattle.daybook.specs.declared.fault.BookFault.TheVariants.{Full}
use Rattle.daybook.specs.declared.entry.unwatched.Unwatched.{Unwatched}
use Rattle.daybook.specs.Books.{all_used}
use Rattle.playback.specs.Days.{is_after}
use Rattle.daybook.specs.declared.entry.alarm.Alarm.{Alarm}
use Rattle.playback.specs.declared.stop.ReplayFault.{ReplayFault}
use Rattle.playback.specs.declared.stop.ReplayFault.TheVariants.{Monitor, Book, DayNotAbove}
use Rattle.playback.specs.Watch.{Watch, Places, taken, faulted, counted, alarm_if, shown, round_done, watched_count, passed, by_state, count_read, restood, rearm_read}
use Rattle.playback.specs.Course.{Event, Settled, Passed, Rearmed, after_event, alarm_of, passed_in, day_of, last_day, free_in, NoPlace, NoCount}
use Rattle.playback.proofs.Counting.{settled_fits}
use Rattle.playback.proofs.Rounds.{has_place, no_place, alarm_behind, armed_next}

-- the watch that an event leaves
abbrev pub led : Terms → Watch → Event → Watch
led t w e = record {
  standing = after_event t w.standing e;
  last = last_day w.last (day_of e);
  counts = w.counts + length (day_of e);
  alarms = w.alarms ++ alarm_of t w.standing e;
  unwatched = w.unwatched ++ passed_in e;
}

-- a count that is taken
module _ (t : Terms) (p : Places) (number day count : ℕ) where
  armed_read : (tag m r al : ℕ) (row : List ℕ) (play : Strategy) (last : Option ℕ) (counts : ℕ) (ents : List Alarm) (us : List Unwatched) →
      let w : Watch = record { standing = standing tag Armed m r al row play; last = last; counts = counts; alarms = ents; unwatched = us } in
      is_after last day ≡ true → all_used p.alarms ents ≡ false → ltb r 1000000 ≡ true → count_read t p w number day count ≡ taken (led t w (Settled day count))
  armed_read tag m r al row play last counts ents us rises room left =
      let w : Watch = record { standing = standing tag Armed m r al row play; last = last; counts = counts; alarms = ents; unwatched = us } in
      let after = standing_after t (standing tag Staked m r al (play []) play) (class_of (length t.nulls) count) in
      let rang = is_ringing t (standing tag Staked m r al (play []) play) (class_of (length t.nulls) count) in
      let next_is = armed_next t tag m r al row play day count left in
      ap (λ b. cond b (by_state Armed t p w number day count) (faulted w DayNotAbove)) rises
      ∙ ap (λ b. cond b (faulted w (Book Full)) (watched_count t w day count)) room
      ∙ ap (λ b.
      let o = cond b (outcome {X = Result OpenSlip MonitorFault} (Ok (record { tag = tag; number = r + 1 })) (after_stake w.standing)) (outcome (Err Spent) w.standing) in
      let x = shown t ents day count o.answer o.after in
      round_done w day x.answer x.standing x.alarms) left
      ∙ ap (λ x. round_done w day x.answer x.standing x.alarms) (settled_fits t tag m r al (play []) play ents day count _ refl)
      ∙ ap₂ (λ a u. taken (counted w day after a u)) (alarm_behind rang day after ents ∙ ap (λ s. ents ++ alarm_if (leb (t.threshold * bet) s.ledger) day s []) (sym next_is)) (sym (append-nil us))
      ∙ ap (λ s. taken (counted w day s (ents ++ alarm_of t w.standing (Settled day count)) (us ++ []))) (sym next_is)

  pub settled_read : (st : State) (tag m r al : ℕ) (row : List ℕ) (play : Strategy) (last : Option ℕ) (counts : ℕ) (ents : List Alarm) (us : List Unwatched) →
      let w : Watch = record { standing = standing tag st m r al row play; last = last; counts = counts; alarms = ents; unwatched = us } in
      st ≡ Armed → is_after last day ≡ true → all_used p.alarms ents ≡ false → ltb r 1000000 ≡ true → count_read t p w number day count ≡ taken (led t w (Settled day count))
  settled_read Armed tag m r al row play last counts ents us is rises room left = armed_read tag m r al row play last counts ents us rises room left
  settled_read Staked tag m r al row play last counts ents us is rises room left = cc
  settled_read Rung tag m r al row play last counts ents us is rises room left = cc

  by_state_is : (w : Watch) (st : State) → w.standing.state ≡ st → is_after w.last day ≡ true → count_read t p w number day count ≡ by_state st t p w number day count
  by_state_is w st is rises = ap (λ b. cond b (by_state w.standing.state t p w number day count) (faulted w DayNotAbove)) rises ∙ ap (λ x. by_state x t p w number day count) is

  pub passed_read : (w : Watch) → w.standing.state ≡ Rung → is_after w.last day ≡ true → all_used p.unwatched w.unwatched ≡ false → count_read t p w number day count ≡ taken (led t w (Passed day number))
  passed_read w is rises room =
      by_state_is w Rung is rises ∙ ap (λ b. cond b (faulted w (Book Full)) (passed w number day)) room
      ∙ ap (λ a. taken (counted w day w.standing a (w.unwatched ++ (record { day = day; «record» = number } ∷ [])))) (sym (append-nil w.alarms))

  -- and one that is not
  full_read : (w : Watch) (st : State) → NoPlace st (free_in p w) → by_state st t p w number day count ≡ faulted w (Book Full)
  full_read w Armed none = ap (λ b. cond b (faulted w (Book Full)) (watched_count t w day count)) (no_place p.alarms (length w.alarms) none)
  full_read w Staked none = ap (λ b. cond b (faulted w (Book Full)) (watched_count t w day count)) (no_place p.alarms (length w.alarms) none)
  full_read w Rung none = ap (λ b. cond b (faulted w (Book Full)) (passed w number day)) (no_place p.unwatched (length w.unwatched) none)

  staked_read : (st : State) (tag m r al : ℕ) (row : List ℕ) (play : Strategy) (last : Option ℕ) (counts : ℕ) (ents : List Alarm) (us : List Unwatched) →
      let w : Watch = record { standing = standing tag st m r al row play; last = last; counts = counts; alarms = ents; unwatched = us } in
      st ≡ Staked → watched_count t w day count ≡ faulted w (Monitor NotArmed)
  staked_read Armed tag m r al row play last counts ents us is = cc
  staked_read Staked tag m r al row play last counts ents us is = refl
  staked_read Rung tag m r al row play last counts ents us is = cc

  spent_read : (st : State) (tag m r al : ℕ) (row : List ℕ) (play : Strategy) (last : Option ℕ) (counts : ℕ) (ents : List Alarm) (us : List Unwatched) →
      let w : Watch = record { standing = standing tag st m r al row play; last = last; counts = counts; alarms = ents; unwatched = us } in
      st ≡ Armed → ltb r 1000000 ≡ false → watched_count t w day count ≡ faulted w (Monitor Spent)
  spent_read Armed tag m r al row play last counts ents us is spent =
      let w : Watch = record { standing = standing tag Armed m r al row play; last = last; counts = counts; alarms = ents; unwatched = us } in
      ap (λ b.
      let o = cond b (outcome {X = Result OpenSlip MonitorFault} (Ok (record { tag = tag; number = r + 1 })) (after_stake w.standing)) (outcome (Err Spent) w.standing) in
      let x = shown t ents day count o.answer o.after in
      round_done w day x.answer x.standing x.alarms) spent
  spent_read Staked tag m r al row play last counts ents us is spent = cc
  spent_read Rung tag m r al row play last counts ents us is spent = cc

  pub no_count : (w : Watch) (cause : ReplayFault) → NoCount (free_in p w) w day cause → count_read t p w number day count ≡ faulted w cause
  no_count w DayNotAbove below = ap (λ b. cond b (by_state w.standing.state t p w number day count) (faulted w DayNotAbove)) below
  no_count w (Book Full) why = by_state_is w w.standing.state refl why.0 ∙ full_read w w.standing.state why.1
  no_count w (Monitor NotArmed) why =
      by_state_is w Staked why.2 why.0 ∙ ap (λ b. cond b (faulted w (Book Full)) (watched_count t w day count)) (has_place p.alarms (length w.alarms) why.1)
      ∙ staked_read w.standing.state w.standing.tag w.standing.ledger w.standing.rounds w.standing.alarms w.standing.row w.standing.strategy w.last w.counts w.alarms w.unwatched why.2
  no_count w (Monitor Spent) why =
      let much : 1000000 ≤ w.standing.rounds = why.3 in
      let none : ltb w.standing.rounds 1000000 ≡ false = grind (arith, nat_tests) in
      by_state_is w Armed why.2 why.0 ∙ ap (λ b. cond b (faulted w (Book Full)) (watched_count t w day count)) (has_place p.alarms (length w.alarms) why.1)
      ∙ spent_read w.standing.state w.standing.tag w.standing.ledger w.standing.rounds w.standing.alarms w.standing.row w.standing.strategy w.last w.counts w.alarms w.unwatched why.2 none
  no_count w _ why = absurd why

-- a rearm
module _ (t : Terms) where
  pub rearm_taken : (st : State) (tag m r al : ℕ) (row : List ℕ) (play : Strategy) (last : Option ℕ) (counts : ℕ) (ents : List Alarm) (us : List Unwatched) →
      let w : Watch = record { standing = standing tag st m r al row play; last = last; counts = counts; alarms = ents; unwatched = us } in
      (st ≡ Staked → ⊥) → rearm_read t w ≡ taken (restood w (rearm_outcome t w.standing).after)
  rearm_taken Armed tag m r al row play last counts ents us calm = refl
  rearm_taken Staked tag m r al row play last counts ents us calm = absurd (calm refl)
  rearm_taken Rung tag m r al row play last counts ents us calm = refl

  pub rearm_led : (w : Watch) → restood w (rearm_outcome t w.standing).after ≡ led t w Rearmed
  rearm_led w =
      let none : w.counts ≡ w.counts + 0 = omega arith in
      ap (λ c. record { standing = (rearm_outcome t w.standing).after; last = w.last; counts = c; alarms = w.alarms; unwatched = w.unwatched }) none
      ∙ ap₂ (λ a u. record { standing = (rearm_outcome t w.standing).after; last = w.last; counts = w.counts + 0; alarms = a; unwatched = u }) (sym (append-nil w.alarms)) (sym (append-nil w.unwatched))

  pub rearm_refused : (st : State) (tag m r al : ℕ) (row : List ℕ) (play : Strategy) (last : Option ℕ) (counts : ℕ) (ents : List Alarm) (us : List Unwatched) →
      let w : Watch = record { standing = standing tag st m r al row play; last = last; counts = counts; alarms = ents; unwatched = us } in
      st ≡ Staked → rearm_read t w ≡ faulted w (Monitor NotArmed)
  rearm_refused Armed tag m r al row play last counts ents us is = cc
  rearm_refused Staked tag m r al row play last counts ents us is = refl
  rearm_refused Rung tag m r al row play last counts ents us is = cc
