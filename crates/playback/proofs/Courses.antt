-- Every replay has a course that leaves no record out.
use Rattle.std.proofs.Common.{◌≡◌, ℕ, ◌+◌, ◌-◌, ◌*◌, Bool, true, false, cond, eqb, ltb, leb, List, [], ◌∷◌, ◌++◌, length, None, Ok, Err, Option, Result, sym, refl, ap, ◌∙◌, subst, ap₂, inl, inr, append_assoc, arith}
use Rattle.std.proofs.lemmas.List.{append-nil, length-append}
use Rattle.std.proofs.lemmas.Bool.{eqb-true}
use Rattle.edetector.specs.declared.state.State.{State}
use Rattle.edetector.specs.declared.state.State.TheVariants.{Armed, Staked, Rung}
use Rattle.edetector.specs.declared.slip.OpenSlip.{OpenSlip}
use Rattle.edetector.specs.declared.fault.MonitorFault.{MonitorFault}
use Rattle.edetector.specs.declared.fault.MonitorFault.TheVariants.{NotArmed, Spent}
use Rattle.edetector.specs.Rules.{bet}
use Rattle.edetector.specs.Tables.{class_of}
use Rattle.edetector.specs.Bettors.{Strategy}
use Rattle.edetector.specs.Monitors.{Terms, Standing, outcome, standing_after, is_ringing, rearm_outcome}
use Rattle.edetector.proofs.Standings.{after_stake, standing}
use Rattle.edetector.specs.States.{is_staked}
use Rattle.plantlog.specs.Format.{Fields, Table, Setup, Alternative, Count, Rearm, End}
use Rattle.daybook.specs.declared.entry.unwatched.Unwatched.{Unwatched}
use Rattle.daybook.specs.Books.{all_used}
use Rattle.playback.specs.Days.{is_after}
use Rattle.daybook.specs.declared.entry.alarm.Alarm.{Alarm}
use Rattle.playback.specs.declared.stop.ReplayFault.{ReplayFault}
use Rattle.playback.specs.declared.stop.ReplayFault.TheVariants.{Record, Monitor, Book, NotAllowed, DayNotAbove, CountsDiffer, Trailing}
use Rattle.playback.specs.declared.stop.Fault.{Fault}
use Rattle.plantlog.specs.declared.fault.FrontFault.TheVariants.{NoneLeft}
use Rattle.plantlog.specs.declared.fault.RecordFault.TheVariants.{Front}
use Rattle.daybook.specs.declared.fault.BookFault.TheVariants.{Full}
use Rattle.playback.specs.Stream.{Stream, Over, Broken, Next}
use Rattle.playback.specs.Watch.{Watch, Places, Done, faulted, counted, alarm_if, Round, shown, watched, round_done, passed, by_state, restood, count_read, rearm_read}
use Rattle.playback.specs.Replaying.{Spot, behind, Finish, went, stopped, fault_at, at_end, watching}
use Rattle.playback.specs.Course.{Event, Settled, Passed, Rearmed, after_event, after_all, alarm_of, alarms_of, unwatched_of, passed_in, day_of, days_of, RisingDays, last_day, free_in, free_after, Rightly, AllRightly, EventOf, NoCount, NotTaken, Reached, WholeCourse, HasWholeCourse}
use Rattle.playback.proofs.Counting.{settled_fits}
use Rattle.playback.proofs.Rounds.{has_free, none_free, spent, some_left, other_count, alarm_behind, alarms_by, rearm_keeps, armed_next}

-- nothing more happens
no_event : (t : Terms) (p : Places) (s : Stream) (at : Spot) (w : Watch) (x : Option Fault) → Reached (free_in p w) w at s x → WholeCourse t p s at w (stopped w x)
no_event t p s at w x to = record {
  events = [];
  of_log = tt;
  rightly = tt;
  rising = tt;
  standing = refl;
  alarms = sym (append-nil w.alarms);
  unwatched = sym (append-nil w.unwatched);
  alarms_told = omega arith;
  settled = omega arith;
  counts = omega arith;
  last = refl;
  reached = to;
}

-- a record is not taken
still : (t : Terms) (p : Places) (s : Stream) (at : Spot) (w : Watch) (f : ReplayFault) → NotTaken (free_in p w) w s f → WholeCourse t p s at w (stopped w (fault_at at f))
still t p s at w f why = no_event t p s at w (fault_at at f) (inl (why, refl))

-- what an event of a record makes of a watch
record Leads (t : Terms) (p : Places) (f : Fields) (at : Spot) (w w1 : Watch) (e : Event) : Type 0 where
  pub of : EventOf e f at.number
  pub rightly : Rightly t (free_in p w) w.standing e
  pub standing : w1.standing ≡ after_event t w.standing e
  pub alarms : w1.alarms ≡ w.alarms ++ alarm_of t w.standing e
  pub unwatched : w1.unwatched ≡ w.unwatched ++ passed_in e
  pub alarms_told : w1.standing.alarms ≡ w.standing.alarms + length (alarm_of t w.standing e)
  pub settled : w1.standing.rounds + length (passed_in e) ≡ w.standing.rounds + length (day_of e)
  pub counts : w1.counts ≡ w.counts + length (day_of e)
  pub last : w1.last ≡ last_day w.last (day_of e)
  pub rising : RisingDays w.last (day_of e)

-- what is free behind more entries
pub fewer : {X : Type 0} (n : ℕ) (xs ys zs : List X) → zs ≡ xs ++ ys → n - length zs ≡ n - length xs - length ys
fewer n xs ys zs e = omega (arith, ap length e, length-append xs ys)

frees : (t : Terms) (p : Places) (f : Fields) (at : Spot) (w w1 : Watch) (e : Event) → Leads t p f at w w1 e → free_in p w1 ≡ free_after t w.standing (free_in p w) e
frees t p f at w w1 e l =
    ap₂ (λ a u. record { alarms = a; unwatched = u }) (fewer p.alarms w.alarms (alarm_of t w.standing e) w1.alarms l.alarms) (fewer p.unwatched w.unwatched (passed_in e) w1.unwatched l.unwatched)

-- the last day and the rising of days, day after day
pub last_on : (last : Option ℕ) (e : Event) (days : List ℕ) → last_day (last_day last (day_of e)) days ≡ last_day last (day_of e ++ days)
last_on last (Settled day count) days = refl
last_on last (Passed day number) days = refl
last_on last Rearmed days = refl

rising_on : (last : Option ℕ) (e : Event) (days : List ℕ) → RisingDays last (day_of e) → RisingDays (last_day last (day_of e)) days → RisingDays last (day_of e ++ days)
rising_on last (Settled day count) days here later = (here.0, later)
rising_on last (Passed day number) days here later = (here.0, later)
rising_on last Rearmed days here later = later

-- one event, and then the rest
begins : (t : Terms) (p : Places) (f : Fields) (n : ℕ) (rest : Stream) (at : Spot) (w w1 : Watch) (end : Finish) (e : Event) → Leads t p f at w w1 e →
    WholeCourse t p rest (behind at n) w1 end → WholeCourse t p (Next f n rest) at w end
begins t p f n rest at w w1 end e l c =
    let days = days_of c.events in
    record {
      events = e ∷ c.events;
      of_log = (l.of, c.of_log);
      rightly = (
        l.rightly,
        subst (λ (free : Places). AllRightly t free (after_event t w.standing e) c.events) (frees t p f at w w1 e l) (subst (λ (s : Standing). AllRightly t (free_in p w1) s c.events) l.standing c.rightly),
      );
      rising = rising_on w.last e days l.rising (subst (λ (x : Option ℕ). RisingDays x days) l.last c.rising);
      standing = c.standing ∙ ap (λ s. after_all t s c.events) l.standing;
      alarms = c.alarms ∙ ap₂ (λ a s. a ++ alarms_of t s c.events) l.alarms l.standing ∙ append_assoc w.alarms (alarm_of t w.standing e) (alarms_of t (after_event t w.standing e) c.events);
      unwatched = c.unwatched ∙ ap (λ u. u ++ unwatched_of c.events) l.unwatched ∙ append_assoc w.unwatched (passed_in e) (unwatched_of c.events);
      alarms_told = omega (arith, c.alarms_told, l.alarms_told, ap (λ s. length (alarms_of t s c.events)) l.standing, length-append (alarm_of t w.standing e) (alarms_of t (after_event t w.standing e) c.events));
      settled = omega (arith, c.settled, l.settled, length-append (passed_in e) (unwatched_of c.events), length-append (day_of e) days);
      counts = omega (arith, c.counts, l.counts, length-append (day_of e) days);
      last = c.last ∙ ap (λ x. last_day x days) l.last ∙ last_on w.last e days;
      reached = c.reached;
    }

abbrev watch : Standing → Option ℕ → ℕ → List Alarm → List Unwatched → Watch
watch s last counts ents us = record { standing = s; last = last; counts = counts; alarms = ents; unwatched = us }

module _ (t : Terms) (p : Places) (n : ℕ) (rest : Stream) (ih : (at : Spot) (w : Watch) → WholeCourse t p rest at w (watching t p rest at w)) (at : Spot) (day count : ℕ) where
  abbrev On : Watch → Done → Type 0
  On w d = WholeCourse t p (Next (Count (record { day = day }) count) n rest) at w (went at (watching t p rest (behind at n)) d.answer d.after)

  stays : (w : Watch) (f : ReplayFault) → NoCount (free_in p w) w day f → On w (faulted w f)
  stays w f why = still t p (Next (Count (record { day = day }) count) n rest) at w f why

  module _ (tag m r al : ℕ) (row : List ℕ) (play : Strategy) (last : Option ℕ) (counts : ℕ) (ents : List Alarm) (us : List Unwatched) (later : is_after last day ≡ true) where
    abbrev armed : Watch
    armed = watch (standing tag Armed m r al row play) last counts ents us

    abbrev after : Standing
    after = standing_after t (standing tag Staked m r al (play []) play) (class_of (length t.nulls) count)

    abbrev rang : Bool
    rang = is_ringing t (standing tag Staked m r al (play []) play) (class_of (length t.nulls) count)

    abbrev entered : Watch
    entered = counted armed day after (alarm_if rang day after ents) us

    is_settling : ltb r 1000000 ≡ true → all_used p.alarms ents ≡ false → Leads t p (Count (record { day = day }) count) at armed entered (Settled day count)
    is_settling left room =
        let next_is = armed_next t tag m r al row play day count left in
        record {
          of = refl;
          rightly = (refl, some_left r left, has_free p.alarms (length ents) room, ap (λ s. s.ledger) next_is);
          standing = sym next_is;
          alarms = alarm_behind rang day after ents ∙ ap (λ s. ents ++ alarm_if (leb (t.threshold * bet) s.ledger) day s []) (sym next_is);
          unwatched = sym (append-nil us);
          alarms_told = alarms_by rang day after al ∙ ap (λ s. al + length (alarm_if (leb (t.threshold * bet) s.ledger) day s [])) (sym next_is);
          settled = omega arith;
          counts = refl;
          last = refl;
          rising = (later, tt);
        }

    by_rounds : all_used p.alarms ents ≡ false → (b : Bool) → ltb r 1000000 ≡ b →
        let o = cond b (outcome {X = Result OpenSlip MonitorFault} (Ok (record { tag = tag; number = r + 1 })) (after_stake armed.standing)) (outcome (Err Spent) armed.standing) in
        let x = shown t ents day count o.answer o.after in
        On armed (round_done armed day x.answer x.standing x.alarms)
    by_rounds room true left =
        let fits = settled_fits t tag m r al (play []) play ents day count _ refl in
        subst (λ (x : Round). On armed (round_done armed day x.answer x.standing x.alarms)) (sym fits)
        (begins t p (Count (record { day = day }) count) n rest at armed entered _ (Settled day count) (is_settling left room) (ih (behind at n) entered))
    by_rounds room false left = stays armed (Monitor Spent) (later, has_free p.alarms (length ents) room, refl, spent r left)

    armed_course : (b : Bool) → all_used p.alarms ents ≡ b → On armed (cond b (faulted armed (Book Full)) (round_done armed day (watched t armed.standing ents day count).answer (watched t armed.standing ents day count).standing (watched t armed.standing ents day count).alarms))
    armed_course true room = stays armed (Book Full) (later, none_free p.alarms (length ents) room)
    armed_course false room = by_rounds room (ltb r 1000000) refl

  staked_course : (w : Watch) → w.standing.state ≡ Staked → is_after w.last day ≡ true → (b : Bool) → all_used p.alarms w.alarms ≡ b → On w (cond b (faulted w (Book Full)) (faulted w (Monitor NotArmed)))
  staked_course w e later true room = stays w (Book Full) (later, rw e (none_free p.alarms (length w.alarms) room))
  staked_course w e later false room = stays w (Monitor NotArmed) (later, has_free p.alarms (length w.alarms) room, e)

  rung_course : (w : Watch) → w.standing.state ≡ Rung → is_after w.last day ≡ true → (b : Bool) → all_used p.unwatched w.unwatched ≡ b → On w (cond b (faulted w (Book Full)) (passed w at.number day))
  rung_course w e later true room = stays w (Book Full) (later, rw e (none_free p.unwatched (length w.unwatched) room))
  rung_course w e later false room =
      let w1 = counted w day w.standing w.alarms (w.unwatched ++ (record { day = day; «record» = at.number } ∷ [])) in
      let leads : Leads t p (Count (record { day = day }) count) at w w1 (Passed day at.number) = record { of = (count, refl, refl); rightly = (e, has_free p.unwatched (length w.unwatched) room); standing = refl; alarms = sym (append-nil w.alarms); unwatched = refl; alarms_told = omega arith; settled = refl; counts = refl; last = refl; rising = (later, tt) } in
      begins t p (Count (record { day = day }) count) n rest at w w1 _ (Passed day at.number) leads (ih (behind at n) w1)

  in_state : (st : State) (tag m r al : ℕ) (row : List ℕ) (play : Strategy) (last : Option ℕ) (counts : ℕ) (ents : List Alarm) (us : List Unwatched) → is_after last day ≡ true →
      On (watch (standing tag st m r al row play) last counts ents us) (by_state st t p (watch (standing tag st m r al row play) last counts ents us) at.number day count)
  in_state Armed tag m r al row play last counts ents us later = armed_course tag m r al row play last counts ents us later (all_used p.alarms ents) refl
  in_state Staked tag m r al row play last counts ents us later = staked_course (watch (standing tag Staked m r al row play) last counts ents us) refl later (all_used p.alarms ents) refl
  in_state Rung tag m r al row play last counts ents us later = rung_course (watch (standing tag Rung m r al row play) last counts ents us) refl later (all_used p.unwatched us) refl

  by_day : (w : Watch) (b : Bool) → is_after w.last day ≡ b → On w (cond b (by_state w.standing.state t p w at.number day count) (faulted w DayNotAbove))
  by_day w true later = in_state w.standing.state w.standing.tag w.standing.ledger w.standing.rounds w.standing.alarms w.standing.row w.standing.strategy w.last w.counts w.alarms w.unwatched later
  by_day w false later = stays w DayNotAbove later

  count_course : (w : Watch) → On w (count_read t p w at.number day count)
  count_course w = by_day w (is_after w.last day) refl

module _ (t : Terms) (p : Places) (n : ℕ) (rest : Stream) (ih : (at : Spot) (w : Watch) → WholeCourse t p rest at w (watching t p rest at w)) (at : Spot) where
  rearms : (w w1 : Watch) → (w.standing.state ≡ Staked → ⊥) → w1 ≡ restood w (rearm_outcome t w.standing).after → Leads t p Rearm at w w1 Rearmed
  rearms w w1 calm e =
      let same = rearm_keeps t w.standing (is_staked w.standing.state) in
      rw e (record { of = refl; rightly = calm; standing = refl; alarms = sym (append-nil w.alarms); unwatched = sym (append-nil w.unwatched); alarms_told = omega (arith, same.0); settled = omega (arith, same.1); counts = omega arith; last = refl; rising = tt })

  -- a rearm that is refused leaves the monitor as it was
  rearm_course : (st : State) (tag m r al : ℕ) (row : List ℕ) (play : Strategy) (last : Option ℕ) (counts : ℕ) (ents : List Alarm) (us : List Unwatched) →
      let w = watch (standing tag st m r al row play) last counts ents us in
      let d = rearm_read t w in
      WholeCourse t p (Next Rearm n rest) at w (went at (watching t p rest (behind at n)) d.answer d.after)
  rearm_course Armed tag m r al row play last counts ents us =
      let w = watch (standing tag Armed m r al row play) last counts ents us in
      begins t p Rearm n rest at w (rearm_read t w).after _ Rearmed (rearms w _ (λ e. cc) refl) (ih (behind at n) (rearm_read t w).after)
  rearm_course Staked tag m r al row play last counts ents us = still t p (Next Rearm n rest) at (watch (standing tag Staked m r al row play) last counts ents us) (Monitor NotArmed) (refl, refl)
  rearm_course Rung tag m r al row play last counts ents us =
      let w = watch (standing tag Rung m r al row play) last counts ents us in
      begins t p Rearm n rest at w (rearm_read t w).after _ Rearmed (rearms w _ (λ e. cc) refl) (ih (behind at n) (rearm_read t w).after)

-- an end that is not the last of the log
followed : (t : Terms) (p : Places) (counts n : ℕ) (rest : Stream) (at : Spot) (w : Watch) → counts ≡ w.counts → (rest ≡ Over → ⊥) → WholeCourse t p (Next (End counts) n rest) at w (stopped w (fault_at (behind at n) Trailing))
followed t p counts n rest at w e more = no_event t p (Next (End counts) n rest) at w (fault_at (behind at n) Trailing) (inr (n, rest, ap (λ c. Next (End c) n rest) e, more, refl))

end_still : (t : Terms) (p : Places) (counts n : ℕ) (rest : Stream) (at : Spot) (w : Watch) → counts ≡ w.counts → WholeCourse t p (Next (End counts) n rest) at w (at_end rest (behind at n) w)
end_still t p counts n Over at w e = no_event t p (Next (End counts) n Over) at w None (n, ap (λ c. Next (End c) n Over) e)
end_still t p counts n (Broken x) at w e = followed t p counts n (Broken x) at w e (λ o. cc)
end_still t p counts n (Next f k rest) at w e = followed t p counts n (Next f k rest) at w e (λ o. cc)

end_course : (t : Terms) (p : Places) (counts n : ℕ) (rest : Stream) (at : Spot) (w : Watch) (b : Bool) → eqb counts w.counts ≡ b →
    WholeCourse t p (Next (End counts) n rest) at w (went at (at_end rest (behind at n)) (cond b (Ok tt) (Err CountsDiffer)) w)
end_course t p counts n rest at w true e = end_still t p counts n rest at w (eqb-true counts w.counts e)
end_course t p counts n rest at w false e = still t p (Next (End counts) n rest) at w CountsDiffer (refl, other_count counts w.counts e)

pub has_whole_course : HasWholeCourse
has_whole_course t p Over at w = still t p Over at w (Record (Front NoneLeft)) refl
has_whole_course t p (Broken e) at w = still t p (Broken e) at w (Record e) refl
has_whole_course t p (Next (Table ws) n rest) at w = still t p (Next (Table ws) n rest) at w NotAllowed refl
has_whole_course t p (Next (Setup s) n rest) at w = still t p (Next (Setup s) n rest) at w NotAllowed refl
has_whole_course t p (Next (Alternative ws) n rest) at w = still t p (Next (Alternative ws) n rest) at w NotAllowed refl
has_whole_course t p (Next (Count head count) n rest) at w = count_course t p n rest (λ at' w'. has_whole_course t p rest at' w') at head.day count w
has_whole_course t p (Next Rearm n rest) at w =
    rearm_course t p n rest (λ at' w'. has_whole_course t p rest at' w') at w.standing.state w.standing.tag w.standing.ledger w.standing.rounds w.standing.alarms w.standing.row w.standing.strategy w.last w.counts w.alarms w.unwatched
has_whole_course t p (Next (End counts) n rest) at w = end_course t p counts n rest at w (eqb counts w.counts) refl
