-- A finish that has a course is the one that the replay comes to.
use Rattle.std.proofs.Common.{◌≡◌, ℕ, ◌+◌, ◌<◌, true, cond, eqb, ltb, List, [], ◌∷◌, ◌++◌, length, Some, None, Ok, Err, Option, sym, refl, ap, ◌∙◌, subst, ap₂, inl, inr, append_assoc, arith}
use Rattle.std.proofs.lemmas.List.{append-nil, length-append}
use Rattle.std.proofs.lemmas.Bool.Decides.{nat_tests}
use Rattle.edetector.specs.Monitors.{Terms}
use Rattle.plantlog.specs.Format.{Fields, Table, Setup, Alternative, Count, Rearm, End}
use Rattle.playback.specs.declared.stop.ReplayFault.{ReplayFault}
use Rattle.playback.specs.declared.stop.ReplayFault.TheVariants.{CountsDiffer, Trailing}
use Rattle.playback.specs.declared.stop.Fault.{Fault}
use Rattle.playback.specs.Stream.{Stream, Over, Broken, Next}
use Rattle.playback.specs.Watch.{Watch, Places, Done, taken}
use Rattle.playback.specs.Replaying.{Spot, behind, Finish, went, stopped, fault_at, at_end, watching}
use Rattle.playback.specs.Course.{Event, Settled, Passed, Rearmed, after_event, after_all, alarm_of, alarms_of, unwatched_of, passed_in, day_of, days_of, RisingDays, last_day, free_in, AllRightly, EventsOf, behind_all, spot_behind, NotTaken, Reached, OneFinish}
use Rattle.playback.proofs.Courses.{fewer, last_on}
use Rattle.playback.proofs.Rounds.{has_place, unlike}
use Rattle.playback.proofs.Readings.{led, settled_read, passed_read, no_count, rearm_taken, rearm_led, rearm_refused}

-- a course by its events
record By (t : Terms) (p : Places) (s : Stream) (at : Spot) (w : Watch) (f : Finish) (events : List Event) : Type 0 where
  pub of_log : EventsOf events s at
  pub rightly : AllRightly t (free_in p w) w.standing events
  pub rising : RisingDays w.last (days_of events)
  pub standing : f.watch.standing ≡ after_all t w.standing events
  pub alarms : f.watch.alarms ≡ w.alarms ++ alarms_of t w.standing events
  pub unwatched : f.watch.unwatched ≡ w.unwatched ++ unwatched_of events
  pub counts : f.watch.counts ≡ w.counts + length (days_of events)
  pub last : f.watch.last ≡ last_day w.last (days_of events)
  pub reached : Reached (free_in p f.watch) f.watch (spot_behind events s at) (behind_all events s) f.fault

rising_later : (last : Option ℕ) (e : Event) (days : List ℕ) → RisingDays last (day_of e ++ days) → RisingDays (last_day last (day_of e)) days
rising_later last (Settled day count) days r = r.1
rising_later last (Passed day number) days r = r.1
rising_later last Rearmed days r = r

-- the course behind its first event
later : (t : Terms) (p : Places) (f : Fields) (n : ℕ) (rest : Stream) (at : Spot) (w : Watch) (end : Finish) (e : Event) (es : List Event) → By t p (Next f n rest) at w end (e ∷ es) → By t p rest (behind at n) (led t w e) end es
later t p f n rest at w end e es c =
    let alarms = alarm_of t w.standing e in
    record {
      of_log = c.of_log.1;
      rightly = subst (λ (free : Places). AllRightly t free (after_event t w.standing e) es)
          (ap₂ (λ a u. record { alarms = a; unwatched = u }) (sym (fewer p.alarms w.alarms alarms (w.alarms ++ alarms) refl)) (sym (fewer p.unwatched w.unwatched (passed_in e) (w.unwatched ++ passed_in e) refl))) c.rightly.1;
      rising = rising_later w.last e (days_of es) c.rising;
      standing = c.standing;
      alarms = c.alarms ∙ sym (append_assoc w.alarms alarms (alarms_of t (after_event t w.standing e) es));
      unwatched = c.unwatched ∙ sym (append_assoc w.unwatched (passed_in e) (unwatched_of es));
      counts = omega (arith, c.counts, length-append (day_of e) (days_of es));
      last = c.last ∙ sym (last_on w.last e (days_of es));
      reached = c.reached;
    }

module _ (t : Terms) (p : Places) where
  -- where the next record stops the replay
  not_taken : (s : Stream) (at : Spot) (w : Watch) (cause : ReplayFault) → NotTaken (free_in p w) w s cause → watching t p s at w ≡ stopped w (fault_at at cause)
  not_taken Over at w cause why = ap (λ c. stopped w (fault_at at c)) (sym why)
  not_taken (Broken e) at w cause why = ap (λ c. stopped w (fault_at at c)) (sym why)
  not_taken (Next (Table ws) n rest) at w cause why = ap (λ c. stopped w (fault_at at c)) (sym why)
  not_taken (Next (Setup s) n rest) at w cause why = ap (λ c. stopped w (fault_at at c)) (sym why)
  not_taken (Next (Alternative ws) n rest) at w cause why = ap (λ c. stopped w (fault_at at c)) (sym why)
  not_taken (Next (Count head count) n rest) at w cause why = ap (λ d. went at (watching t p rest (behind at n)) d.answer d.after) (no_count t p at.number head.day count w cause why)
  not_taken (Next Rearm n rest) at w cause why =
      ap (λ d. went at (watching t p rest (behind at n)) d.answer d.after) (rearm_refused t w.standing.state w.standing.tag w.standing.ledger w.standing.rounds w.standing.alarms w.standing.row w.standing.strategy w.last w.counts w.alarms w.unwatched why.1)
      ∙ ap (λ c. stopped w (fault_at at c)) (sym why.0)
  not_taken (Next (End counts) n rest) at w cause why =
      let differ = why.1 in
      let other = unlike counts w.counts differ (eqb counts w.counts) refl in
      ap (λ b. went at (at_end rest (behind at n)) (cond b (Ok tt) (Err CountsDiffer)) w) other ∙ ap (λ c. stopped w (fault_at at c)) (sym why.0)

  ends : (s : Stream) (at : Spot) (w : Watch) (n : ℕ) (rest : Stream) → s ≡ Next (End w.counts) n rest → watching t p s at w ≡ at_end rest (behind at n) w
  ends s at w n rest is =
      let named : eqb w.counts w.counts ≡ true = grind (arith, nat_tests) in
      ap (λ x. watching t p x at w) is ∙ ap (λ b. went at (at_end rest (behind at n)) (cond b (Ok tt) (Err CountsDiffer)) w) named

  trailed : (rest : Stream) (at : Spot) (w : Watch) → (rest ≡ Over → ⊥) → at_end rest at w ≡ stopped w (fault_at at Trailing)
  trailed Over at w more = absurd (more refl)
  trailed (Broken e) at w more = refl
  trailed (Next f n rest) at w more = refl

  stops : (s : Stream) (at : Spot) (w : Watch) (x : Option Fault) → Reached (free_in p w) w at s x → watching t p s at w ≡ stopped w x
  stops s at w None to = ends s at w to.0 Over to.1
  stops s at w (Some f) (inl to) = not_taken s at w f.cause to.0 ∙ ap (stopped w) (sym to.1)
  stops s at w (Some f) (inr to) = ends s at w to.0 to.1 to.2 ∙ trailed to.1 (behind at to.0) w to.3 ∙ ap (stopped w) (sym to.4)

  -- no event: the watch is as it was
  unmoved : (s : Stream) (at : Spot) (w : Watch) (f : Finish) → By t p s at w f [] → f.watch ≡ w
  unmoved s at w f c =
      let counts : f.watch.counts ≡ w.counts = omega (arith, c.counts) in
      ap₂ (λ s l. record { standing = s; last = l; counts = f.watch.counts; alarms = f.watch.alarms; unwatched = f.watch.unwatched }) c.standing c.last
      ∙ ap (λ n. record { standing = w.standing; last = w.last; counts = n; alarms = f.watch.alarms; unwatched = f.watch.unwatched }) counts
      ∙ ap₂ (λ a u. record { standing = w.standing; last = w.last; counts = w.counts; alarms = a; unwatched = u }) (c.alarms ∙ append-nil w.alarms) (c.unwatched ∙ append-nil w.unwatched)

  -- a record that is taken
  goes : (f g : Fields) (n : ℕ) (rest : Stream) (at : Spot) (w w1 : Watch) (d : Done) → f ≡ g → watching t p (Next g n rest) at w ≡ went at (watching t p rest (behind at n)) d.answer d.after → d ≡ taken w1 →
      watching t p (Next f n rest) at w ≡ watching t p rest (behind at n) w1
  goes f g n rest at w w1 d is does e = ap (λ x. watching t p (Next x n rest) at w) is ∙ does ∙ ap (λ x. went at (watching t p rest (behind at n)) x.answer x.after) e

  comes : (es : List Event) (s : Stream) (at : Spot) (w : Watch) (f : Finish) → By t p s at w f es → f ≡ watching t p s at w
  comes [] s at w f c =
      let same = unmoved s at w f c in
      ap (λ x. stopped x f.fault) same
      ∙ sym (stops s at w f.fault (subst (λ (x : Watch). Reached (free_in p x) x at s f.fault) same c.reached))
  comes (e ∷ es) Over at w f c = absurd c.of_log
  comes (e ∷ es) (Broken x) at w f c = absurd c.of_log
  comes (Settled day count ∷ es) (Next g n rest) at w f c =
      let right = c.rightly.0 in
      let some : w.standing.rounds < 1000000 = right.1 in
      let left : ltb w.standing.rounds 1000000 ≡ true = grind (arith, nat_tests) in
      let read = settled_read t p at.number day count w.standing.state w.standing.tag w.standing.ledger w.standing.rounds w.standing.alarms w.standing.row w.standing.strategy w.last w.counts w.alarms w.unwatched right.0 c.rising.0 (has_place p.alarms (length w.alarms) right.2) left in
      comes es rest (behind at n) (led t w (Settled day count)) f (later t p g n rest at w f (Settled day count) es c) ∙ sym (goes g (Count (record { day = day }) count) n rest at w (led t w (Settled day count)) _ c.of_log.0 refl read)
  comes (Passed day number ∷ es) (Next g n rest) at w f c =
      let right = c.rightly.0 in
      let of = c.of_log.0 in
      let read = passed_read t p at.number day of.0 w right.0 c.rising.0 (has_place p.unwatched (length w.unwatched) right.1) ∙ ap (λ k. taken (led t w (Passed day k))) (sym of.2) in
      comes es rest (behind at n) (led t w (Passed day number)) f (later t p g n rest at w f (Passed day number) es c) ∙ sym (goes g (Count (record { day = day }) of.0) n rest at w (led t w (Passed day number)) _ of.1 refl read)
  comes (Rearmed ∷ es) (Next g n rest) at w f c =
      let read = rearm_taken t w.standing.state w.standing.tag w.standing.ledger w.standing.rounds w.standing.alarms w.standing.row w.standing.strategy w.last w.counts w.alarms w.unwatched c.rightly.0 ∙ ap taken (rearm_led t w) in
      comes es rest (behind at n) (led t w Rearmed) f (later t p g n rest at w f Rearmed es c) ∙ sym (goes g Rearm n rest at w (led t w Rearmed) _ c.of_log.0 refl read)

pub one_finish : OneFinish
one_finish t p s at w f c =
    comes t p c.events s at w f (record {
      of_log = c.of_log;
      rightly = c.rightly;
      rising = c.rising;
      standing = c.standing;
      alarms = c.alarms;
      unwatched = c.unwatched;
      counts = c.counts;
      last = c.last;
      reached = c.reached;
    })
