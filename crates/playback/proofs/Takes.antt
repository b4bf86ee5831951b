-- The writing of the records of a log is replayed without a fault.
use Rattle.std.proofs.Common.{◌≡◌, ℕ, ◌+◌, ◌*◌, ◌≤◌, Bool, true, false, cond, eqb, ltb, leb, List, [], ◌∷◌, length, Some, None, Ok, Err, Option, sym, refl, ap, ◌∙◌, subst, arith}
use Rattle.std.proofs.lemmas.List.{length-append}
use Rattle.std.proofs.lemmas.Bool.{le-leb}
use Rattle.std.proofs.lemmas.Bool.Decides.{nat_tests}
use Rattle.edetector.specs.declared.state.State.{State}
use Rattle.edetector.specs.declared.state.State.TheVariants.{Armed, Staked, Rung}
use Rattle.edetector.specs.declared.value.ValueFault.TheVariants.{Alternative as UnlikeClasses, Threshold}
use Rattle.edetector.specs.Rules.{bet}
use Rattle.edetector.specs.States.{is_staked}
use Rattle.edetector.specs.Tables.{class_of, is_within}
use Rattle.edetector.specs.Bettors.{Strategy, Meaning}
use Rattle.edetector.specs.Monitors.{Terms, Standing, is_ringing, rearm_outcome, terms}
use Rattle.edetector.proofs.Standings.{standing}
use Rattle.plantlog.specs.declared.record.Setup.{Setup as SetupValue}
use Rattle.plantlog.specs.Calls.{span}
use Rattle.plantlog.specs.Format.{Fields, Table, Setup, Alternative, Count, Rearm, End, record_bytes}
use Rattle.plantlog.specs.Laws.{AllWritable, log_bytes}
use Rattle.plantlog.specs.Format.{Writable}
use Rattle.plantlog.specs.declared.fault.RecordFault.{RecordFault}
use Rattle.plantlog.specs.Layouts.{first_of}
use Rattle.plantlog.proofs.ReadBack.{read_back}
use Rattle.playback.specs.Days.{is_after}
use Rattle.playback.specs.declared.stop.ReplayFault.TheVariants.{Value, CountsDiffer, TooLong}
use Rattle.playback.specs.Accepted.{NoFault, WatchedRecords, AfterSetup, LogRecords, counts_in, Takes}
use Rattle.playback.specs.Course.{Settled, Passed, after_event, alarm_of, passed_in}
use Rattle.playback.specs.Front.{rule_named, bettor_named}
use Rattle.playback.specs.Replayed.{Replay, rule_base, first_watch, finished, no_monitor, with_record, monitored, meaning_of, has_alternative, alternative_of, after_setup, after_table, replayed, head_of}
use Rattle.playback.specs.Replaying.{Spot, longest, first_spot, nowhere, behind, went, at_end, watching}
use Rattle.playback.specs.Stream.{Stream, Over, Next, stream_of}
use Rattle.playback.specs.Watch.{Watch, Places, Done, taken, alarm_if, restood}
use Rattle.playback.proofs.Readings.{led, settled_read, passed_read, rearm_taken}
use Rattle.playback.proofs.Rounds.{armed_next, rearm_keeps}
use Rattle.playback.proofs.Streams.{stream_next}

-- a record that was written begins the stream
written_next : (f : Fields) (fs : List Fields) → Writable f → stream_of (log_bytes (f ∷ fs)) ≡ Next f (span (log_bytes (f ∷ fs))) (stream_of (log_bytes fs))
written_next f fs writable = stream_next (log_bytes (f ∷ fs)) f (log_bytes fs) (read_back f (log_bytes fs) writable)

-- a record takes a byte at least, so there are no more counts than bytes
a_byte : (f : Fields) → 1 ≤ length (record_bytes f)
unfolding record_bytes
a_byte f = omega arith

one_more : (f : Fields) (fs : List Fields) → counts_in (f ∷ fs) ≤ counts_in fs + 1
one_more (Count head n) fs = omega arith
one_more _ fs = omega arith

few_counts : (fs : List Fields) → counts_in fs ≤ length (log_bytes fs)
few_counts [] = omega arith
few_counts (f ∷ fs) = omega (arith, few_counts fs, one_more f fs, a_byte f, length-append (record_bytes f) (log_bytes fs))

-- a settled round leaves no bet staked, is one round more, and at most one alarm more
calm_by : (b : Bool) → cond b Rung Armed ≡ Staked → ⊥
calm_by true e = cc
calm_by false e = cc

one_alarm : (b : Bool) (day : ℕ) (s : Standing) → length (alarm_if b day s []) ≤ 1
one_alarm true day s = omega arith
one_alarm false day s = omega arith

after_settled : (t : Terms) (st : State) (tag m r al : ℕ) (row : List ℕ) (play : Strategy) (day count : ℕ) → st ≡ Armed → ltb r 1000000 ≡ true →
    let s = after_event t (standing tag st m r al row play) (Settled day count) in
    (s.state ≡ Staked → ⊥) × (s.rounds ≡ r + 1)
after_settled t Armed tag m r al row play day count is left =
    let next_is = armed_next t tag m r al row play day count left in
    let rang = is_ringing t (standing tag Staked m r al (play []) play) (class_of (length t.nulls) count) in
    (λ e. calm_by rang (sym (ap (λ s. s.state) next_is) ∙ e), ap (λ s. s.rounds) next_is)
after_settled t _ tag m r al row play day count is left = cc

after_rearm : (t : Terms) (st : State) (tag m r al : ℕ) (row : List ℕ) (play : Strategy) → (st ≡ Staked → ⊥) → (rearm_outcome t (standing tag st m r al row play)).after.state ≡ Staked → ⊥
after_rearm t Armed tag m r al row play calm e = cc
after_rearm t Staked tag m r al row play calm e = calm refl
after_rearm t Rung tag m r al row play calm e = cc

-- no bet is staked, and rounds and places are left for so many counts
record Fine (p : Places) (w : Watch) (counts : ℕ) : Type 0 where
  pub calm : w.standing.state ≡ Staked → ⊥
  pub rounds : w.standing.rounds + counts ≤ longest
  pub alarms : length w.alarms + counts ≤ p.alarms
  pub unwatched : length w.unwatched + counts ≤ p.unwatched

not_full : (places used counts : ℕ) → used + (counts + 1) ≤ places → leb places used ≡ false
not_full places used counts room = grind (arith, nat_tests)

rounds_left : (rounds counts : ℕ) → rounds + (counts + 1) ≤ longest → ltb rounds 1000000 ≡ true
rounds_left rounds counts room = grind (arith, nat_tests)

module _ (t : Terms) (p : Places) where
  abbrev NoneStops : List Fields → Spot → Watch → Type 0
  NoneStops fs at w = (watching t p (stream_of (log_bytes fs)) at w).fault ≡ None

  abbrev Goes : List Fields → Type 0
  Goes fs = (at : Spot) (w : Watch) → WatchedRecords w.last w.counts fs → Fine p w (counts_in fs) → NoneStops fs at w

  -- a record that is taken, and then the rest
  goes_on : (f : Fields) (fs : List Fields) → Writable f → (at : Spot) (w w1 : Watch) (d : Done) → ((n : ℕ) (rest : Stream) → watching t p (Next f n rest) at w ≡ went at (watching t p rest (behind at n)) d.answer d.after) → d ≡ taken w1 →
      NoneStops fs (behind at (span (log_bytes (f ∷ fs)))) w1 → NoneStops (f ∷ fs) at w
  goes_on f fs writable at w w1 d does is rest =
      let k = span (log_bytes (f ∷ fs)) in
      ap (λ s. (watching t p s at w).fault) (written_next f fs writable)
      ∙ ap (λ x. x.fault) (does k (stream_of (log_bytes fs)))
      ∙ ap (λ d. (went at (watching t p (stream_of (log_bytes fs)) (behind at k)) d.answer d.after).fault) is ∙ rest

  module _ (day n : ℕ) (fs : List Fields) (writable : Writable (Count (record { day = day }) n)) (ih : Goes fs) (at : Spot) (w : Watch) (rises : is_after w.last day ≡ true) (ordered : WatchedRecords (Some day) (w.counts + 1) fs) (fine : Fine p w (counts_in fs + 1)) where
    is_settling : w.standing.state ≡ Armed → NoneStops (Count (record { day = day }) n ∷ fs) at w
    is_settling is =
        let s = w.standing in
        let left = rounds_left s.rounds (counts_in fs) fine.rounds in
        let read = settled_read t p at.number day n s.state s.tag s.ledger s.rounds s.alarms s.row s.strategy w.last w.counts w.alarms w.unwatched is rises (not_full p.alarms (length w.alarms) (counts_in fs) fine.alarms) left in
        let after = after_settled t s.state s.tag s.ledger s.rounds s.alarms s.row s.strategy day n is left in
        let later = after_event t s (Settled day n) in
        goes_on (Count (record { day = day }) n) fs writable at w (led t w (Settled day n)) _ (λ k rest. refl) read
        (ih _ (led t w (Settled day n)) ordered (record {
          calm = after.0;
          rounds = omega (arith, after.1, fine.rounds);
          alarms = omega (arith, fine.alarms, length-append w.alarms (alarm_of t s (Settled day n)), one_alarm (leb (t.threshold * bet) later.ledger) day later);
          unwatched = omega (arith, fine.unwatched, length-append w.unwatched []);
        }))

    passes : w.standing.state ≡ Rung → NoneStops (Count (record { day = day }) n ∷ fs) at w
    passes is =
        let read = passed_read t p at.number day n w is rises (not_full p.unwatched (length w.unwatched) (counts_in fs) fine.unwatched) in
        goes_on (Count (record { day = day }) n) fs writable at w (led t w (Passed day at.number)) _ (λ k rest. refl) read
        (ih _ (led t w (Passed day at.number)) ordered (record {
          calm = fine.calm;
          rounds = omega (arith, fine.rounds);
          alarms = omega (arith, fine.alarms, length-append w.alarms []);
          unwatched = omega (arith, fine.unwatched, length-append w.unwatched (passed_in (Passed day at.number)));
        }))

    counted_on : (st : State) → w.standing.state ≡ st → NoneStops (Count (record { day = day }) n ∷ fs) at w
    counted_on Armed is = is_settling is
    counted_on Staked is = absurd (fine.calm is)
    counted_on Rung is = passes is

  rearmed_on : (fs : List Fields) → Writable Rearm → Goes fs → Goes (Rearm ∷ fs)
  rearmed_on fs writable ih at w ordered fine =
      let s = w.standing in
      let read = rearm_taken t s.state s.tag s.ledger s.rounds s.alarms s.row s.strategy w.last w.counts w.alarms w.unwatched fine.calm in
      let same = rearm_keeps t s (is_staked s.state) in
      goes_on Rearm fs writable at w (restood w (rearm_outcome t s).after) _ (λ k rest. refl) read
      (ih _ (restood w (rearm_outcome t s).after) ordered (record {
        calm = after_rearm t s.state s.tag s.ledger s.rounds s.alarms s.row s.strategy fine.calm;
        rounds = omega (arith, same.1, fine.rounds);
        alarms = fine.alarms;
        unwatched = fine.unwatched;
      }))

  ended_so : (n : ℕ) → Writable (End n) → Goes (End n ∷ [])
  ended_so n writable at w named fine =
      let same : eqb n w.counts ≡ true = grind (arith, nat_tests) in
      ap (λ s. (watching t p s at w).fault) (written_next (End n) [] writable)
      ∙ ap (λ b. (went at (at_end Over (behind at (span (log_bytes (End n ∷ []))))) (cond b (Ok tt) (Err CountsDiffer)) w).fault) same

  goes_through : (fs : List Fields) → AllWritable fs → Goes fs
  goes_through (Count head n ∷ fs) writable at w ordered fine =
      counted_on head.day n fs writable.0 (λ at w o f. goes_through fs writable.1 at w o f) at w ordered.0 ordered.1 fine w.standing.state refl
  goes_through (Rearm ∷ fs) writable at w ordered fine = rearmed_on fs writable.0 (λ at w o f. goes_through fs writable.1 at w o f) at w ordered fine
  goes_through (End n ∷ []) writable at w ordered fine = ended_so n writable.0 at w ordered fine
  goes_through _ writable at w ordered fine = absurd ordered

-- rounds and places for so many counts
record Room (p : Places) (counts : ℕ) : Type 0 where
  pub rounds : counts ≤ longest
  pub alarms : counts ≤ p.alarms
  pub unwatched : counts ≤ p.unwatched

module _ (p : Places) (ws : List ℕ) (x : SetupValue) (inside : is_within 1 4096 x.threshold ≡ true) where
  made_so : (m : Meaning) (fs : List Fields) (at : Spot) → AllWritable fs → WatchedRecords None 0 fs → Room p (counts_in fs) → NoFault (monitored p x m (stream_of (log_bytes fs)) at).said
  made_so m fs at writable ordered room =
      let t = terms m (rule_base x.rule) x.threshold in
      let fine : Fine p (first_watch t m) (counts_in fs) = record { calm = λ e. cc; rounds = omega (arith, room.rounds); alarms = omega (arith, room.alarms); unwatched = omega (arith, room.unwatched) } in
      let none = goes_through t p fs writable at (first_watch t m) ordered fine in
      subst (λ (b : Bool). NoFault (cond b (finished m.nulls x t (watching t p (stream_of (log_bytes fs)) at (first_watch t m))) (no_monitor at (Value Threshold))).said) (sym inside) none

  abbrev plays_by : List ℕ → Stream → Spot → Replay
  plays_by alts = monitored p x (meaning_of x.bettor ws alts)

  abbrev if_other : Bool → Stream → Spot → Replay
  if_other b s at = cond b (with_record (alternative_of ws (head_of s)) s at plays_by) (monitored p x (meaning_of x.bettor ws []) s at)

  without_alternative : (fs : List Fields) (at : Spot) → AllWritable fs → has_alternative x.bettor ≡ false → WatchedRecords None 0 fs → Room p (counts_in fs) → NoFault (after_setup p ws x (stream_of (log_bytes fs)) at).said
  without_alternative fs at writable has ordered room =
      subst (λ (b : Bool). NoFault (if_other b (stream_of (log_bytes fs)) at).said) (sym has) (made_so (meaning_of x.bettor ws []) fs at writable ordered room)

  with_alternative : (alts : List ℕ) (fs : List Fields) (at : Spot) → AllWritable (Alternative alts ∷ fs) → has_alternative x.bettor ≡ true → length alts ≡ length ws → WatchedRecords None 0 fs → Room p (counts_in fs) →
      NoFault (after_setup p ws x (stream_of (log_bytes (Alternative alts ∷ fs))) at).said
  with_alternative alts fs at writable has same ordered room =
      let k = span (log_bytes (Alternative alts ∷ fs)) in
      let s = stream_of (log_bytes fs) in
      let classes : eqb (length alts) (length ws) ≡ true = grind (arith, nat_tests) in
      let is =
      ap (λ b. if_other b (stream_of (log_bytes (Alternative alts ∷ fs))) at) has
      ∙ ap (λ s. if_other true s at) (written_next (Alternative alts) fs writable.0)
      ∙ ap (λ b. with_record (cond b (Ok alts) (Err (Value UnlikeClasses))) (Next (Alternative alts) k s) at plays_by) classes in
      subst (λ (r : Replay). NoFault r.said) (sym is) (made_so (meaning_of x.bettor ws alts) fs (behind at k) writable.1 ordered room)

  from_setup : (fs : List Fields) (at : Spot) → AllWritable fs → AfterSetup (length ws) x.bettor fs → Room p (counts_in fs) → NoFault (after_setup p ws x (stream_of (log_bytes fs)) at).said
  from_setup (Alternative alts ∷ fs) at writable after room = with_alternative alts fs at writable after.0 after.1 after.2 room
  from_setup [] at writable after room = absurd after.1
  from_setup (f ∷ fs) at writable after room = without_alternative (f ∷ fs) at writable after.0 after.1 room

threshold_kept : (b : Bool) (fault : RecordFault) (next : Option RecordFault) → first_of (cond b None (Some fault)) next ≡ None → b ≡ true
threshold_kept true fault next e = refl
threshold_kept false fault next e = cc

from_table : (p : Places) (fs : List Fields) (at : Spot) → AllWritable fs → LogRecords fs → Room p (counts_in fs) → NoFault (replayed p (stream_of (log_bytes fs)) at).said
from_table p (Table ws ∷ Setup s ∷ fs) at writable ordered room =
    let gs = Setup s ∷ fs in
    let known = threshold_kept (is_within 1 4096 s.threshold) _ _ writable.1.0.0 in
    let second = behind at (span (log_bytes (Table ws ∷ gs))) in
    let is = ap (λ s. replayed p s at) (written_next (Table ws) gs writable.0) ∙ ap (λ s. after_table p ws s second) (written_next (Setup s) fs writable.1.0) in
    let rest = from_setup p ws (record { threshold = s.threshold; rule = rule_named s.rule; bettor = bettor_named s.bettor }) known fs (behind second (span (log_bytes gs))) writable.1.1 ordered room in
    subst (λ (r : Replay). NoFault r.said) (sym is) rest
from_table p _ at writable ordered room = absurd ordered

pub takes : Takes
takes p fs ordered writable short alarms unwatched =
    let room : Room p (counts_in fs) = record { rounds = omega (arith, few_counts fs, short); alarms = alarms; unwatched = unwatched } in
    let fits = le-leb (length (log_bytes fs)) longest short in
    subst (λ (b : Bool). NoFault (cond b (replayed p (stream_of (log_bytes fs)) first_spot) (no_monitor nowhere TooLong)).said) (sym fits) (from_table p fs first_spot writable ordered room)
