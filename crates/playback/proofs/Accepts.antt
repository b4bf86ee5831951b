-- A log that is replayed without a fault is the writing of the records of a log.
use Rattle.std.proofs.Common.{◌≡◌, ℕ, zero, suc, ◌+◌, ◌≤◌, Bool, true, false, cond, eqb, leb, List, [], ◌∷◌, length, get_or, Fits, w8, None, Some, Ok, Err, Option, Result, sym, refl, ap, ◌∙◌, subst, not-suc-le-zero, arith}
use Rattle.std.proofs.lemmas.List.{append-nil}
use Rattle.std.proofs.lemmas.Bool.{eqb-true}
use Rattle.std.proofs.lemmas.Bool.Decides.{nat_tests}
use Rattle.edetector.specs.declared.value.ValueFault.TheVariants.{Alternative as UnlikeClasses, Threshold}
use Rattle.edetector.specs.Tables.{is_within}
use Rattle.edetector.specs.Bettors.{Meaning}
use Rattle.edetector.specs.Monitors.{Terms}
use Rattle.plantlog.specs.Bytes.{Bytes}
use Rattle.plantlog.specs.Calls.{span}
use Rattle.plantlog.specs.Results.{of_ok, and_then}
use Rattle.plantlog.specs.declared.fault.RecordFault.{RecordFault}
use Rattle.plantlog.specs.Format.{Fields, Table, Setup, Alternative, Count, Rearm, End}
use Rattle.plantlog.specs.FirstRecord.{first_record}
use Rattle.plantlog.specs.Laws.{records_in, log_bytes}
use Rattle.plantlog.proofs.LogLaws.{log_written_so}
use Rattle.daybook.specs.declared.book.Book.{Book}
use Rattle.daybook.specs.declared.entry.Keyed.{Ghosts as Keyed}
use Rattle.daybook.specs.declared.entry.alarm.Alarm.{Alarm}
use Rattle.daybook.specs.declared.entry.unwatched.Unwatched.{Unwatched}
use Rattle.playback.specs.declared.report.Run.{Run}
use Rattle.playback.specs.declared.stop.Fault.{Fault}
use Rattle.playback.specs.declared.stop.ReplayFault.TheVariants.{Value, TooLong}
use Rattle.playback.specs.Accepted.{NoFault, WatchedRecords, AfterSetup, LogRecords, Accepted}
use Rattle.playback.specs.Course.{Event, Settled, Passed, Rearmed, days_of, RisingDays, free_in, EventsOf, behind_all, spot_behind, Reached}
use Rattle.plantlog.specs.declared.record.Setup.{Setup as SetupValue}
use Rattle.playback.specs.Front.{rule_named, bettor_named}
use Rattle.playback.specs.Replayed.{Replay, first_watch, finished, no_monitor, with_record, monitored, meaning_of, has_alternative, alternative_of, after_table, replayed, replay_told, head_of}
use Rattle.playback.specs.Replaying.{Spot, longest, first_spot, nowhere, behind, fault_in, watching}
use Rattle.playback.specs.Stream.{Stream, Over, Broken, Next, opened, stream_by, stream_of}
use Rattle.playback.specs.Rest.{Rest, whole, taken_whole}
use Rattle.playback.specs.Watch.{Watch, Places}
use Rattle.playback.proofs.OneReading.{only_records}
use Rattle.playback.proofs.Courses.{has_whole_course}
use Rattle.playback.proofs.Streams.{shorter}

-- a stream of these records and no more
abbrev Says : Stream → List Fields → Type 0
Says Over [] = Unit {0}
Says (Next f n rest) (g ∷ gs) = (f ≡ g) × Says rest gs
Says _ _ = ⊥

reads_on : (n k b : ℕ) (bs : List ℕ) → ((rest : List ℕ) (gs : List Fields) → length rest ≤ n → Says (stream_by n rest) gs → records_in (length gs) rest ≡ Ok (gs, [])) → length bs ≤ n →
    (r : Result (Fields × List ℕ) RecordFault) (fs : List Fields) → first_record (b ∷ bs) ≡ r → Says (opened (stream_by n) k r) fs → records_in (length fs) (b ∷ bs) ≡ Ok (fs, [])
reads_on n k b bs ih short (Err e) [] is says = absurd says
reads_on n k b bs ih short (Err e) (g ∷ gs) is says = absurd says
reads_on n k b bs ih short (Ok p) [] is says = absurd says
reads_on n k b bs ih short (Ok p) (g ∷ gs) is says =
    let less = shorter b bs p.0 p.1 is in
    let behind = ih p.1 gs (omega (arith, less, short)) says.1 in
    ap (λ r. and_then r (λ p. of_ok (λ q. (p.0 ∷ q.0, q.1)) (records_in (length gs) p.1))) is
    ∙ ap (of_ok (λ q. (p.0 ∷ q.0, q.1))) behind ∙ ap (λ f. Ok (f ∷ gs, [])) says.0

reads_by : (n : ℕ) (bs : List ℕ) (fs : List Fields) → length bs ≤ n → Says (stream_by n bs) fs → records_in (length fs) bs ≡ Ok (fs, [])
reads_by zero [] [] short says = refl
reads_by zero [] (g ∷ gs) short says = absurd says
reads_by zero (b ∷ bs) fs short says = absurd (not-suc-le-zero short)
reads_by (suc n) [] [] short says = refl
reads_by (suc n) [] (g ∷ gs) short says = absurd says
reads_by (suc n) (b ∷ bs) fs short says =
    reads_on n (span (b ∷ bs)) b bs (λ rest gs s y. reads_by n rest gs s y) (omega (arith, short)) (first_record (b ∷ bs)) fs refl says

-- a log that says the records of a log is their writing
written : (log : List ℕ) (fs : List Fields) → Bytes log → length log ≤ longest → Says (stream_of log) fs → LogRecords fs → Accepted log
written log fs bytes short says ordered =
    let read = reads_by (length log) log fs (omega arith) says in
    let so = log_written_so (length fs) log fs [] bytes read in
    record {
      short = short;
      records = fs;
      ordered = ordered;
      writable = so.1;
      written = so.0 ∙ append-nil (log_bytes fs);
      only = only_records (length fs) log fs read;
    }

-- the records that are left, after so many counts to a day
record Left (last : Option ℕ) (counts : ℕ) (s : Stream) : Type 0 where
  pub records : List Fields
  pub says : Says s records
  pub ordered : WatchedRecords last counts records

-- what the events are of, and then the end
of_events : (es : List Event) (s : Stream) (at : Spot) (last : Option ℕ) (counts n k : ℕ) → EventsOf es s at → RisingDays last (days_of es) → k ≡ counts + length (days_of es) →
    behind_all es s ≡ Next (End k) n Over → Left last counts s
of_events [] s at last counts n k of rising named ends =
    subst (Left last counts) (sym ends) (record { records = End k ∷ []; says = (refl, tt); ordered = omega (arith, named) })
of_events (e ∷ es) Over at last counts n k of rising named ends = absurd of
of_events (e ∷ es) (Broken x) at last counts n k of rising named ends = absurd of
of_events (Settled day count ∷ es) (Next f m rest) at last counts n k of rising named ends =
    let l = of_events es rest (behind at m) (Some day) (counts + 1) n k of.1 rising.1 (omega (arith, named)) ends in
    record { records = Count (record { day = day }) count ∷ l.records; says = (of.0, l.says); ordered = (rising.0, l.ordered) }
of_events (Passed day number ∷ es) (Next f m rest) at last counts n k of rising named ends =
    let l = of_events es rest (behind at m) (Some day) (counts + 1) n k of.1 rising.1 (omega (arith, named)) ends in
    record { records = Count (record { day = day }) of.0.0 ∷ l.records; says = (of.0.1, l.says); ordered = (rising.0, l.ordered) }
of_events (Rearmed ∷ es) (Next f m rest) at last counts n k of rising named ends =
    let l = of_events es rest (behind at m) last counts n k of.1 rising (omega (arith, named)) ends in
    record { records = Rearm ∷ l.records; says = (of.0, l.says); ordered = l.ordered }

-- a replay that comes to its end
ends : (t : Terms) (p : Places) (s : Stream) (at : Spot) (w : Watch) → (watching t p s at w).fault ≡ None → Left w.last w.counts s
ends t p s at w none =
    let c = has_whole_course t p s at w in
    let end = subst (λ (x : Option Fault). Reached (free_in p (watching t p s at w).watch) (watching t p s at w).watch (spot_behind c.events s at) (behind_all c.events s) x) none c.reached in
    of_events c.events s at w.last w.counts end.0 _ c.of_log c.rising c.counts end.1

module _ (p : Places) (ws : List ℕ) (x : SetupValue) where
  made_by : (t : Terms) (m : Meaning) (rest : Stream) (at : Spot) (b : Bool) → NoFault (cond b (finished m.nulls x t (watching t p rest at (first_watch t m))) (no_monitor at (Value Threshold))).said → Left None 0 rest
  made_by t m rest at true none = ends t p rest at (first_watch t m) none
  made_by t m rest at false none = absurd none

  made : (m : Meaning) (rest : Stream) (at : Spot) → NoFault (monitored p x m rest at).said → Left None 0 rest
  made m rest at none = made_by _ m rest at (is_within 1 4096 x.threshold) none

  abbrev plays_by : List ℕ → Stream → Spot → Replay
  plays_by alts = monitored p x (meaning_of x.bettor ws alts)

  abbrev Behind : Stream → Type 0
  Behind s = (fs : List Fields) × Says s fs × AfterSetup (length ws) x.bettor fs

  -- counts and rearms are no alternative
  straight : (fs : List Fields) → has_alternative x.bettor ≡ false → WatchedRecords None 0 fs → AfterSetup (length ws) x.bettor fs
  straight [] has records = absurd records
  straight (Table us ∷ fs) has records = absurd records
  straight (Setup s ∷ fs) has records = absurd records
  straight (Alternative us ∷ fs) has records = absurd records
  straight (Count head n ∷ fs) has records = (has, records)
  straight (Rearm ∷ fs) has records = (has, records)
  straight (End n ∷ fs) has records = (has, records)

  by_classes : (alts : List ℕ) (n : ℕ) (rest : Stream) (at : Spot) → (has_alternative x.bettor ≡ true) → (b : Bool) → eqb (length alts) (length ws) ≡ b →
      let s = Next (Alternative alts) n rest in
      NoFault (with_record (cond b (Ok alts) (Err (Value UnlikeClasses))) s at plays_by).said → Behind s
  by_classes alts n rest at other true same none =
      let l = made (meaning_of x.bettor ws alts) rest (behind at n) none in
      (Alternative alts ∷ l.records, (refl, l.says), (other, eqb-true (length alts) (length ws) same, l.ordered))
  by_classes alts n rest at other false same none = absurd none

  by_alternative : (s : Stream) (at : Spot) → (has_alternative x.bettor ≡ true) → NoFault (with_record (alternative_of ws (head_of s)) s at plays_by).said → Behind s
  by_alternative (Next (Alternative alts) n rest) at other none = by_classes alts n rest at other (eqb (length alts) (length ws)) refl none
  by_alternative _ at other none = absurd none

  by_bettor : (s : Stream) (at : Spot) (b : Bool) → has_alternative x.bettor ≡ b →
      NoFault (cond b (with_record (alternative_of ws (head_of s)) s at plays_by) (monitored p x (meaning_of x.bettor ws []) s at)).said → Behind s
  by_bettor s at true has none = by_alternative s at has none
  by_bettor s at false has none =
      let l = made (meaning_of x.bettor ws []) s at none in
      (l.records, l.says, straight l.records has l.ordered)

by_setup : (p : Places) (ws : List ℕ) (s : Stream) (at : Spot) → NoFault (after_table p ws s at).said → (fs : List Fields) × Says s fs × LogRecords (Table ws ∷ fs)
by_setup p ws (Next (Setup s) n rest) at none =
    let l = by_bettor p ws (record { threshold = s.threshold; rule = rule_named s.rule; bettor = bettor_named s.bettor }) rest (behind at n) (has_alternative (bettor_named s.bettor)) refl none in
    (Setup s ∷ l.0, (refl, l.1), l.2)
by_setup p ws _ at none = absurd none

by_table : (p : Places) (s : Stream) (at : Spot) → NoFault (replayed p s at).said → (fs : List Fields) × Says s fs × LogRecords fs
by_table p (Next (Table ws) n rest) at none =
    let l = by_setup p ws rest (behind at n) none in
    (Table ws ∷ l.0, (refl, l.1), l.2)
by_table p _ at none = absurd none

-- a slice of bytes holds bytes
bytes_of : (bs : List ℕ) → ((i : ℕ) → Fits w8 (get_or bs i 0)) → Bytes bs
bytes_of [] fits = tt
bytes_of (b ∷ bs) fits = ((fits 0).fits, bytes_of bs (λ i. fits (suc i)))

whole_by : (log : List ℕ) (rest : Rest) (b : Bool) → Ok rest ≡ cond b (Ok (whole log)) (Err (fault_in nowhere TooLong)) → rest ≡ whole log
whole_by log rest true e = cc
whole_by log rest false e = cc

not_too_long : (log : List ℕ) (rest : Rest) (b : Bool) → leb (length log) longest ≡ b → Ok rest ≡ cond b (Ok (whole log)) (Err (fault_in nowhere TooLong)) → length log ≤ longest
not_too_long log rest true fits e = grind (arith, nat_tests)
not_too_long log rest false fits e = cc

-- what is reported of a log without a fault
pub accepted : (r : Result Run Fault) {K : Keyed Alarm} {L : Keyed Unwatched} (alarms : Book Alarm K) (unwatched : Book Unwatched L) (p : Places) (log : List ℕ) (rest : Rest) → Ok rest ≡ taken_whole log → ((i : ℕ) → Fits w8 (get_or log i 0)) →
    replay_told r alarms unwatched ≡ replayed p (stream_of rest.left) rest.at → NoFault r → Accepted log
accepted (Ok run) alarms unwatched p log rest is fits told none =
    let told_whole = told ∙ ap (λ (x : Rest). replayed p (stream_of x.left) x.at) (whole_by log rest (leb (length log) longest) is) in
    let l = by_table p (stream_of log) first_spot (subst (λ (x : Replay). NoFault x.said) told_whole none) in
    written log l.0 (bytes_of log fits) (not_too_long log rest (leb (length log) longest) refl is) l.1 l.2
accepted (Err f) alarms unwatched p log rest is fits told none = absurd none
