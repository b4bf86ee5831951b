-- What one record does to the rest of a replay.
use Rattle.std.proofs.Common.{◌≡◌, ℕ, true, false, List, [], ◌∷◌, length, Ok, Err, Result, sym, refl, ap, ◌∙◌, ap₂, arith}
use Rattle.std.specs.Result.{result_and}
use Rattle.edetector.specs.Monitors.{Terms, Standing, outcome}
use Rattle.plantlog.specs.declared.fault.RecordFault.{RecordFault}
use Rattle.plantlog.specs.declared.fault.FrontFault.TheVariants.{NoneLeft}
use Rattle.plantlog.specs.declared.fault.RecordFault.TheVariants.{Front}
use Rattle.plantlog.specs.declared.record.Announced.{Announced}
use Rattle.plantlog.specs.declared.record.RecordKind.{RecordKind}
use Rattle.plantlog.specs.declared.record.Announced.TheVariants.{Count as CountAhead, Other as OtherAhead}
use Rattle.plantlog.specs.declared.record.RecordKind.TheVariants.{Rearm as ARearm, End as AnEnd}
use Rattle.plantlog.specs.Results.{of_ok}
use Rattle.plantlog.specs.Format.{Fields, Table, Setup, Alternative, Count, Rearm, End}
use Rattle.plantlog.specs.FirstRecord.{first_record}
use Rattle.plantlog.specs.Calls.{span, rest_of, rest_behind}
use Rattle.plantlog.specs.Format.{announced}
use Rattle.playback.specs.declared.stop.ReplayFault.{ReplayFault}
use Rattle.playback.specs.declared.stop.ReplayFault.TheVariants.{Record, NotAllowed}
use Rattle.playback.specs.Front.{of_record, next_fields, count_next, end_next}
use Rattle.playback.specs.declared.books.Books.{Books}
use Rattle.playback.specs.Held.{watch_of}
use Rattle.playback.specs.Stream.{Stream, Next, stream_of}
use Rattle.playback.specs.Watch.{Watch, Places, Done, done, count_read, rearm_leads, restood, end_answer}
use Rattle.playback.specs.Replaying.{Spot, Finish, went, stopped, fault_at, behind, at_end, watching}
use Rattle.playback.specs.Replayed.{head_of}
use Rattle.playback.specs.Rest.{Rest, behind_record, behind_count, moved_if}
use Rattle.playback.specs.Rising.{Rising}
use Rattle.playback.specs.Stepping.{comes_to, ends_as, Stepped, GoesOn, IfOn}
use Rattle.playback.proofs.Rises.{count_rises}
use Rattle.playback.proofs.Fronts.{none_in_front}
use Rattle.playback.proofs.Streams.{some_shorter, stream_next, stream_broken}

read_by : (r : Result (Fields × List ℕ) RecordFault) (f : Fields) → of_record (of_ok (λ p. p.0) r) ≡ Ok f → (rest : List ℕ) × (r ≡ Ok (f, rest))
read_by (Ok p) f e = let same : p.0 ≡ f = cc in (p.1, ap (λ x. Ok (x, p.1)) same)
read_by (Err x) f e = cc

-- the next record, with the bytes behind it
pub in_front : (left : List ℕ) (f : Fields) → next_fields left ≡ Ok f → first_record left ≡ Ok (f, rest_behind left)
in_front left f e =
    let r = read_by (first_record left) f e in
    r.1 ∙ ap (λ x. Ok (f, x)) (sym (ap (λ r. rest_of r left) r.1))

pub streams : (left : List ℕ) (f : Fields) → next_fields left ≡ Ok f → stream_of left ≡ Next f (span left) (stream_of (rest_behind left))
streams left f e = stream_next left f (rest_behind left) (in_front left f e)

broken_by : (left : List ℕ) (r : Result (Fields × List ℕ) RecordFault) → first_record left ≡ r → (f : ReplayFault) → of_record (of_ok (λ p. p.0) r) ≡ Err f →
    (t : Terms) (p : Places) (at : Spot) (w : Watch) → watching t p (stream_of left) at w ≡ stopped w (fault_at at f)
broken_by left (Ok x) is f e t p at w = cc
broken_by [] (Err x) is f e t p at w =
    let none : ◌≡◌ {A = Result (Fields × List ℕ) RecordFault} (Err (Front NoneLeft)) (Err x) = sym none_in_front ∙ is in
    let told : ◌≡◌ {A = ReplayFault} (Record (Front NoneLeft)) f = cc in
    ap (λ g. stopped w (fault_at at g)) told
broken_by (b ∷ bs) (Err x) is f e t p at w =
    let told : ◌≡◌ {A = ReplayFault} (Record x) f = cc in
    ap (λ s. watching t p s at w) (stream_broken b bs x is) ∙ ap (λ g. stopped w (fault_at at g)) told

-- a record that is refused, or none, stops the replay
pub refused_next : (t : Terms) (p : Places) (left : List ℕ) (at : Spot) (w : Watch) (f : ReplayFault) → next_fields left ≡ Err f → watching t p (stream_of left) at w ≡ stopped w (fault_at at f)
refused_next t p left at w f e = broken_by left (first_record left) refl f e t p at w

-- the kind of the next record tells what it says
kind_fields : (r : Result Fields ReplayFault) (k : Announced) → of_ok announced r ≡ Ok k → (f : Fields) × (r ≡ Ok f) × (announced f ≡ k)
kind_fields (Ok f) k e = let same : announced f ≡ k = cc in (f, refl, same)
kind_fields (Err x) k e = cc

a_count : (r : Result Fields ReplayFault) (day : ℕ) → of_ok announced r ≡ Ok (CountAhead (record { day = day })) → r ≡ Ok (Count (record { day = day }) (count_next r))
a_count (Ok (Count head n)) day e = let same : head ≡ record { day = day } = cc in ap (λ x. Ok (Count x n)) same
a_count _ day e = cc

a_rearm : (r : Result Fields ReplayFault) → of_ok announced r ≡ Ok (OtherAhead ARearm) → r ≡ Ok Rearm
a_rearm (Ok Rearm) e = refl
a_rearm _ e = cc

an_end : (r : Result Fields ReplayFault) → of_ok announced r ≡ Ok (OtherAhead AnEnd) → r ≡ Ok (End (end_next r))
an_end (Ok (End n)) e = refl
an_end _ e = cc

-- the rest behind a record that was taken
abbrev Past : Result (Unit {0}) ReplayFault → Rest → Rest → Type 0
Past (Ok u) rest rest' = (rest'.left ≡ rest_behind rest.left) × (rest'.at ≡ behind rest.at (span rest.left))
Past (Err f) rest rest' = Unit {0}

past_count : (r : Result (Unit {0}) ReplayFault) (day : ℕ) (rest rest' : Rest) → rest' ≡ moved_if r (behind_count day rest) rest → Past r rest rest'
past_count (Ok u) day rest rest' e = (ap (λ x. x.left) e, ap (λ x. x.at) e)
past_count (Err f) day rest rest' e = tt

past_record : (r : Result (Unit {0}) ReplayFault) (rest rest' : Rest) → rest' ≡ behind_record rest → Past r rest rest'
past_record (Ok u) rest rest' e = (ap (λ x. x.left) e, ap (λ x. x.at) e)
past_record (Err f) rest rest' e = tt

-- how the replay goes from a record that leads to d
goes_from : (go : List ℕ → Spot → Watch → Finish) (rest rest' : Rest) (w' : Watch) (whole : Finish) (r : Result (Unit {0}) ReplayFault) (d : Done) → done r w' ≡ d → Past r rest rest' →
    whole ≡ went rest.at (go (rest_behind rest.left) (behind rest.at (span rest.left))) d.answer d.after →
    whole ≡ went rest.at (go rest'.left rest'.at) r w'
goes_from go rest rest' w' whole (Ok u) d e m begins =
    begins ∙ ap (λ x. went rest.at (go (rest_behind rest.left) (behind rest.at (span rest.left))) x.answer x.after) (sym e)
    ∙ ap₂ (λ l a. go l a w') (sym m.0) (sym m.1)
goes_from go rest rest' w' whole (Err f) d e m begins =
    begins ∙ ap (λ x. went rest.at (go (rest_behind rest.left) (behind rest.at (span rest.left))) x.answer x.after) (sym e)

module _ (t : Terms) (p : Places) (rest : Rest) (w : Watch) (rest' : Rest) (w' : Watch) where
  on : (r : Result (Unit {0}) ReplayFault) → comes_to t p rest w ≡ went rest.at (comes_to t p rest') r w' → Stepped t p rest w (result_and r (Ok true)) rest' w'
  on (Ok u) e = e
  on (Err f) e = e

  over : (r : Result (Unit {0}) ReplayFault) → comes_to t p rest w ≡ went rest.at (ends_as rest') r w' → Stepped t p rest w (result_and r (Ok false)) rest' w'
  over (Ok u) e = e
  over (Err f) e = e

  pub count_stepped : (r : Result (Unit {0}) ReplayFault) (day : ℕ) → of_ok announced (next_fields rest.left) ≡ Ok (CountAhead (record { day = day })) → rest' ≡ moved_if r (behind_count day rest) rest → done r w' ≡ count_read t p w rest.at.number day (count_next (next_fields rest.left)) →
      Stepped t p rest w (result_and r (Ok true)) rest' w'
  count_stepped r day kind moved e =
      let next = streams rest.left _ (a_count (next_fields rest.left) day kind) in
      on r (goes_from (λ l a x. watching t p (stream_of l) a x) rest rest' w' _ r _ e (past_count r day rest rest' moved) (ap (λ s. watching t p s rest.at w) next))

-- a rearm and an end leave the books and the counts as they were
module _ (t : Terms) (p : Places) (rest rest' : Rest) (books : Books) (s s' : Standing) (r : Result (Unit {0}) ReplayFault) (moved : rest' ≡ behind_record rest) where
  pub rearm_stepped : of_ok announced (next_fields rest.left) ≡ Ok (OtherAhead ARearm) → outcome r s' ≡ rearm_leads t s → Stepped t p rest (watch_of s rest books) (result_and r (Ok true)) rest' (watch_of s' rest' books)
  rearm_stepped kind e =
      let next = streams rest.left _ (a_rearm (next_fields rest.left) kind) in
      let does = ap (λ x. done r (watch_of s' x books)) moved ∙ ap (λ o. done o.answer (restood (watch_of s rest books) o.after)) e in
      on t p rest (watch_of s rest books) rest' (watch_of s' rest' books) r (goes_from (λ l a x. watching t p (stream_of l) a x) rest rest' (watch_of s' rest' books) _ r _ does (past_record r rest rest' moved) (ap (λ x. watching t p x rest.at (watch_of s rest books)) next))

  pub end_stepped : of_ok announced (next_fields rest.left) ≡ Ok (OtherAhead AnEnd) → r ≡ end_answer rest.counts (end_next (next_fields rest.left)) → Stepped t p rest (watch_of s rest books) (result_and r (Ok false)) rest' (watch_of s rest' books)
  end_stepped kind e =
      let next = streams rest.left _ (an_end (next_fields rest.left) kind) in
      let does = ap (λ x. done r (watch_of s x books)) moved ∙ ap (λ x. done x (watch_of s rest books)) e in
      over t p rest (watch_of s rest books) rest' (watch_of s rest' books) r (goes_from (λ l a x. at_end (stream_of l) a x) rest rest' (watch_of s rest' books) _ r _ does (past_record r rest rest' moved) (ap (λ x. watching t p x rest.at (watch_of s rest books)) next))

other_is : (j k : RecordKind) → OtherAhead j ≡ OtherAhead k → j ≡ k
other_is j k e = cc

-- a record of the header stops the replay behind the header
header_kind : (f : Fields) (k : RecordKind) → announced f ≡ OtherAhead k → (k ≡ ARearm → ⊥) → (k ≡ AnEnd → ⊥) →
    (t : Terms) (p : Places) (n : ℕ) (rest : Stream) (at : Spot) (w : Watch) → watching t p (Next f n rest) at w ≡ stopped w (fault_at at NotAllowed)
header_kind (Table ws) k e r n t p m rest at w = refl
header_kind (Setup s) k e r n t p m rest at w = refl
header_kind (Alternative ws) k e r n t p m rest at w = refl
header_kind (Count head x) k e r n t p m rest at w = cc
header_kind Rearm k e r n t p m rest at w = absurd (r (sym (other_is ARearm k e)))
header_kind (End x) k e r n t p m rest at w = absurd (n (sym (other_is AnEnd k e)))

pub header_stepped : (t : Terms) (p : Places) (left : List ℕ) (at : Spot) (w : Watch) (k : RecordKind) → of_ok announced (next_fields left) ≡ Ok (OtherAhead k) → (k ≡ ARearm → ⊥) → (k ≡ AnEnd → ⊥) →
    watching t p (stream_of left) at w ≡ stopped w (fault_at at NotAllowed)
header_stepped t p left at w k kind r n =
    let f = kind_fields (next_fields left) (OtherAhead k) kind in
    ap (λ s. watching t p s at w) (streams left f.0 f.1) ∙ header_kind f.0 k f.2 r n t p (span left) (stream_of (rest_behind left)) at w

goes : (rest rest' : Rest) (w' : Watch) (f : Fields) → next_fields rest.left ≡ Ok f → Rising w' → (r : Result (Unit {0}) ReplayFault) → Past r rest rest' → IfOn (result_and r (Ok true)) (GoesOn rest rest' w')
goes rest rest' w' f e rises (Ok u) m =
    record { rising = rises; shorter = omega (arith, ap length m.0, some_shorter rest.left f (rest_behind rest.left) (in_front rest.left f e)) }
goes rest rest' w' f e rises (Err x) m = tt

pub count_goes : (t : Terms) (p : Places) (rest : Rest) (w : Watch) (rest' : Rest) (w' : Watch) (r : Result (Unit {0}) ReplayFault) (day : ℕ) → of_ok announced (next_fields rest.left) ≡ Ok (CountAhead (record { day = day })) → rest' ≡ moved_if r (behind_count day rest) rest →
    done r w' ≡ count_read t p w rest.at.number day (count_next (next_fields rest.left)) → Rising w → IfOn (result_and r (Ok true)) (GoesOn rest rest' w')
count_goes t p rest w rest' w' (Ok u) day kind moved e rises = goes rest rest' w' _ (a_count (next_fields rest.left) day kind) (count_rises t p w w' _ day _ e rises) (Ok u) (past_count (Ok u) day rest rest' moved)
count_goes t p rest w rest' w' (Err f) day kind moved e rises = tt

pub rearm_goes : (rest rest' : Rest) (books : Books) (s s' : Standing) (r : Result (Unit {0}) ReplayFault) → of_ok announced (next_fields rest.left) ≡ Ok (OtherAhead ARearm) → rest' ≡ behind_record rest → Rising (watch_of s rest books) →
    IfOn (result_and r (Ok true)) (GoesOn rest rest' (watch_of s' rest' books))
rearm_goes rest rest' books s s' r kind moved rises =
    goes rest rest' (watch_of s' rest' books) _ (a_rearm (next_fields rest.left) kind) (rw moved (record { alarms = rises.alarms; unwatched = rises.unwatched })) r (past_record r rest rest' moved)

-- no kind was told, so the next record is refused
pub kind_refused : (r : Result Fields ReplayFault) (f : ReplayFault) → of_ok announced r ≡ Err f → r ≡ Err f
kind_refused (Ok x) f e = cc
kind_refused (Err x) f e = cc

head_by : (left : List ℕ) (r : Result (Fields × List ℕ) RecordFault) → first_record left ≡ r → head_of (stream_of left) ≡ of_record (of_ok (λ p. p.0) r)
head_by left (Ok p) is = ap head_of (stream_next left p.0 p.1 is)
head_by [] (Err x) is =
    let none : ◌≡◌ {A = Result (Fields × List ℕ) RecordFault} (Err (Front NoneLeft)) (Err x) = sym none_in_front ∙ is in
    ap (λ r. of_record (of_ok (λ p. p.0) r)) none
head_by (b ∷ bs) (Err x) is = ap head_of (stream_broken b bs x is)

-- the first record of the stream is the next record
pub head_is : (left : List ℕ) → head_of (stream_of left) ≡ next_fields left
head_is left = head_by left (first_record left) refl
