-- Calls of the reader are refused by the number that buffer, bytes and sort of record ask for.
use Rattle.std.proofs.Common.{◌≡◌, ℕ, suc, Bool, true, false, cond, leb, List, [], ◌∷◌, length, Some, None, Ok, Err, Option, Result, sym, refl, ap, ◌∙◌, ⊎_elim, arith}
use Rattle.std.proofs.lemmas.Bool.{leb-true, leb-false, le-leb, lt-leb}
use Rattle.plantlog.specs.declared.fault.RecordFault.{RecordFault}
use Rattle.plantlog.specs.declared.fault.RecordFault.TheVariants.{ReceiveBuffer, WrongCall}
use Rattle.plantlog.specs.Bytes.{Bytes}
use Rattle.plantlog.specs.declared.record.Announced.{Announced}
use Rattle.plantlog.specs.Results.{of_ok, and_then}
use Rattle.plantlog.specs.RecordFaults.{record_fault_number}
use Rattle.plantlog.specs.Format.{Fields, announced, Table, Setup, Alternative, Count, Rearm, End}
use Rattle.plantlog.specs.FirstRecord.{longest_body, first_record}
use Rattle.plantlog.specs.Calls.{asked, next_in, only_count, no_count}
use Rattle.plantlog.specs.Refusals.{AskRefused, NoRoomToAsk, NoneToTell, is_count, CallRefused, NoRoom, NoRecord, OtherSort}
use Rattle.plantlog.specs.Laws.{CallsRefusedSo, SoCallsRefused}
use Rattle.plantlog.proofs.ResultFacts.{err_is, err_no_ok, then_refused, of_ok_refused}
use Rattle.plantlog.proofs.Holding.{Refuses}
use Rattle.plantlog.proofs.Refusing.{refused_so, so_refused}
use Rattle.plantlog.proofs.ReadBack.{read_back}
use Rattle.plantlog.proofs.WrittenSo.{written_so}

-- how a call takes a record of its sort
record Sorts (count : Bool) {X : Type 0} (take : Fields → Result X RecordFault) : Type 0 where
  pub refused : (f : Fields) (e : RecordFault) → take f ≡ Err e → (is_count f ≡ count → ⊥) × (WrongCall ≡ e)
  pub other : (f : Fields) → (is_count f ≡ count → ⊥) → take f ≡ Err WrongCall

not_same : (true ≡ false → ⊥) × (false ≡ true → ⊥)
not_same = (λ e. cc, λ e. cc)

counts : Sorts true only_count
counts = record { refused = wrong; other = not_count }
  where
    wrong : (f : Fields) (e : RecordFault) → only_count f ≡ Err e → (is_count f ≡ true → ⊥) × (WrongCall ≡ e)
    wrong (Table ws) e h = (not_same.1, err_is h)
    wrong (Setup s) e h = (not_same.1, err_is h)
    wrong (Alternative ws) e h = (not_same.1, err_is h)
    wrong (Count head n) e h = absurd (err_no_ok (sym h))
    wrong Rearm e h = (not_same.1, err_is h)
    wrong (End n) e h = (not_same.1, err_is h)

    not_count : (f : Fields) → (is_count f ≡ true → ⊥) → only_count f ≡ Err WrongCall
    not_count (Table ws) h = refl
    not_count (Setup s) h = refl
    not_count (Alternative ws) h = refl
    not_count (Count head n) h = absurd (h refl)
    not_count Rearm h = refl
    not_count (End n) h = refl

others : Sorts false no_count
others = record { refused = wrong; other = a_count }
  where
    wrong : (f : Fields) (e : RecordFault) → no_count f ≡ Err e → (is_count f ≡ false → ⊥) × (WrongCall ≡ e)
    wrong (Table ws) e h = absurd (err_no_ok (sym h))
    wrong (Setup s) e h = absurd (err_no_ok (sym h))
    wrong (Alternative ws) e h = absurd (err_no_ok (sym h))
    wrong (Count head n) e h = (not_same.0, err_is h)
    wrong Rearm e h = absurd (err_no_ok (sym h))
    wrong (End n) e h = absurd (err_no_ok (sym h))

    a_count : (f : Fields) → (is_count f ≡ false → ⊥) → no_count f ≡ Err WrongCall
    a_count (Table ws) h = absurd (h refl)
    a_count (Setup s) h = absurd (h refl)
    a_count (Alternative ws) h = absurd (h refl)
    a_count (Count head n) h = refl
    a_count Rearm h = absurd (h refl)
    a_count (End n) h = absurd (h refl)

module _ {X : Type 0} (count : Bool) (take : Fields → Result X RecordFault) (s : Sorts count take) (room : ℕ) (left : List ℕ) where
  abbrev called : Bool → Result X RecordFault
  called b = and_then (cond b (first_record left) (Err ReceiveBuffer)) (λ p. take p.0)

  by_room : (b : Bool) → leb longest_body room ≡ b → (e : RecordFault) → Bytes left → called b ≡ Err e → CallRefused count room left (record_fault_number e)
  by_room false is e b h = NoRoom (leb-false longest_body room is) (ap record_fault_number (sym (err_is h)))
  by_room true is e b h =
      ⊎_elim
      (λ z. NoRecord (leb-true longest_body room is) (refused_so left e b z))
      (λ z. let w = s.refused z.0.0 e z.2 in let was = written_so left z.0.0 z.0.1 b z.1 in OtherSort (leb-true longest_body room is) z.0.0 z.0.1 was.0 was.1 w.0 (ap record_fault_number (sym w.1)))
      (then_refused (first_record left) (λ p. take p.0) e h)

  called_so : (e : RecordFault) → Bytes left → and_then (next_in room left) (λ p. take p.0) ≡ Err e → CallRefused count room left (record_fault_number e)
  called_so e b h = by_room (leb longest_body room) refl e b h

  so_called : (n : ℕ) → CallRefused count room left n → Refuses (and_then (next_in room left) (λ p. take p.0)) n
  so_called n (NoRoom few is) = (ReceiveBuffer, ap called (lt-leb longest_body room few), sym is)
  so_called n (NoRecord fits h) =
      let r = so_refused left n h in
      (r.0, ap called (le-leb longest_body room fits) ∙ ap (λ r. and_then r (λ p. take p.0)) r.1, r.2)
  so_called n (OtherSort fits f rest front writable wrong is) =
      (WrongCall, ap called (le-leb longest_body room fits) ∙ ap (λ r. and_then r (λ p. take p.0)) (ap first_record front ∙ read_back f rest writable) ∙ s.other f wrong, sym is)

asked_by : (b : Bool) (room x : ℕ) (xs : List ℕ) (e : RecordFault) → leb longest_body room ≡ b → Bytes (x ∷ xs) → of_ok (λ p. Some (announced p.0)) (cond b (first_record (x ∷ xs)) (Err ReceiveBuffer)) ≡ Err e → AskRefused room (x ∷ xs) (record_fault_number e)
asked_by false room x xs e is b h = NoRoomToAsk (leb-false longest_body room is) (ap record_fault_number (sym (err_is h)))
asked_by true room x xs e is b h =
    NoneToTell (leb-true longest_body room is) (λ z. let l : suc (length xs) ≡ 0 = ap length z in omega (arith, l)) (refused_so (x ∷ xs) e b (of_ok_refused _ (first_record (x ∷ xs)) e h))

none_by : (b : Bool) (room : ℕ) (e : RecordFault) → leb longest_body room ≡ b → cond {A = Result (Option Announced) RecordFault} b (Ok None) (Err ReceiveBuffer) ≡ Err e → AskRefused room [] (record_fault_number e)
none_by false room e is h = NoRoomToAsk (leb-false longest_body room is) (ap record_fault_number (sym (err_is h)))
none_by true room e is h = absurd (err_no_ok (sym h))

asked_so : (room : ℕ) (left : List ℕ) (e : RecordFault) → Bytes left → asked room left ≡ Err e → AskRefused room left (record_fault_number e)
asked_so room [] e b h = none_by (leb longest_body room) room e refl h
asked_so room (x ∷ xs) e b h = asked_by (leb longest_body room) room x xs e refl b h

so_asked : (room : ℕ) (left : List ℕ) (n : ℕ) → AskRefused room left n → Refuses (asked room left) n
so_asked room [] n (NoRoomToAsk few is) = let a = lt-leb longest_body room few in (ReceiveBuffer, rw a refl, sym is)
so_asked room [] n (NoneToTell fits some h) = absurd (some refl)
so_asked room (x ∷ xs) n (NoRoomToAsk few is) = let a = lt-leb longest_body room few in (ReceiveBuffer, rw a refl, sym is)
so_asked room (x ∷ xs) n (NoneToTell fits some h) =
    let a = le-leb longest_body room fits in
    let r = so_refused (x ∷ xs) n h in
    (r.0, rw a (ap (of_ok (λ p. Some (announced p.0))) r.1), r.2)

pub calls_refused_so : CallsRefusedSo
calls_refused_so room left e b = (asked_so room left e b, called_so true only_count counts room left e b, called_so false no_count others room left e b)

pub so_calls_refused : SoCallsRefused
so_calls_refused room left n = (so_asked room left n, so_called true only_count counts room left n, so_called false no_count others room left n)
