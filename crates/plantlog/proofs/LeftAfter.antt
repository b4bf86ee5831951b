-- What is left after a call of the reader that moved past a record.
use Rattle.std.proofs.Common.{◌≡◌, ℕ, ◌+◌, Bool, true, false, cond, leb, List, drop, Ok, Err, Result, sym, refl, ap, ◌∙◌}
use Rattle.std.proofs.lemmas.List.{drop-drop}
use Rattle.plantlog.specs.declared.fault.RecordFault.{RecordFault}
use Rattle.plantlog.specs.declared.fault.RecordFault.TheVariants.{ReceiveBuffer}
use Rattle.plantlog.specs.Results.{of_ok}
use Rattle.plantlog.specs.Format.{Fields}
use Rattle.plantlog.specs.FirstRecord.{longest_body, first_record}
use Rattle.plantlog.specs.Calls.{span, next_in, only_count, no_count, next_count, next_other, rest_of}
use Rattle.plantlog.specs.Position.{Reading, position, log_of, left_in, moved, left_after}
use Rattle.plantlog.proofs.ResultFacts.{err_no_ok, then_was}
use Rattle.plantlog.proofs.WrittenSo.{left_behind}

-- a record stands in front
abbrev pub InFront : List ℕ → Type 0
InFront left = (p : Fields × List ℕ) × (first_record left ≡ Ok p)

roomy_was : {X : Type 0} (b : Bool) (r : Result X RecordFault) (x : X) → cond b r (Err ReceiveBuffer) ≡ Ok x → r ≡ Ok x
roomy_was true r x e = e
roomy_was false r x e = absurd (err_no_ok e)

next_was : (room : ℕ) (left : List ℕ) (p : Fields × List ℕ) → next_in room left ≡ Ok p → InFront left
next_was room left p e = (p, roomy_was (leb longest_body room) (first_record left) p e)

count_was : (room : ℕ) (left : List ℕ) (n : ℕ) → next_count room left ≡ Ok n → InFront left
count_was room left n e = let w = then_was (next_in room left) (λ p. only_count p.0) n e in next_was room left w.0 w.1

other_was : (room : ℕ) (left : List ℕ) (f : Fields) → next_other room left ≡ Ok f → InFront left
other_was room left f e = let w = then_was (next_in room left) (λ p. no_count p.0) f e in next_was room left w.0 w.1

module _ (r r' : Reading) (same : log_of r' ≡ log_of r) where
  follows : {X : Type 0} (answer : Result X RecordFault) → position r' ≡ moved answer (left_in r) (position r) → ((x : X) → answer ≡ Ok x → InFront (left_in r)) → left_in r' ≡ left_after answer (left_in r)
  follows (Ok x) m front =
      let p = front x refl in
      let place : r'.place ≡ r.place + span (left_in r) = ap (λ q. q.place) m in
      (λ j. drop (place j) (same j)) ∙ sym (drop-drop (span (left_in r)) r.place (log_of r))
      ∙ left_behind (left_in r) p.0.0 p.0.1 p.1
      ∙ ap (λ q. rest_of q (left_in r)) (sym p.1)
  follows (Err e) m front = let place : r'.place ≡ r.place = ap (λ q. q.place) m in (λ j. drop (place j) (same j))

  pub left_read : {X : Type 0} (said : X → Fields) (room : ℕ) (answer : Result X RecordFault) → of_ok said answer ≡ next_other room (left_in r) → position r' ≡ moved answer (left_in r) (position r) → left_in r' ≡ left_after answer (left_in r)
  left_read said room answer e m =
      follows answer m (λ x is. other_was room (left_in r) (said x) (sym e ∙ ap (of_ok said) is))

  pub left_counted : (room : ℕ) (answer : Result ℕ RecordFault) → answer ≡ next_count room (left_in r) → position r' ≡ moved answer (left_in r) (position r) → left_in r' ≡ left_after answer (left_in r)
  left_counted room answer e m = follows answer m (λ n is. count_was room (left_in r) n (sym e ∙ is))
