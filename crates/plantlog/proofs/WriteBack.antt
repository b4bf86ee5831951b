-- What a call of the writer gives and leaves, from the record put into its buffer.
use Rattle.std.proofs.Common.{◌≡◌, ℕ, ◌≤◌, Bool, true, false, cond, leb, List, ◌∷◌, ◌++◌, length, drop, IfOk, Some, None, Ok, Err, Option, Result, sym, refl, ap, ◌∙◌, subst, arith}
use Rattle.std.proofs.lemmas.Bool.{leb-true}
use Rattle.edetector.specs.Tables.{unless_fault}
use Rattle.plantlog.specs.declared.fault.RecordFault.{RecordFault}
use Rattle.plantlog.specs.declared.fault.RecordFault.TheVariants.{WriteBuffer}
use Rattle.plantlog.specs.Results.{of_ok, and_then}
use Rattle.plantlog.specs.Layouts.{kind_byte}
use Rattle.plantlog.specs.Format.{Fields, Sayable, kind_of, numbers, numbers_bytes, body, framed, record_bytes, fields_fault}
use Rattle.plantlog.specs.FirstRecord.{longest_body, first_record}
use Rattle.plantlog.specs.Written.{fields_judged, room_judged, after_write, Wrote}
use Rattle.plantlog.proofs.ResultFacts.{ok_is, err_no_ok}
use Rattle.plantlog.proofs.WriteFacts.{not_refused}
use Rattle.plantlog.proofs.ReadBack.{judged, read_back}

back : (f : Fields) → Ok tt ≡ fields_judged f → Sayable (numbers f) → (r : Result ℕ RecordFault) (out old : List ℕ) → out ≡ after_write r (record_bytes f) old → IfOk r (λ n. first_record out ≡ Ok (f, drop n old))
back f ok small (Ok n) out old e = ap first_record e ∙ read_back f (drop n old) (not_refused (fields_fault f) ok, small)
back f ok small (Err x) out old e = tt

-- fields are judged as they are read
abbrev pub AsRead : Fields → Type 0
AsRead f = (rest : List ℕ) → Sayable (numbers f) → length (body f) ≤ longest_body → first_record (record_bytes f ++ rest) ≡ of_ok {U = Fields × List ℕ} (λ u. (f, rest)) (fields_judged f)

as_read : (f : Fields) → AsRead f
as_read f rest small few = judged f rest small few ∙ seen (fields_fault f)
  where
    seen : (o : Option RecordFault) → of_ok {U = Fields × List ℕ} (λ f. (f, rest)) (unless_fault o f) ≡ of_ok {T = Unit {0}} (λ u. (f, rest)) (unless_fault o tt)
    seen None = refl
    seen (Some e) = refl

fits_by : (b : Bool) (long room : ℕ) → (b ≡ true → long ≤ room) → (r : Result ℕ RecordFault) → r ≡ cond b (Ok long) (Err WriteBuffer) → IfOk r (λ n. n ≤ room)
fits_by true long room h (Ok n) e = let same : n ≡ long = ok_is e in omega (arith, same, h refl)
fits_by false long room h (Ok n) e = absurd (err_no_ok (sym e))
fits_by b long room h (Err x) e = tt

fits : (r : Result ℕ RecordFault) (long room : ℕ) → r ≡ room_judged long room → IfOk r (λ n. n ≤ room)
fits r long room e = fits_by (leb long room) long room (leb-true long room) r e

-- the kind byte and the numbers of f were put
pub wrote : (f : Fields) (kind : ℕ) (ns : List ℕ) (r : Result ℕ RecordFault) (out old : List ℕ) → kind ≡ kind_byte (kind_of f) → ns ≡ numbers f → Ok tt ≡ fields_judged f → Sayable ns → r ≡ room_judged (length (framed (kind ∷ numbers_bytes ns))) (length old) → out ≡ after_write r (framed (kind ∷ numbers_bytes ns)) old → Wrote f old r out
unfolding record_bytes
wrote f kind ns r out old at is ok small value after =
    let frame : framed (kind ∷ numbers_bytes ns) ≡ record_bytes f = (λ j. framed (at j ∷ numbers_bytes (is j))) in
    let held = after ∙ ap (λ l. after_write r l old) frame in
    record {
      value =
          value ∙ ap (λ l. room_judged (length l) (length old)) frame
          ∙ ap (λ j. and_then j (λ _. room_judged (length (record_bytes f)) (length old))) ok;
      after = held;
      back = back f ok (subst Sayable is small) r out old held;
      fits = fits r _ (length old) value;
      as_read = as_read f;
    }

-- fields that break a limit are not written
pub refused : (f : Fields) (old : List ℕ) (e : RecordFault) (r : Result ℕ RecordFault) → fields_fault f ≡ Some e → r ≡ Err e → Wrote f old r old
refused f old e r broken is =
    rw is (record {
      value = sym (ap (λ o. and_then (unless_fault {X = Unit {0}} o tt) (λ _. room_judged (length (record_bytes f)) (length old))) broken);
      after = refl;
      back = tt;
      fits = tt;
      as_read = as_read f;
    })
