-- The fields of any layout: read as they were written, judged as they are read, and refused for the first condition that holds.
use Rattle.std.proofs.Common.{◌≡◌, ℕ, suc, List, [], ◌∷◌, ◌++◌, length, Some, None, Ok, Err, Option, Result, sym, refl, ap, ◌∙◌, subst, inl, inr, ⊎_elim, arith}
use Rattle.std.proofs.lemmas.List.{append-nil}
use Rattle.edetector.specs.Tables.{unless_fault}
use Rattle.plantlog.specs.declared.fault.RecordFault.{RecordFault}
use Rattle.plantlog.specs.declared.fault.RecordFault.TheVariants.{LeftOver}
use Rattle.plantlog.specs.Bytes.{Bytes}
use Rattle.plantlog.specs.Results.{of_ok, and_then}
use Rattle.plantlog.specs.RecordFaults.{record_fault_number}
use Rattle.plantlog.specs.Layouts.{Field, AnyNumber, NumberWithin, TableWeights, Said, AllSaid, field_numbers, all_numbers, field_fault, first_of, first_fault}
use Rattle.plantlog.specs.Format.{Sayable, numbers_bytes}
use Rattle.plantlog.specs.FirstRecord.{no_more, read_field, read_fields}
use Rattle.plantlog.specs.Refusals.{BeginsWith, FieldRefused, FieldHolds, FieldsRefused}
use Rattle.plantlog.proofs.ResultFacts.{err_is, err_no_ok, then_was, then_refused, of_ok_was, of_ok_refused}
use Rattle.plantlog.proofs.Holding.{Refuses, both_held, first_held, held_bytes, sayable_back, any_held, any_back, any_refused, refused_any}
use Rattle.plantlog.proofs.FieldFacts.{within_held, within_judged, within_refused, refused_within}
use Rattle.plantlog.proofs.TableReads.{table_held, table_judged, table_refused, refused_table}

-- one field that stands there is judged as it is read
pub field_judged : (f : Field) (bs : List ℕ) (said : Said f) (rest : List ℕ) → BeginsWith bs (field_numbers f said) rest → read_field f bs ≡ of_ok (λ s. (s, rest)) (unless_fault (field_fault f said) said)
field_judged AnyNumber bs n rest h = any_back bs n rest h
field_judged (NumberWithin low high fault) bs n rest h = within_judged low high fault bs n rest h ∙ sym (seen _ n rest)
  where
    seen : (o : Option RecordFault) (n : ℕ) (rest : List ℕ) → of_ok {U = ℕ × List ℕ} (λ s. (s, rest)) (unless_fault o n) ≡ unless_fault o (n, rest)
    seen None n rest = refl
    seen (Some e) n rest = refl
field_judged (TableWeights least) bs ws rest h = table_judged least bs ws rest h

pub field_back : (f : Field) (bs : List ℕ) (said : Said f) (rest : List ℕ) → FieldHolds f said bs rest → read_field f bs ≡ Ok (said, rest)
field_back f bs said rest h =
    field_judged f bs said rest h.0 ∙ ap (λ o. of_ok {U = Said f × List ℕ} (λ s. (s, rest)) (unless_fault o said)) h.1

pub field_held : (f : Field) (bs : List ℕ) (said : Said f) (rest : List ℕ) → Bytes bs → read_field f bs ≡ Ok (said, rest) → FieldHolds f said bs rest
field_held AnyNumber bs n rest b e = (any_held bs n rest b e, refl)
field_held (NumberWithin low high fault) bs n rest b e =
    let w = within_held low high fault bs n rest b e in (w.0, let a = w.1 in rw a refl)
field_held (TableWeights least) bs ws rest b e = table_held least bs ws rest b e

pub field_refused : (f : Field) (bs : List ℕ) (e : RecordFault) → Bytes bs → read_field f bs ≡ Err e → FieldRefused f bs (record_fault_number e)
field_refused AnyNumber bs e b h = any_refused bs e b h
field_refused (NumberWithin low high fault) bs e b h = within_refused low high fault bs e b h
field_refused (TableWeights least) bs e b h = table_refused least bs e b h

pub refused_field : (f : Field) (bs : List ℕ) (n : ℕ) → FieldRefused f bs n → Refuses (read_field f bs) n
refused_field AnyNumber bs n h = refused_any bs n h
refused_field (NumberWithin low high fault) bs n h = refused_within low high fault bs n h
refused_field (TableWeights least) bs n h = refused_table least bs n h

-- a field, and those behind it
abbrev pub behind : (f : Field) (fs : List Field) → Said f × List ℕ → Result (AllSaid (f ∷ fs)) RecordFault
behind f fs p = of_ok (λ said. (p.0, said)) (read_fields fs p.1)

-- fields that were written are judged as they are read
pub fields_judged : (fs : List Field) (said : AllSaid fs) → Sayable (all_numbers fs said) → read_fields fs (numbers_bytes (all_numbers fs said)) ≡ unless_fault (first_fault fs said) said
fields_judged [] said h = refl
fields_judged (f ∷ fs) said h =
    let bs = numbers_bytes (all_numbers (f ∷ fs) said) in
    let rest = numbers_bytes (all_numbers fs said.1) in
    let whole : BeginsWith bs (all_numbers (f ∷ fs) said) [] = (sym (append-nil bs), h) in
    let first = first_held bs (field_numbers f said.0) (all_numbers fs said.1) [] whole in
    let here : BeginsWith bs (field_numbers f said.0) rest = (first.0 ∙ ap (λ l. numbers_bytes (field_numbers f said.0) ++ l) (append-nil rest), first.1) in
    ap (λ r. and_then r (behind f fs)) (field_judged f bs said.0 rest here)
    ∙ by_faults f fs (field_fault f said.0) (first_fault fs said.1) said.0 said.1 rest (fields_judged fs said.1 (sayable_back (field_numbers f said.0) (all_numbers fs said.1) h))
  where
    by_faults : (f : Field) (fs : List Field) (o p : Option RecordFault) (s : Said f) (said : AllSaid fs) (rest : List ℕ) → read_fields fs rest ≡ unless_fault p said → and_then (of_ok {U = Said f × List ℕ} (λ s. (s, rest)) (unless_fault o s)) (behind f fs) ≡ unless_fault (first_of o p) (s, said)
    by_faults f fs None None s said rest e = ap (of_ok (λ said. (s, said))) e
    by_faults f fs None (Some x) s said rest e = ap (of_ok (λ said. (s, said))) e
    by_faults f fs (Some x) p s said rest e = refl

no_more_was : (bs : List ℕ) → no_more bs ≡ Ok tt → bs ≡ []
no_more_was [] e = refl
no_more_was (b ∷ bs) e = absurd (err_no_ok e)

-- fields that were read are the writing of what they say, and break no limit
pub record Written (fs : List Field) (bs : List ℕ) (said : AllSaid fs) : Type 0 where
  pub same : bs ≡ numbers_bytes (all_numbers fs said)
  pub small : Sayable (all_numbers fs said)
  pub sound : first_fault fs said ≡ None

pub fields_written : (fs : List Field) (bs : List ℕ) (said : AllSaid fs) → Bytes bs → read_fields fs bs ≡ Ok said → Written fs bs said
fields_written [] bs said b e = record { same = no_more_was bs e; small = tt; sound = refl }
fields_written (f ∷ fs) bs said b e =
    let p = then_was (read_field f bs) (behind f fs) said e in
    let q = of_ok_was _ (read_fields fs p.0.1) said p.2 in
    let here = field_held f bs p.0.0 p.0.1 b p.1 in
    let ih = fields_written fs p.0.1 q.0 (held_bytes bs (field_numbers f p.0.0) p.0.1 here.0 b) q.1 in
    let mid : BeginsWith p.0.1 (all_numbers fs q.0) [] = (ih.same ∙ sym (append-nil (numbers_bytes (all_numbers fs q.0))), ih.small) in
    let all = both_held bs (field_numbers f p.0.0) p.0.1 (all_numbers fs q.0) [] here.0 mid in
    subst (λ s. Written (f ∷ fs) bs s) q.2 (record {
      same = all.0 ∙ append-nil (numbers_bytes (field_numbers f p.0.0 ++ all_numbers fs q.0));
      small = all.1;
      sound = ap (λ o. first_of o (first_fault fs q.0)) here.1 ∙ ih.sound;
    })

pub fields_refused : (fs : List Field) (bs : List ℕ) (e : RecordFault) → Bytes bs → read_fields fs bs ≡ Err e → FieldsRefused fs bs (record_fault_number e)
fields_refused [] [] e b h = absurd (err_no_ok (sym h))
fields_refused [] (x ∷ bs) e b h = (no_nil, ap record_fault_number (sym (err_is h)))
  where
    no_nil : x ∷ bs ≡ [] → ⊥
    no_nil p = absurd (let z : suc (length bs) ≡ 0 = ap length p in omega (arith, z))
fields_refused (f ∷ fs) bs e b h =
    ⊎_elim
    (λ z. inl (field_refused f bs e b z))
    (λ z.
    let here = field_held f bs z.0.0 z.0.1 b z.1 in
    let ih = fields_refused fs z.0.1 e (held_bytes bs (field_numbers f z.0.0) z.0.1 here.0 b) (of_ok_refused _ (read_fields fs z.0.1) e z.2) in
    inr (z.0.0, z.0.1, here, ih))
    (then_refused (read_field f bs) (behind f fs) e h)

pub refused_fields : (fs : List Field) (bs : List ℕ) (n : ℕ) → FieldsRefused fs bs n → Refuses (read_fields fs bs) n
refused_fields [] [] n h = absurd (h.0 refl)
refused_fields [] (x ∷ bs) n h = (LeftOver, refl, sym h.1)
refused_fields (f ∷ fs) bs n (inl h) =
    let r = refused_field f bs n h in (r.0, ap (λ r. and_then r (behind f fs)) r.1, r.2)
refused_fields (f ∷ fs) bs n (inr h) =
    let here = field_back f bs h.0 h.1 h.2 in
    let ih = refused_fields fs h.1 n h.3 in
    (ih.0, ap (λ r. and_then r (behind f fs)) here ∙ ap (of_ok (λ said. (h.0, said))) ih.1, ih.2)
