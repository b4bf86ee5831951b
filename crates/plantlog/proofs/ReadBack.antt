-- A record that was written is judged as it is read.
use Rattle.std.proofs.Common.{◌≡◌, ℕ, ◌≤◌, List, ◌++◌, length, Some, None, Ok, Option, Result, refl, ap, ◌∙◌, arith}
use Rattle.std.proofs.lemmas.List.{length-append, take_at, drop_at}
use Rattle.std.proofs.lemmas.Bool.{le-leb}
use Rattle.edetector.specs.Tables.{unless_fault}
use Rattle.plantlog.specs.declared.fault.FrontFault.{FrontFault}
use Rattle.plantlog.specs.declared.fault.RecordFault.{RecordFault}
use Rattle.plantlog.specs.declared.fault.RecordFault.TheVariants.{Front}
use Rattle.plantlog.specs.Results.{of_ok, of_err, and_then}
use Rattle.plantlog.specs.Layouts.{layout, AllSaid}
use Rattle.plantlog.specs.declared.record.RecordKind.{RecordKind}
use Rattle.plantlog.specs.Format.{Fields, Sayable, kind_of, said_in, says, numbers, numbers_bytes, body, framed, record_bytes, fields_fault}
use Rattle.plantlog.specs.FirstRecord.{by_kind, kind_fields, body_fields, front, first_record}
use Rattle.plantlog.specs.Laws.{ReadBack}
use Rattle.plantlog.proofs.Limits.{inside}
use Rattle.plantlog.proofs.KindFacts.{said_back, kind_back}
use Rattle.plantlog.proofs.BodyLength.{body_few}
use Rattle.plantlog.proofs.FieldsRead.{fields_judged}

pub front_back : (bs rest : List ℕ) → 1 ≤ length bs → length bs ≤ 63 → front (framed bs ++ rest) ≡ Ok (bs, rest)
unfolding front
front_back bs rest some few =
    let a = inside 1 63 (length bs) some few in
    let b = le-leb (length bs) (length (bs ++ rest)) (omega (arith, length-append bs rest)) in
    let t = take_at bs rest (length bs) refl in
    let d = drop_at bs rest (length bs) refl in
    rw (a, b) (λ j. Ok (t j, d j))

-- what is read of a body in front
abbrev pub of_front : Result (List ℕ × List ℕ) FrontFault → Result (Fields × List ℕ) RecordFault
of_front r = and_then (of_err Front r) (λ p. of_ok (λ f. (f, p.1)) (body_fields p.0))

body_judged : (f : Fields) → Sayable (numbers f) → body_fields (body f) ≡ unless_fault (fields_fault f) f
unfolding body_fields kind_fields
body_judged f small =
    ap (λ k. by_kind k (numbers_bytes (numbers f))) (kind_back (kind_of f))
    ∙ ap (of_ok (says (kind_of f))) (fields_judged (layout (kind_of f)) (said_in f) small)
    ∙ seen (kind_of f) (fields_fault f) (said_in f)
    ∙ ap (unless_fault (fields_fault f)) (said_back f)
  where
    seen : (k : RecordKind) (o : Option RecordFault) (said : AllSaid (layout k)) → of_ok (says k) (unless_fault o said) ≡ unless_fault o (says k said)
    seen k None said = refl
    seen k (Some e) said = refl

pub judged : (f : Fields) (rest : List ℕ) → Sayable (numbers f) → length (body f) ≤ 63 → first_record (record_bytes f ++ rest) ≡ of_ok {U = Fields × List ℕ} (λ f. (f, rest)) (unless_fault (fields_fault f) f)
unfolding first_record record_bytes
judged f rest small few =
    ap of_front (front_back (body f) rest (omega arith) few)
    ∙ ap (of_ok (λ f. (f, rest))) (body_judged f small)

pub read_back : ReadBack
read_back f rest w =
    judged f rest w.1 (body_few f w.0) ∙ ap (λ o. of_ok {U = Fields × List ℕ} (λ f. (f, rest)) (unless_fault o f)) w.0
