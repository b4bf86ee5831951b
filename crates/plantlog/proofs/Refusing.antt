-- The record in front is refused for the first condition that holds.
use Rattle.std.proofs.Common.{◌≡◌, ℕ, ◌<◌, ◌≤◌, Bool, true, false, cond, leb, List, [], ◌∷◌, ◌++◌, length, get_or, take, drop, Some, None, Ok, Err, Option, Result, sym, refl, ap, ◌∙◌, subst, inl, inr, ⊎_elim, arith}
use Rattle.std.proofs.lemmas.List.{length-take-le, take-append-drop}
use Rattle.std.proofs.lemmas.Bool.{leb-true, leb-false, lt-leb}
use Rattle.edetector.specs.Tables.{is_within}
use Rattle.plantlog.specs.declared.fault.FrontFault.{FrontFault}
use Rattle.plantlog.specs.declared.fault.FrontFault.TheVariants.{NoneLeft, LengthByte, Truncated}
use Rattle.plantlog.specs.declared.fault.RecordFault.{RecordFault}
use Rattle.plantlog.specs.declared.fault.RecordFault.TheVariants.{Front, UnknownKind}
use Rattle.plantlog.specs.declared.record.RecordKind.{RecordKind}
use Rattle.plantlog.specs.Bytes.{Bytes}
use Rattle.plantlog.specs.Results.{of_ok, of_err}
use Rattle.plantlog.specs.RecordFaults.{front_fault_number, record_fault_number}
use Rattle.plantlog.specs.Layouts.{kinds, kind_byte, layout}
use Rattle.plantlog.specs.Format.{says, framed}
use Rattle.plantlog.specs.FirstRecord.{longest_body, read_fields, kind_fields, kind_among, by_kind, body_fields, front, first_record}
use Rattle.plantlog.specs.Refusals.{BodyRefused, Refused, NoByte, BadLength, CutOff, InBody}
use Rattle.plantlog.specs.Laws.{RefusedSo, SoRefused}
use Rattle.plantlog.proofs.ResultFacts.{ok_is, err_is, err_no_ok, then_refused, of_ok_refused, of_err_refused, of_err_was}
use Rattle.plantlog.proofs.Holding.{Refuses}
use Rattle.plantlog.proofs.FieldsRead.{fields_refused, refused_fields}
use Rattle.plantlog.proofs.KindFacts.{kind_back, kind_was, no_kind}
use Rattle.plantlog.proofs.Limits.{within}
use Rattle.plantlog.proofs.ReadBack.{of_front, front_back}
use Rattle.plantlog.proofs.WrittenSo.{bytes_take}

-- the kind of a body's first byte, or none
by_kind_refused : (byte : ℕ) (bs : List ℕ) (e : RecordFault) → Bytes bs → (o : Option RecordKind) → kind_among kinds byte ≡ o → by_kind o bs ≡ Err e → BodyRefused (byte ∷ bs) (record_fault_number e)
unfolding kind_fields
by_kind_refused byte bs e b None is h = inl (other, ap record_fault_number (sym (err_is h)))
  where
    other : (k : RecordKind) (rest : List ℕ) → byte ∷ bs ≡ kind_byte k ∷ rest → ⊥
    other k rest p = no_kind byte is k (ap (λ l. get_or l 0 0) p)
by_kind_refused byte bs e b (Some k) is h =
    let r = fields_refused (layout k) bs e b (of_ok_refused (says k) (read_fields (layout k) bs) e h) in
    inr (k, bs, ap (λ x. x ∷ bs) (sym (kind_was kinds byte k is)), r)

body_refused : (bs : List ℕ) (e : RecordFault) → Bytes bs → 1 ≤ length bs → body_fields bs ≡ Err e → BodyRefused bs (record_fault_number e)
unfolding body_fields
body_refused [] e b some h = absurd (omega (arith, some))
body_refused (byte ∷ bs) e b some h = by_kind_refused byte bs e b.1 (kind_among kinds byte) refl h

no_kind_at : (byte : ℕ) (bs : List ℕ) (o : Option RecordKind) → kind_among kinds byte ≡ o → ((k : RecordKind) (rest : List ℕ) → byte ∷ bs ≡ kind_byte k ∷ rest → ⊥) → by_kind o bs ≡ Err UnknownKind
no_kind_at byte bs None is none = refl
no_kind_at byte bs (Some k) is none = absurd (none k bs (ap (λ x. x ∷ bs) (sym (kind_was kinds byte k is))))

refused_body : (body : List ℕ) (n : ℕ) → BodyRefused body n → Refuses (body_fields body) n
unfolding body_fields kind_fields
refused_body [] n (inl h) = (UnknownKind, refl, sym h.1)
refused_body (byte ∷ bs) n (inl h) = (UnknownKind, no_kind_at byte bs (kind_among kinds byte) refl h.0, sym h.1)
refused_body body n (inr h) =
    let r = refused_fields (layout h.0) h.1 n h.3 in
    (r.0, ap body_fields h.2 ∙ ap (λ o. by_kind o h.1) (kind_back h.0) ∙ ap (of_ok (says h.0)) r.1, r.2)

abbrev by_tests : Bool → Bool → ℕ → List ℕ → Result (List ℕ × List ℕ) FrontFault
by_tests a b l bs = cond a (cond b (Ok (take l bs, drop l bs)) (Err Truncated)) (Err LengthByte)

-- why no body stands in front
by_length : (l : ℕ) (bs : List ℕ) (a b : Bool) (e : FrontFault) → is_within 1 longest_body l ≡ a → leb l (length bs) ≡ b → by_tests a b l bs ≡ Err e → Refused (l ∷ bs) (front_fault_number e)
by_length l bs true true e p q h = absurd (err_no_ok (sym h))
by_length l bs true false e p q h = CutOff l bs refl p (leb-false l (length bs) q) (ap front_fault_number (sym (err_is h)))
by_length l bs false b e p q h = BadLength l bs refl p (ap front_fault_number (sym (err_is h)))

front_refused : (bs : List ℕ) (e : FrontFault) → front bs ≡ Err e → Refused bs (front_fault_number e)
unfolding front
front_refused [] e h = NoByte refl (ap front_fault_number (sym (err_is h)))
front_refused (l ∷ bs) e h = by_length l bs (is_within 1 longest_body l) (leb l (length bs)) e refl refl h

-- the body that stands in front
record Fronted (bs inner rest : List ℕ) : Type 0 where
  pub same : bs ≡ framed inner ++ rest
  pub length : is_within 1 longest_body (length inner) ≡ true
  pub bytes : Bytes bs → Bytes inner

front_of : (l : ℕ) (bs : List ℕ) (a b : Bool) (inner rest : List ℕ) → is_within 1 longest_body l ≡ a → leb l (length bs) ≡ b → by_tests a b l bs ≡ Ok (inner, rest) → Fronted (l ∷ bs) inner rest
front_of l bs true true inner rest p q h =
    let w = ok_is h in
    let long = length-take-le l bs (leb-true l (length bs) q) in
    let here : Fronted (l ∷ bs) (take l bs) (drop l bs) = record {
      same = sym (λ j. long j ∷ take-append-drop l bs j);
      length = ap (is_within 1 longest_body) long ∙ p;
      bytes = λ b. bytes_take l bs b.1;
    } in
    subst (λ w. Fronted (l ∷ bs) w.0 w.1) w here
front_of l bs true false inner rest p q h = absurd (err_no_ok h)
front_of l bs false b inner rest p q h = absurd (err_no_ok h)

fronted : (bs inner rest : List ℕ) → front bs ≡ Ok (inner, rest) → Fronted bs inner rest
unfolding front
fronted [] inner rest h = absurd (err_no_ok h)
fronted (l ∷ bs) inner rest h = front_of l bs (is_within 1 longest_body l) (leb l (length bs)) inner rest refl refl h

pub refused_so : RefusedSo
unfolding first_record
refused_so bs e b h =
    ⊎_elim
    (λ z. let w = of_err_refused Front (front bs) e z in subst (λ e. Refused bs (record_fault_number e)) w.2 (front_refused bs w.0 w.1))
    (λ z.
    let f = fronted bs z.0.0 z.0.1 (of_err_was Front (front bs) z.0 z.1) in
    let some = (within 1 longest_body (length z.0.0) f.length).0 in
    InBody z.0.0 z.0.1 f.same f.length (body_refused z.0.0 e (f.bytes b) some (of_ok_refused _ (body_fields z.0.0) e z.2)))
    (then_refused (of_err Front (front bs)) _ e h)

front_cut : (l : ℕ) (rest : List ℕ) → is_within 1 longest_body l ≡ true → length rest < l → front (l ∷ rest) ≡ Err Truncated
unfolding front
front_cut l rest a few = let b = lt-leb l (length rest) few in rw (a, b) refl

front_bad : (l : ℕ) (rest : List ℕ) → is_within 1 longest_body l ≡ false → front (l ∷ rest) ≡ Err LengthByte
unfolding front
front_bad l rest a = rw a refl

front_none : front [] ≡ Err NoneLeft
unfolding front
front_none = refl

pub so_refused : SoRefused
unfolding first_record
so_refused bs n (NoByte is num) = (Front NoneLeft, ap first_record is ∙ ap of_front front_none, sym num)
so_refused bs n (BadLength l rest is bad num) = (Front LengthByte, ap first_record is ∙ ap of_front (front_bad l rest bad), sym num)
so_refused bs n (CutOff l rest is good few num) = (Front Truncated, ap first_record is ∙ ap of_front (front_cut l rest good few), sym num)
so_refused bs n (InBody body rest is good h) =
    let r = refused_body body n h in
    let w = within 1 longest_body (length body) good in
    (r.0, ap first_record is ∙ ap of_front (front_back body rest w.0 w.1) ∙ ap (of_ok (λ f. (f, rest))) r.1, r.2)
