-- Bytes that are read as a record are the writing of that record.
use Rattle.std.proofs.Common.{◌≡◌, ℕ, zero, suc, ◌≤◌, Bool, true, false, cond, leb, ◌⊎◌, List, [], ◌∷◌, ◌++◌, length, take, drop, Some, None, Ok, Err, Option, Result, sym, refl, ap, ◌∙◌, subst, inl, inr, ⊎_elim, add-one}
use Rattle.std.proofs.lemmas.List.{length-take-le, take-append-drop}
use Rattle.std.proofs.lemmas.Bool.{leb-true}
use Rattle.edetector.specs.Tables.{is_within}
use Rattle.plantlog.specs.declared.fault.FrontFault.{FrontFault}
use Rattle.plantlog.specs.declared.fault.FrontFault.TheVariants.{LengthByte, Truncated}
use Rattle.plantlog.specs.declared.fault.RecordFault.TheVariants.{Front}
use Rattle.plantlog.specs.declared.record.RecordKind.{RecordKind}
use Rattle.plantlog.specs.declared.record.RecordKind.TheVariants.{Table as ATable, Setup as ASetup, Alternative as AnAlternative, Count as ACount, Rearm as ARearm, End as AnEnd}
use Rattle.plantlog.specs.Bytes.{Bytes}
use Rattle.plantlog.specs.Results.{of_err}
use Rattle.plantlog.specs.Layouts.{AllSaid, kinds, layout, all_numbers}
use Rattle.plantlog.specs.Format.{Fields, Sayable, says, numbers, body, framed, record_bytes}
use Rattle.plantlog.specs.FirstRecord.{read_fields, kind_fields, kind_among, by_kind, body_fields, front, first_record}
use Rattle.plantlog.specs.Calls.{span}
use Rattle.plantlog.specs.Laws.{WrittenSo}
use Rattle.plantlog.specs.Format.{Writable}
use Rattle.plantlog.proofs.ResultFacts.{ok_is, err_no_ok, then_was, of_ok_was, of_err_was}
use Rattle.plantlog.proofs.KindFacts.{says_so, kind_was}
use Rattle.plantlog.proofs.FieldsRead.{fields_written}

pub bytes_take : (k : ℕ) (bs : List ℕ) → Bytes bs → Bytes (take k bs)
bytes_take zero bs h = tt
bytes_take (suc k) [] h = tt
bytes_take (suc k) (b ∷ bs) h = (h.0, bytes_take k bs h.1)

pub bytes_drop : (k : ℕ) (bs : List ℕ) → Bytes bs → Bytes (drop k bs)
bytes_drop zero bs h = h
bytes_drop (suc k) [] h = tt
bytes_drop (suc k) (b ∷ bs) h = bytes_drop k bs h.1

-- a test that held, or the next
either : {X : Type 0} (b : Bool) (r s : Result X FrontFault) (x : X) → cond b r s ≡ Ok x → ((b ≡ true) × (r ≡ Ok x)) ⊎ ((b ≡ false) × (s ≡ Ok x))
either true r s x e = inl (refl, e)
either false r s x e = inr (refl, e)

small : (k : RecordKind) (said : AllSaid (layout k)) → Sayable (all_numbers (layout k) said) → Sayable (numbers (says k said))
small ATable said h = h
small ASetup said h = h
small AnAlternative said h = h
small ACount said h = h
small ARearm said h = h
small AnEnd said h = h

-- what the front says of the bytes
pub record Fronted (bs inner rest : List ℕ) : Type 0 where
  pub same : bs ≡ framed inner ++ rest
  pub behind : drop (span bs) bs ≡ rest
  pub inner_bytes : Bytes bs → Bytes inner
  pub rest_bytes : Bytes bs → Bytes rest

fronted : (l : ℕ) (bs : List ℕ) → l ≤ length bs → Fronted (l ∷ bs) (take l bs) (drop l bs)
fronted l bs h =
    let long = length-take-le l bs h in
    record {
      same = sym (λ j. long j ∷ take-append-drop l bs j);
      behind = ap (λ k. drop k (l ∷ bs)) (add-one l);
      inner_bytes = λ b. bytes_take l bs b.1;
      rest_bytes = λ b. bytes_drop l bs b.1;
    }

pub front_was : (bs inner rest : List ℕ) → front bs ≡ Ok (inner, rest) → Fronted bs inner rest
unfolding front
front_was [] inner rest e = absurd (err_no_ok e)
front_was (l ∷ bs) inner rest e =
    ⊎_elim
    (λ a.
    ⊎_elim
    (λ b.
    let p = ok_is b.1 in
    let t : take l bs ≡ inner = ap (λ q. q.0) p in
    let d : drop l bs ≡ rest = ap (λ q. q.1) p in
    subst (λ r. Fronted (l ∷ bs) inner r) d (subst (λ i. Fronted (l ∷ bs) i (drop l bs)) t (fronted l bs (leb-true l (length bs) b.0))))
    (λ b. absurd (err_no_ok b.1))
    (either (leb l (length bs)) (Ok (take l bs, drop l bs)) (Err Truncated) (inner, rest) a.1))
    (λ a. absurd (err_no_ok a.1))
    (either (is_within 1 63 l) (cond (leb l (length bs)) (Ok (take l bs, drop l bs)) (Err Truncated)) (Err LengthByte) (inner, rest) e)

by_kind_was : (o : Option RecordKind) (bs : List ℕ) (f : Fields) → by_kind o bs ≡ Ok f → (k : RecordKind) × (o ≡ Some k) × (kind_fields k bs ≡ Ok f)
by_kind_was None bs f e = absurd (err_no_ok e)
by_kind_was (Some k) bs f e = (k, refl, e)

body_was : (bs : List ℕ) (f : Fields) → Bytes bs → body_fields bs ≡ Ok f → (bs ≡ body f) × Writable f
unfolding body_fields kind_fields
body_was [] f h e = absurd (err_no_ok e)
body_was (byte ∷ bs) f h e =
    let w = by_kind_was (kind_among kinds byte) bs f e in
    let k = w.0 in
    let r = of_ok_was (says k) (read_fields (layout k) bs) f w.2 in
    let said = r.0 in
    let t = fields_written (layout k) bs said h.1 r.1 in
    let s = says_so k said in
    let here : (byte ∷ bs ≡ body (says k said)) × Writable (says k said) = ((λ j. sym (kind_was kinds byte k w.1) j ∷ t.same j) ∙ sym s.body, (s.fault ∙ t.sound, small k said t.small)) in
    subst (λ f. (byte ∷ bs ≡ body f) × Writable f) r.2 here

-- a record read: its front, its body, and that both are its writing
pub record ReadAs (bs : List ℕ) (f : Fields) (rest : List ℕ) : Type 0 where
  pub inner : List ℕ
  pub fronted : Fronted bs inner rest
  pub said : body_fields inner ≡ Ok f

pub read_as : (bs : List ℕ) (f : Fields) (rest : List ℕ) → first_record bs ≡ Ok (f, rest) → ReadAs bs f rest
unfolding first_record
read_as bs f rest e =
    let p = then_was (of_err Front (front bs)) _ (f, rest) e in
    let b = of_ok_was _ (body_fields p.0.0) (f, rest) p.2 in
    let fr = front_was bs p.0.0 p.0.1 (of_err_was Front (front bs) p.0 p.1) in
    record {
      inner = p.0.0;
      fronted = subst (λ r. Fronted bs p.0.0 r) (ap (λ q. q.1) b.2) fr;
      said = b.1 ∙ ap (λ q. Ok q.0) b.2;
    }

-- what is left behind the span of a record in front is what is left behind it
pub left_behind : (bs : List ℕ) (f : Fields) (rest : List ℕ) → first_record bs ≡ Ok (f, rest) → drop (span bs) bs ≡ rest
left_behind bs f rest e = (read_as bs f rest e).fronted.behind

pub written_so : WrittenSo
unfolding record_bytes
written_so bs f rest h e =
    let r = read_as bs f rest e in
    let w = body_was r.inner f (r.fronted.inner_bytes h) r.said in
    (r.fronted.same ∙ ap (λ i. framed i ++ rest) w.0, w.1)

pub rest_bytes : (bs : List ℕ) (f : Fields) (rest : List ℕ) → Bytes bs → first_record bs ≡ Ok (f, rest) → Bytes rest
rest_bytes bs f rest h e = (read_as bs f rest e).fronted.rest_bytes h
