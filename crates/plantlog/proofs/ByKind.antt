-- A body by its first byte.
use Rattle.std.proofs.Common.{◌≡◌, ℕ, ◌-◌, ◌<◌, List, [], ◌∷◌, length, get_or, take, drop, Err, Result, sym, refl, ap, ◌∙◌, arith}
use Rattle.std.proofs.lemmas.List.{take_rest}
use Rattle.std.proofs.lemmas.Bool.{ne_eqb}
use Rattle.plantlog.specs.declared.fault.RecordFault.{RecordFault}
use Rattle.plantlog.specs.declared.fault.RecordFault.TheVariants.{UnknownKind}
use Rattle.plantlog.specs.declared.record.RecordKind.{RecordKind}
use Rattle.plantlog.specs.Layouts.{kinds, kind_byte}
use Rattle.plantlog.specs.Format.{Fields}
use Rattle.plantlog.specs.FirstRecord.{kind_among, by_kind, kind_fields, body_fields}
use Rattle.plantlog.proofs.KindFacts.{kind_back}

-- the fields of a kind, from the bytes as a pattern gives them
pub at_kind : {r : Result Fields RecordFault} (k : RecordKind) (xs : List ℕ) → 0 < length xs → get_or xs 0 0 ≡ kind_byte k → r ≡ kind_fields k (take (length xs - 1) (drop 1 xs)) → r ≡ body_fields xs
unfolding body_fields
at_kind k [] some is e = absurd (omega arith)
at_kind k (x ∷ xs) some is e =
    let t = take_rest (x ∷ xs) 1 in
    e ∙ ap (kind_fields k) t ∙ ap (λ o. by_kind o xs) (sym (kind_back k)) ∙ ap (λ j. by_kind (kind_among kinds j) xs) (sym is)

pub no_body : (xs : List ℕ) → length xs < 1 → Err UnknownKind ≡ body_fields xs
unfolding body_fields
no_body [] none = refl
no_body (x ∷ xs) none = absurd (omega arith)

pub other_kind : (xs : List ℕ) → 0 < length xs → (get_or xs 0 0 ≡ 1 → ⊥) → (get_or xs 0 0 ≡ 2 → ⊥) → (get_or xs 0 0 ≡ 3 → ⊥) → (get_or xs 0 0 ≡ 4 → ⊥) → (get_or xs 0 0 ≡ 5 → ⊥) → (get_or xs 0 0 ≡ 6 → ⊥) → Err UnknownKind ≡ body_fields xs
unfolding body_fields
other_kind [] some a b c d e f = absurd (omega arith)
other_kind (x ∷ xs) some a b c d e f =
    let h1 = ne_eqb x 1 a in
    let h2 = ne_eqb x 2 b in
    let h3 = ne_eqb x 3 c in
    let h4 = ne_eqb x 4 d in
    let h5 = ne_eqb x 5 e in
    let h6 = ne_eqb x 6 f in
    rw (h1, h2, h3, h4, h5, h6) refl
