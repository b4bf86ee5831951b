-- A log as a stream of records.
use Rattle.std.proofs.Common.{◌≡◌, ℕ, zero, suc, ◌<◌, ◌≤◌, Bool, true, false, cond, leb, List, [], ◌∷◌, length, take, drop, Ok, Err, Result, sym, refl, ap, ◌∙◌, not-suc-le-zero, arith, length-drop}
use Rattle.plantlog.specs.declared.fault.RecordFault.{RecordFault}
use Rattle.plantlog.specs.Format.{Fields}
use Rattle.edetector.specs.Tables.{is_within}
use Rattle.plantlog.specs.Results.{of_ok, of_err, and_then}
use Rattle.plantlog.specs.FirstRecord.{longest_body, body_fields, front, first_record}
use Rattle.plantlog.specs.Calls.{span}
use Rattle.plantlog.proofs.ResultFacts.{ok_is, of_ok_was}
use Rattle.plantlog.specs.declared.fault.FrontFault.{FrontFault}
use Rattle.plantlog.specs.declared.fault.FrontFault.TheVariants.{NoneLeft, LengthByte, Truncated}
use Rattle.plantlog.specs.declared.fault.RecordFault.TheVariants.{Front}
use Rattle.playback.proofs.Fronts.{none_in_front}
use Rattle.playback.specs.Stream.{Stream, Broken, Next, opened, stream_by, stream_of}

front_rest : (l : ℕ) (bs inner rest : List ℕ) (a b : Bool) → cond {A = Result (List ℕ × List ℕ) FrontFault} a (cond b (Ok (take l bs, drop l bs)) (Err Truncated)) (Err LengthByte) ≡ Ok (inner, rest) → drop l bs ≡ rest
front_rest l bs inner rest true true e = ap (λ p. p.1) (ok_is e)
front_rest l bs inner rest true false e = cc
front_rest l bs inner rest false b e = cc

by_front : (r : Result (List ℕ × List ℕ) FrontFault) (f : Fields) (rest : List ℕ) → and_then {U = Fields × List ℕ} (of_err Front r) (λ p. of_ok (λ f. (f, p.1)) (body_fields p.0)) ≡ Ok (f, rest) → (inner : List ℕ) × (r ≡ Ok (inner, rest))
by_front (Ok p) f rest e =
    let w = of_ok_was (λ f. (f, p.1)) (body_fields p.0) (f, rest) e in (p.0, ap (λ x. Ok (p.0, x)) (ap (λ q. q.1) w.2))
by_front (Err x) f rest e = cc

-- what a record leaves is shorter
pub shorter : (b : ℕ) (bs : List ℕ) (f : Fields) (rest : List ℕ) → first_record (b ∷ bs) ≡ Ok (f, rest) → length rest ≤ length bs
unfolding first_record front
shorter b bs f rest e =
    let w = by_front _ f rest e in
    let d = front_rest b bs w.0 rest (is_within 1 longest_body b) (leb b (length bs)) w.1 in
    omega (arith, ap length d, length-drop b bs)

pub some_shorter : (bs : List ℕ) (f : Fields) (rest : List ℕ) → first_record bs ≡ Ok (f, rest) → length rest < length bs
some_shorter [] f rest e = let z : ◌≡◌ {A = Result (Fields × List ℕ) RecordFault} (Err (Front NoneLeft)) (Ok (f, rest)) = sym none_in_front ∙ e in cc
some_shorter (b ∷ bs) f rest e = let h = shorter b bs f rest e in omega (arith, h)

-- two ways to go on that agree on what is left
same_opened : (go go' : List ℕ → Stream) (n : ℕ) (r : Result (Fields × List ℕ) RecordFault) → ((f : Fields) (rest : List ℕ) → r ≡ Ok (f, rest) → go rest ≡ go' rest) → opened go n r ≡ opened go' n r
same_opened go go' n (Ok p) h = ap (Next p.0 n) (h p.0 p.1 refl)
same_opened go go' n (Err e) h = refl

-- more than enough is enough
enough : (n m : ℕ) (bs : List ℕ) → length bs ≤ n → length bs ≤ m → stream_by n bs ≡ stream_by m bs
enough zero zero bs h l = refl
enough zero (suc m) [] h l = refl
enough zero (suc m) (b ∷ bs) h l = absurd (not-suc-le-zero h)
enough (suc n) zero [] h l = refl
enough (suc n) zero (b ∷ bs) h l = absurd (not-suc-le-zero l)
enough (suc n) (suc m) [] h l = refl
enough (suc n) (suc m) (b ∷ bs) h l =
    same_opened (stream_by n) (stream_by m) (span (b ∷ bs)) (first_record (b ∷ bs))
    (λ f rest e. let less = shorter b bs f rest e in enough n m rest (omega (arith, less, h)) (omega (arith, less, l)))

by_record : (n k : ℕ) (r : Result (Fields × List ℕ) RecordFault) (f : Fields) (rest : List ℕ) → r ≡ Ok (f, rest) → opened (stream_by n) k r ≡ Next f k (stream_by n rest)
by_record n k r f rest e = ap (opened (stream_by n) k) e

-- a record that is read begins the stream
pub stream_next : (bs : List ℕ) (f : Fields) (rest : List ℕ) → first_record bs ≡ Ok (f, rest) → stream_of bs ≡ Next f (span bs) (stream_of rest)
stream_next [] f rest e = let z : ◌≡◌ {A = Result (Fields × List ℕ) RecordFault} (Err (Front NoneLeft)) (Ok (f, rest)) = sym none_in_front ∙ e in let y : ◌≡◌ {A = ℕ} 0 1 = cc in absurd (omega arith)
stream_next (b ∷ bs) f rest e =
    by_record (length bs) (span (b ∷ bs)) (first_record (b ∷ bs)) f rest e
    ∙ ap (Next f (span (b ∷ bs))) (enough (length bs) (length rest) rest (shorter b bs f rest e) (omega arith))

-- one that is refused ends it
pub stream_broken : (b : ℕ) (bs : List ℕ) (e : RecordFault) → first_record (b ∷ bs) ≡ Err e → stream_of (b ∷ bs) ≡ Broken e
stream_broken b bs e h = ap (opened (stream_by (length bs)) (span (b ∷ bs))) h
