-- Bytes that hold numbers, and one number read from them.
use Rattle.std.proofs.Common.{◌≡◌, ℕ, List, [], ◌∷◌, ◌++◌, Ok, Err, Result, sym, refl, ap, ◌∙◌, subst, append_assoc}
use Rattle.std.proofs.lemmas.List.{append-nil}
use Rattle.plantlog.specs.declared.fault.RecordFault.{RecordFault}
use Rattle.plantlog.specs.declared.fault.RecordFault.TheVariants.{Number}
use Rattle.plantlog.specs.Bytes.{Bytes}
use Rattle.plantlog.specs.Results.{of_err}
use Rattle.plantlog.specs.RecordFaults.{record_fault_number}
use Rattle.plantlog.specs.Numbers.{number_bytes, first_number, NumberRead}
use Rattle.plantlog.specs.Format.{Sayable, numbers_bytes}
use Rattle.plantlog.specs.FirstRecord.{any_number}
use Rattle.plantlog.specs.Refusals.{BeginsWith, NumberRefused}
use Rattle.plantlog.proofs.ResultFacts.{of_err_was, of_err_refused}
use Rattle.plantlog.proofs.NumbersBytes.{bytes_append}
use Rattle.plantlog.proofs.NumberLaws.{number_back}
use Rattle.plantlog.proofs.NumberUnique.{number_written}
use Rattle.plantlog.proofs.NumberReads.{number_read, malformed_read}

-- some reading is refused by a number
abbrev pub Refuses : {X : Type 0} → Result X RecordFault → ℕ → Type 0
Refuses r n = (e : RecordFault) × (r ≡ Err e) × (record_fault_number e ≡ n)

pub bytes_behind : (xs rest : List ℕ) → Bytes (xs ++ rest) → Bytes rest
bytes_behind [] rest h = h
bytes_behind (x ∷ xs) rest h = bytes_behind xs rest h.1

sayable_append : (xs ys : List ℕ) → Sayable xs → Sayable ys → Sayable (xs ++ ys)
sayable_append [] ys h k = k
sayable_append (x ∷ xs) ys h k = (h.0, sayable_append xs ys h.1 k)

pub sayable_front : (xs ys : List ℕ) → Sayable (xs ++ ys) → Sayable xs
sayable_front [] ys h = tt
sayable_front (x ∷ xs) ys h = (h.0, sayable_front xs ys h.1)

pub sayable_back : (xs ys : List ℕ) → Sayable (xs ++ ys) → Sayable ys
sayable_back [] ys h = h
sayable_back (x ∷ xs) ys h = sayable_back xs ys h.1

pub nothing_held : (bs : List ℕ) → BeginsWith bs [] bs
nothing_held bs = (refl, tt)

pub held_bytes : (bs ns rest : List ℕ) → BeginsWith bs ns rest → Bytes bs → Bytes rest
held_bytes bs ns rest h b = bytes_behind (numbers_bytes ns) rest (subst Bytes h.0 b)

-- numbers behind numbers
pub both_held : (bs xs mid ys rest : List ℕ) → BeginsWith bs xs mid → BeginsWith mid ys rest → BeginsWith bs (xs ++ ys) rest
both_held bs xs mid ys rest h k =
    (h.0 ∙ ap (λ l. numbers_bytes xs ++ l) k.0 ∙ sym (append_assoc (numbers_bytes xs) (numbers_bytes ys) rest) ∙ ap (λ l. l ++ rest) (sym (bytes_append xs ys)), sayable_append xs ys h.1 k.1)

pub first_held : (bs xs ys rest : List ℕ) → BeginsWith bs (xs ++ ys) rest → BeginsWith bs xs (numbers_bytes ys ++ rest)
first_held bs xs ys rest h =
    (h.0 ∙ ap (λ l. l ++ rest) (bytes_append xs ys) ∙ append_assoc (numbers_bytes xs) (numbers_bytes ys) rest, sayable_front xs ys h.1)

pub written_held : (ns rest : List ℕ) → Sayable ns → BeginsWith (numbers_bytes ns ++ rest) ns rest
written_held ns rest h = (refl, h)

pub any_held : (bs : List ℕ) (n : ℕ) (rest : List ℕ) → Bytes bs → any_number bs ≡ Ok (n, rest) → BeginsWith bs (n ∷ []) rest
unfolding any_number
any_held bs n rest b e =
    let w = number_written bs n rest b (of_err_was Number (first_number bs) (n, rest) e) in
    (w.0 ∙ ap (λ l. l ++ rest) (sym (append-nil (number_bytes n))), (w.1, tt))

pub any_back : (bs : List ℕ) (n : ℕ) (rest : List ℕ) → BeginsWith bs (n ∷ []) rest → any_number bs ≡ Ok (n, rest)
unfolding any_number
any_back bs n rest h =
    ap (λ l. of_err Number (first_number l)) (h.0 ∙ ap (λ l. l ++ rest) (append-nil (number_bytes n)))
    ∙ ap (of_err Number) (number_back n rest h.1.0)

pub any_refused : (bs : List ℕ) (e : RecordFault) → Bytes bs → any_number bs ≡ Err e → NumberRefused bs (record_fault_number e)
unfolding any_number
any_refused bs e b h =
    let w = of_err_refused Number (first_number bs) e h in
    (w.0, subst (λ r. NumberRead bs r) w.1 (number_read bs b), ap record_fault_number (sym w.2))

pub refused_any : (bs : List ℕ) (n : ℕ) → NumberRefused bs n → Refuses (any_number bs) n
unfolding any_number
refused_any bs n h = (Number h.0, ap (of_err Number) (malformed_read bs h.0 h.1), sym h.2)
