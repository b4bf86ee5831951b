-- What is read of a number was written so, and a number is refused exactly where it is malformed.
use Rattle.std.proofs.Common.{◌≡◌, ℕ, zero, suc, ◌-◌, ◌<◌, ◌≤◌, Bool, true, false, List, [], ◌∷◌, ◌++◌, length, get_or, Ok, Err, Result, sym, refl, ap, subst, ◌∙◌, ⊎_elim, arith}
use borrow.Author.Tests.{clash}
use Rattle.std.proofs.lemmas.Bool.{lt-ltb, le-ltb, cases_lt, cases_eq, eq-eqb, ne_eqb}
use Rattle.plantlog.specs.declared.number.NumberFault.{NumberFault}
use Rattle.plantlog.specs.declared.number.NumberFault.TheVariants.{Wide, CutShort, Padded}
use Rattle.plantlog.specs.Bytes.{Bytes}
use Rattle.plantlog.specs.Numbers.{below_more, last_group, first_number_by, first_number, AllGoOn, Malformed, NumberRead}
use Rattle.plantlog.proofs.ResultFacts.{err_no_ok}
use Rattle.plantlog.proofs.NumberLaws.{number_back}
use Rattle.plantlog.proofs.NumberUnique.{number_written}

-- Malformed, of the groups of which m may come after this one, and several says that one came before
abbrev MalformedBy : ℕ → Bool → NumberFault → List ℕ → Type 0
MalformedBy m several Wide bs = (cs : List ℕ) × (b : ℕ) × (rest : List ℕ) × (bs ≡ cs ++ b ∷ rest) × AllGoOn cs × (length cs ≡ m) × (15 < b)
MalformedBy m several CutShort bs = AllGoOn bs × (length bs ≤ m)
MalformedBy m several Padded bs = (cs : List ℕ) × (rest : List ℕ) × (bs ≡ cs ++ 0 ∷ rest) × AllGoOn cs × (several ≡ false → 0 < length cs) × (length cs ≤ m)

fault_is : {T E : Type 0} {e f : E} → ◌≡◌ {A = Result T E} (Err e) (Err f) → e ≡ f
fault_is e = cc

last_refused : (several : Bool) (b : ℕ) (xs : List ℕ) (cause : NumberFault) → last_group several b xs ≡ Err cause → (several ≡ true) × (b ≡ 0) × (Padded ≡ cause)
last_refused false b xs cause e = absurd (err_no_ok (sym e))
last_refused true b xs cause e =
    ⊎_elim
    (λ z. let t = eq-eqb b 0 z in (refl, z, fault_is (rw t at e)))
    (λ nz. let t = ne_eqb b 0 nz in absurd (err_no_ok (sym (rw t at e))))
    (cases_eq b 0)

below_refused : (d : ℕ) (r : Result (ℕ × List ℕ) NumberFault) (cause : NumberFault) → below_more d r ≡ Err cause → r ≡ Err cause
below_refused d (Ok p) cause e = absurd (err_no_ok (sym e))
below_refused d (Err f) cause e = ap (λ g. Err g) (fault_is e)

-- a byte that goes on in front of malformed ones
one_more : (m : ℕ) (several : Bool) (cause : NumberFault) (b : ℕ) (xs : List ℕ) → 128 ≤ b → MalformedBy m true cause xs → MalformedBy (suc m) several cause (b ∷ xs)
one_more m several Wide b xs h (cs, c, rest, same, on, long, high) = (b ∷ cs, c, rest, ap (λ l. b ∷ l) same, (h, on), omega (arith, long), high)
one_more m several CutShort b xs h (on, few) = ((h, on), omega (arith, few))
one_more m several Padded b xs h (cs, rest, same, on, some, few) = (b ∷ cs, rest, ap (λ l. b ∷ l) same, (h, on), λ _. omega arith, omega (arith, few))

ends_padded : (m : ℕ) (several : Bool) (b : ℕ) (xs : List ℕ) (cause : NumberFault) → last_group several b xs ≡ Err cause → MalformedBy m several cause (b ∷ xs)
ends_padded m several b xs cause e =
    let l = last_refused several b xs cause e in
    let s : several ≡ true = l.0 in
    subst (λ (f : NumberFault). MalformedBy m several f (b ∷ xs)) l.2 ([], xs, ap (λ (k : ℕ). k ∷ xs) l.1, tt, λ f. absurd (clash (sym f ∙ s)), omega arith)

refused : (m : ℕ) (several : Bool) (bs : List ℕ) (cause : NumberFault) → first_number_by m several bs ≡ Err cause → MalformedBy m several cause bs
refused zero several [] cause e = subst (λ (f : NumberFault). MalformedBy zero several f []) (fault_is e) (tt, omega arith)
refused (suc m) several [] cause e = subst (λ (f : NumberFault). MalformedBy (suc m) several f []) (fault_is e) (tt, omega arith)
refused zero several (b ∷ xs) cause e =
    ⊎_elim
    (λ big.
    let a = lt-ltb 15 b big in
    subst (λ (f : NumberFault). MalformedBy zero several f (b ∷ xs)) (fault_is (rw a at e)) ([], b, xs, refl, tt, refl, big))
    (λ small. let a = le-ltb 15 b small in ends_padded zero several b xs cause (rw a at e))
    (cases_lt 15 b)
refused (suc m) several (b ∷ xs) cause e =
    ⊎_elim
    (λ small. let a = lt-ltb b 128 small in ends_padded (suc m) several b xs cause (rw a at e))
    (λ big.
    let a = le-ltb b 128 big in
    one_more m several cause b xs big (refused m true xs cause (below_refused (b - 128) (first_number_by m true xs) cause (rw a at e))))
    (cases_lt b 128)

-- behind a byte that goes on, a refusal stays
goes_on : (m : ℕ) (several : Bool) (b : ℕ) (xs : List ℕ) (cause : NumberFault) → 128 ≤ b → first_number_by m true xs ≡ Err cause → first_number_by (suc m) several (b ∷ xs) ≡ Err cause
goes_on m several b xs cause h e = let a = le-ltb b 128 h in rw a (rw e refl)

too_wide : (m : ℕ) (several : Bool) (cs : List ℕ) (b : ℕ) (rest : List ℕ) → AllGoOn cs → length cs ≡ m → 15 < b → first_number_by m several (cs ++ b ∷ rest) ≡ Err Wide
too_wide zero several [] b rest on long high = let a = lt-ltb 15 b high in rw a refl
too_wide (suc m) several [] b rest on long high = absurd (omega (arith, long))
too_wide zero several (c ∷ cs) b rest on long high = absurd (omega (arith, long))
too_wide (suc m) several (c ∷ cs) b rest on long high = goes_on m several c (cs ++ b ∷ rest) Wide on.0 (too_wide m true cs b rest on.1 (omega (arith, long)) high)

too_short : (m : ℕ) (several : Bool) (bs : List ℕ) → AllGoOn bs → length bs ≤ m → first_number_by m several bs ≡ Err CutShort
too_short zero several [] on few = refl
too_short (suc m) several [] on few = refl
too_short zero several (b ∷ bs) on few = absurd (omega (arith, few))
too_short (suc m) several (b ∷ bs) on few = goes_on m several b bs CutShort on.0 (too_short m true bs on.1 (omega (arith, few)))

zero_last : (m : ℕ) (rest : List ℕ) → first_number_by m true (0 ∷ rest) ≡ Err Padded
zero_last zero rest = refl
zero_last (suc m) rest = refl

too_long : (m : ℕ) (several : Bool) (cs : List ℕ) (rest : List ℕ) → AllGoOn cs → (several ≡ false → 0 < length cs) → length cs ≤ m → first_number_by m several (cs ++ 0 ∷ rest) ≡ Err Padded
too_long m true [] rest on some few = zero_last m rest
too_long m false [] rest on some few = absurd (omega (arith, some refl))
too_long zero several (c ∷ cs) rest on some few = absurd (omega (arith, few))
too_long (suc m) several (c ∷ cs) rest on some few = goes_on m several c (cs ++ 0 ∷ rest) Padded on.0 (too_long m true cs rest on.1 (λ f. absurd (clash (sym f))) (omega (arith, few)))

malformed : (cause : NumberFault) (bs : List ℕ) → MalformedBy 4 false cause bs → Malformed cause bs
malformed Wide bs h = h
malformed CutShort bs h = h
malformed Padded bs (cs, rest, same, on, some, few) = (cs, rest, same, on, some refl, few)

pub malformed_read : (bs : List ℕ) (cause : NumberFault) → Malformed cause bs → first_number bs ≡ Err cause
unfolding first_number
malformed_read bs Wide (cs, b, rest, same, on, long, high) = rw same (too_wide 4 false cs b rest on long high)
malformed_read bs CutShort (on, few) = too_short 4 false bs on few
malformed_read bs Padded (cs, rest, same, on, some, few) = rw same (too_long 4 false cs rest on (λ _. some) few)

pub refused_malformed : (bs : List ℕ) (cause : NumberFault) → first_number bs ≡ Err cause → Malformed cause bs
unfolding first_number
refused_malformed bs cause e = malformed cause bs (refused 4 false bs cause e)

read_so : (bs : List ℕ) (r : Result (ℕ × List ℕ) NumberFault) → Bytes bs → first_number bs ≡ r → NumberRead bs r
read_so bs (Ok p) h e = let w = number_written bs p.0 p.1 h e in (w.0, w.1)
read_so bs (Err cause) h e = refused_malformed bs cause e

pub number_read : (bs : List ℕ) → Bytes bs → NumberRead bs (first_number bs)
number_read bs h = read_so bs (first_number bs) h refl

pub number_only : (bs : List ℕ) (r : Result (ℕ × List ℕ) NumberFault) → NumberRead bs r → first_number bs ≡ r
number_only bs (Ok p) (same, low) = rw same (number_back p.0 p.1 low)
number_only bs (Err cause) h = malformed_read bs cause h

-- the list of bytes that a slice shows
bytes_of : (bs : List ℕ) → ((i : ℕ) → get_or bs i 0 < 256) → Bytes bs
bytes_of [] h = tt
bytes_of (b ∷ bs) h = (h 0, bytes_of bs (λ i. h (suc i)))

pub reads : (bs : List ℕ) (r : Result (ℕ × List ℕ) NumberFault) → ((i : ℕ) → get_or bs i 0 < 256) → r ≡ first_number bs → NumberRead bs r
reads bs r h e = subst (NumberRead bs) (sym e) (number_read bs (bytes_of bs h))

pub reads_only : (bs : List ℕ) (r : Result (ℕ × List ℕ) NumberFault) → r ≡ first_number bs → (q : Result (ℕ × List ℕ) NumberFault) → NumberRead bs q → q ≡ r
reads_only bs r e q h = sym (e ∙ number_only bs q h)
