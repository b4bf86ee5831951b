-- A number that is read is written in no other way.
use Rattle.std.proofs.Common.{◌≡◌, ℕ, zero, suc, ◌+◌, ◌-◌, ◌*◌, ◌/◌, ◌%◌, ◌^◌, ◌<◌, Bool, true, false, List, [], ◌∷◌, ◌++◌, Ok, Err, Result, sym, refl, ap, ⊎_elim, arith}
use borrow.Author.Tests.{clash}
use Rattle.std.proofs.lemmas.Bool.{lt-ltb, le-ltb, cases_lt, cases_eq, eq-eqb, ne_eqb}
use Rattle.plantlog.specs.declared.number.NumberFault.{NumberFault}
use Rattle.plantlog.specs.Bytes.{Bytes}
use Rattle.plantlog.specs.Numbers.{groups, number_bytes, below_more, last_group, first_number_by, first_number}
use Rattle.plantlog.specs.NumberLimits.{limit}
use Rattle.plantlog.proofs.ReadGroups.{limit_some}
use Rattle.plantlog.proofs.ResultFacts.{ok_is, err_no_ok}

-- what the reading of n, with rest behind it, says of the bytes
pub record Written (m : ℕ) (several : Bool) (bs : List ℕ) (n : ℕ) (rest : List ℕ) : Type 0 where
  pub same : bs ≡ groups m n ++ rest
  pub low : n < limit m
  pub some : several ≡ true → 0 < n
  pub bytes : Bytes rest

last_was : (several : Bool) (b : ℕ) (xs : List ℕ) (n : ℕ) (rest : List ℕ) → last_group several b xs ≡ Ok (n, rest) → (b ≡ n) × (xs ≡ rest) × (several ≡ true → 0 < n)
last_was false b xs n rest e = let p = ok_is e in (ap (λ q. q.0) p, ap (λ q. q.1) p, λ h. absurd (clash h))
last_was true b xs n rest e =
    ⊎_elim
    (λ z. let t = eq-eqb b 0 z in absurd (err_no_ok (rw t at e)))
    (λ nz. let t = ne_eqb b 0 nz in let p = ok_is (rw t at e) in let bn : b ≡ n = ap (λ q. q.0) p in (bn, ap (λ q. q.1) p, λ _. omega (arith, bn)))
    (cases_eq b 0)

below_was : (d : ℕ) (r : Result (ℕ × List ℕ) NumberFault) (n : ℕ) (rest : List ℕ) → below_more d r ≡ Ok (n, rest) → (k : ℕ) × (r ≡ Ok (k, rest)) × (n ≡ d + 128 * k)
below_was d (Ok p) n rest e = let q = ok_is e in (p.0, ap (λ l. Ok (p.0, l)) (ap (λ q. q.1) q), sym (ap (λ q. q.0) q))
below_was d (Err f) n rest e = absurd (err_no_ok e)

pub written : (m : ℕ) (several : Bool) (bs : List ℕ) (n : ℕ) (rest : List ℕ) → Bytes bs → first_number_by m several bs ≡ Ok (n, rest) → Written m several bs n rest
written zero several [] n rest h e = absurd (err_no_ok e)
written (suc m) several [] n rest h e = absurd (err_no_ok e)
written zero several (b ∷ xs) n rest h e =
    ⊎_elim
    (λ big. let a = lt-ltb 15 b big in absurd (err_no_ok (rw a at e)))
    (λ small.
    let a = le-ltb 15 b small in
    let l = last_was several b xs n rest (rw a at e) in
    let bn : b ≡ n = l.0 in
    record { same = rw (bn, l.1) refl; low = omega (arith, bn); some = l.2; bytes = rw l.1 at h.1 })
    (cases_lt 15 b)
written (suc m) several (b ∷ xs) n rest h e =
    ⊎_elim
    (λ small.
    let a = lt-ltb b 128 small in
    let l = last_was several b xs n rest (rw a at e) in
    let bn : b ≡ n = l.0 in
    let a2 = lt-ltb n 128 (omega (arith, bn)) in
    record { same = rw (bn, l.1, a2) refl; low = omega (arith, bn, limit_some m); some = l.2; bytes = rw l.1 at h.1 })
    (λ big.
    let a = le-ltb b 128 big in
    let w = below_was (b - 128) (first_number_by m true xs) n rest (rw a at e) in
    let ih = written m true xs w.0 rest h.1 w.1 in
    let pos : 0 < w.0 = ih.some refl in
    let sum : n ≡ (b - 128) + 128 * w.0 = w.2 in
    let byte : b < 256 = h.0 in
    let low : w.0 < limit m = ih.low in
    let a2 = le-ltb n 128 (omega arith) in
    let q : n / 128 ≡ w.0 = omega arith in
    let r : n % 128 + 128 ≡ b = omega arith in
    record { same = rw (a2, q, r) (ap (λ l. b ∷ l) ih.same); low = omega arith; some = λ _. omega arith; bytes = ih.bytes })
    (cases_lt b 128)

pub number_written : (bs : List ℕ) (n : ℕ) (rest : List ℕ) → Bytes bs → first_number bs ≡ Ok (n, rest) → (bs ≡ number_bytes n ++ rest) × (n < 2 ^ 32) × Bytes rest
unfolding number_bytes first_number
number_written bs n rest h e = let w = written 4 false bs n rest h e in (w.same, w.low, w.bytes)
