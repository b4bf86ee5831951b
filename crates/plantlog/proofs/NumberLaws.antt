-- Every number is read back, and what is read is written the same way.
use Rattle.std.proofs.Common.{◌≡◌, ℕ, zero, suc, ◌+◌, ◌/◌, ◌%◌, ◌^◌, ◌<◌, Bool, true, false, List, ◌++◌, Ok, refl, ap, ⊎_elim, arith}
use borrow.Author.Tests.{clash}
use Rattle.std.proofs.lemmas.Bool.{lt-ltb, le-ltb, cases_lt}
use Rattle.plantlog.specs.Numbers.{groups, number_bytes, first_number_by, first_number, NumberExamples}
use Rattle.plantlog.specs.NumberLimits.{limit}
use Rattle.plantlog.proofs.ReadGroups.{last_ok}

pub examples : NumberExamples
unfolding number_bytes first_number
examples = (refl, refl, refl, refl, refl)

trip : (m : ℕ) (several : Bool) (n : ℕ) (rest : List ℕ) → n < limit m → (several ≡ true → 0 < n) → first_number_by m several (groups m n ++ rest) ≡ Ok (n, rest)
trip zero several n rest h p = let a = le-ltb 15 n (omega arith) in rw a (last_ok several n rest p)
trip (suc m) several n rest h p =
    ⊎_elim
    (λ small. let a = lt-ltb n 128 small in rw a (rw a (last_ok several n rest p)))
    (λ big.
    let a = le-ltb n 128 big in
    let b = le-ltb (n % 128 + 128) 128 (omega arith) in
    let ih = trip m true (n / 128) rest (omega arith) (λ _. omega arith) in
    rw a (rw b (rw ih (ap (λ (k : ℕ). Ok (k, rest)) (omega arith)))))
    (cases_lt n 128)

pub number_back : (n : ℕ) (rest : List ℕ) → n < 2 ^ 32 → first_number (number_bytes n ++ rest) ≡ Ok (n, rest)
unfolding number_bytes first_number
number_back n rest h = trip 4 false n rest h (λ e. absurd (clash e))
