-- A number below 100, written with two digits.
use Rattle.std.proofs.Common.{◌≡◌, ℕ, ◌-◌, ◌^◌, ◌<◌, ◌/◌, ◌%◌, false, [], ◌++◌, refl, ◌∙◌, ⊎_elim, arith}
use Rattle.std.specs.Fmt.{decimal, padded_integral, char_count, format_spec}
use Rattle.std.proofs.lemmas.Bool.{cases_lt}
use Rattle.std.proofs.lemmas.Fmt.{decimal_digit, decimal_step}

-- a number under 100, written with a leading zero if it has one digit
two_digits : (n : ℕ) → n < 100 → padded_integral (format_spec 32 0 4 2 (2 ^ 64 - 1)) false [] (decimal n) ≡ decimal (n / 10) ++ decimal (n % 10)
unfolding padded_integral char_count
two_digits n small = ⊎_elim
    (λ one. let high : n / 10 ≡ 0 = omega arith in let low : n % 10 ≡ n = omega arith in let none : 0 < 10 = omega arith in rw (high, low, decimal_digit n one, decimal_digit 0 none))
    (λ two. rw (decimal_step n two (omega arith), decimal_digit (n / 10) (omega arith), decimal_digit (n % 10) (omega arith)))
    (cases_lt n 10)

pub last_two_digits : (h : ℕ) → padded_integral (format_spec 32 0 4 2 (2 ^ 64 - 1)) false [] (decimal (h % 100)) ≡ decimal (h / 10 % 10) ++ decimal (h % 10)
last_two_digits h =
    let high : h % 100 / 10 ≡ h / 10 % 10 = omega arith in
    let low : h % 100 % 10 ≡ h % 10 = omega arith in
    two_digits (h % 100) (omega arith) ∙ rw (high, low) refl
