-- When a number lies within limits.
use Rattle.std.proofs.Common.{◌≡◌, ℕ, ◌<◌, ◌≤◌, true, false, ◌⊎◌, inl, inr, arith}
use Rattle.std.proofs.lemmas.Bool.Decides.{nat_tests}
use Rattle.std.proofs.lemmas.Bool.{and_parts, leb-true}
use Rattle.edetector.specs.Tables.{is_within}

pub inside : (low high n : ℕ) → low ≤ n → n ≤ high → is_within low high n ≡ true
inside low high n h l = grind (arith, nat_tests)

pub outside : (low high n : ℕ) → (n < low) ⊎ (high < n) → is_within low high n ≡ false
outside low high n (inl h) = grind (arith, nat_tests)
outside low high n (inr h) = grind (arith, nat_tests)

pub within : (low high n : ℕ) → is_within low high n ≡ true → (low ≤ n) × (n ≤ high)
within low high n e = let p = and_parts _ _ e in (leb-true low n p.0, leb-true n high p.1)
