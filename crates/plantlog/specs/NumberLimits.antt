-- How large a number of so many groups can be.
use Rattle.std.specs.Prelude.{ℕ, zero, suc, ◌*◌, ◌<◌, Ok, Err, Result}
use Rattle.plantlog.specs.declared.number.NumberFault.{NumberFault}

-- what m + 1 groups cannot reach, the fifth having four bits
abbrev pub limit : ℕ → ℕ
limit zero = 16
limit (suc m) = 128 * limit m

abbrev pub BelowLimit : {X : Type 0} → ℕ → Result (ℕ × X) NumberFault → Type 0
BelowLimit m (Ok p) = p.0 < limit m
BelowLimit m (Err e) = Unit {0}
