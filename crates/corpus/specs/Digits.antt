-- The digits of lowercase hexadecimal.
use Rattle.std.specs.Prelude.{ℕ, ◌-◌, cond, ◌&&◌, Some, None, Option, nat_le}

-- 0 to 9, then a to f
abbrev pub digit_value : ℕ → Option ℕ
digit_value c = cond (nat_le 48 c && nat_le c 57) (Some (c - 48)) (cond (nat_le 97 c && nat_le c 102) (Some (c - 87)) None)
