-- The days of counts.
use Rattle.std.specs.Prelude.{ℕ, Bool, true, Some, None, Option, nat_lt}

-- whether a day is after the last count's, if there was one
abbrev pub is_after : Option ℕ → ℕ → Bool
is_after None day = true
is_after (Some last) day = nat_lt last day
