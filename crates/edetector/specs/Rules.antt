-- What a restart rule means: the base of a round for every wealth.
use Rattle.std.specs.Prelude.{ℕ, ◌≤◌, ◌+◌, ◌^◌, max, if◌then◌else◌, nat_lt}

-- one bet, in parts
abbrev pub bet : ℕ
bet = 1048576

-- the largest threshold, in bets
abbrev pub most_threshold : ℕ
most_threshold = 4096

-- what every rule keeps: at most one bet is begun anew
pub record IsRestartRule (base : ℕ → ℕ) : Type 0 where
  pub at_most_a_bet : (m : ℕ) → base m ≤ m + bet

-- the most parts of a wealth
abbrev pub most_parts : ℕ
most_parts = 2 ^ 49

-- a rule's base for a wealth m; but above 2^32 parts no bet is begun, and the base is the wealth
abbrev pub base_for : ℕ → ℕ → ℕ
base_for m base = if nat_lt (2 ^ 32) m then m else base

-- the Shiryaev–Roberts rule adds a bet
abbrev pub shiryaev_roberts : ℕ → ℕ
shiryaev_roberts m = base_for m (m + bet)

-- Page's rule starts from at least a bet
abbrev pub page : ℕ → ℕ
page m = base_for m (max m bet)
