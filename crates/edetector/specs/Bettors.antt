-- What a bettor means: a null table, and what it plays after whatever it learns. All numbers are whole, and `/` rounds down.
use Rattle.std.specs.Prelude.{◌≡◌, ℕ, ◌+◌, ◌*◌, ◌/◌, Bool, if◌then◌else◌, ◌&&◌, List, ◌∷◌, ◌++◌, map, length, take, sum, count_by, None, ◌==◌, nat_lt}
use Rattle.std.specs.List.{zip, range_with_len, common_prefix_len}
use Rattle.edetector.specs.Tables.{null_fault, unit_factor, IsFair}

-- the row of factors that is played once these classes, in this order and no others, are learned from now on
abbrev pub Strategy : Type 0
Strategy = List ℕ → List ℕ

pub record Meaning : Type 0 where
  pub nulls : List ℕ
  pub strategy : Strategy

-- what every bettor keeps: a null table within its limits and, whatever is learned, a fair row of a factor for each class
pub record IsBettor (m : Meaning) : Type 0 where
  pub table : null_fault m.nulls ≡ None
  pub factors : (later : List ℕ) → length (m.strategy later) ≡ length m.nulls
  pub fair : (later : List ℕ) → IsFair m.nulls (m.strategy later)

-- the meaning once k is learned; a number that is no class changes nothing
abbrev pub meaning_after : Meaning → ℕ → Meaning
meaning_after m k = if nat_lt k (length m.nulls) then record m { strategy = λ later. m.strategy (k ∷ later) } else m

-- a class's likelihood ratio, in parts of the unit factor: alternative weight a out of v, to null weight w out of n
abbrev pub ratio : ℕ → ℕ → ℕ → ℕ → ℕ
ratio n v w a = (unit_factor * a * n) / (v * w)

-- the likelihood ratios of all classes: null weights of total n, against alternative weights of total v
abbrev pub ratios : ℕ → ℕ → List ℕ → List ℕ → List ℕ
ratios n v ws alts = map (λ p. ratio n v p.0 p.1) (zip ws alts)

-- a fixed bettor with an alternative table plays one row, whatever is learned
abbrev pub fixed_meaning : List ℕ → List ℕ → Meaning
fixed_meaning ws alts = record { nulls = ws; strategy = λ later. ratios (sum ws) (sum alts) ws alts }

-- no more classes than these are tallied
abbrev pub most_tallied : ℕ
most_tallied = 1000000

-- the classes tallied, and those that come after them, as far as they are tallied
abbrev pub tally_with : List ℕ → List ℕ → List ℕ
tally_with tally later = take most_tallied (tally ++ later)

-- how often a class was tallied
abbrev pub times : ℕ → List ℕ → ℕ
times k tally = count_by (λ c. c == k) tally

-- the weight of each class with how often it was tallied
abbrev pub tallied_weights : List ℕ → List ℕ → List ℕ
tallied_weights ws tally = map (λ p. p.0 + times p.1 tally) (zip ws (range_with_len 0 (length ws)))

-- an adaptive bettor's alternative is the null table with the tally added
abbrev pub adaptive_row : List ℕ → List ℕ → List ℕ
adaptive_row ws tally = ratios (sum ws) (sum ws + length tally) ws (tallied_weights ws tally)

-- an adaptive bettor that has tallied some classes
abbrev pub adaptive_meaning : List ℕ → List ℕ → Meaning
adaptive_meaning ws tally = record { nulls = ws; strategy = λ later. adaptive_row ws (tally_with tally later) }

-- how many pairs of weights are alike, up to the first that are not
abbrev pub pairs_alike : List ℕ → List ℕ → ℕ
pairs_alike ws vs = common_prefix_len ◌==◌ ws vs

-- two tables are the same if they have as many classes, and each pair of weights is alike
abbrev pub same_table : List ℕ → List ℕ → Bool
same_table ws vs = length ws == length vs && pairs_alike ws vs == length ws

-- half the sum of two rows, class by class
abbrev pub averages : List ℕ → List ℕ → List ℕ
averages fs gs = map (λ p. (p.0 + p.1) / 2) (zip fs gs)

-- the row of a mixture of two bettors with the null tables ws and vs; where these differ it is the first's
abbrev pub mixed_row : List ℕ → List ℕ → List ℕ → List ℕ → List ℕ
mixed_row ws vs f g = if same_table ws vs then averages f g else f

-- the two bettors of a mixture
pub record TwoBettors (F S : Type 0) : Type 0 where
  pub first : F
  pub second : S

-- a mixture means the first's table, and a row mixed of the two
abbrev pub mixture_meaning : Meaning → Meaning → Meaning
mixture_meaning first second = record {
  nulls = first.nulls;
  strategy = λ later. mixed_row first.nulls second.nulls (first.strategy later) (second.strategy later);
}
