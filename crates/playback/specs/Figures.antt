-- The worked figures of the rules, together.
use Rattle.edetector.specs.Examples.{WorkedExamples}
use Rattle.plantlog.specs.Numbers.{NumberExamples}

-- rows, ledgers, alarms and weighted sums for the null weights 3, 1; numbers in their groups
pub record Figures : Type 0 where
  pub bets : WorkedExamples
  pub numbers : NumberExamples
