-- The number of each rule and bettor.
use Rattle.std.specs.Prelude.{◌≡◌, ℕ, Result}
use Rattle.edetector.specs.Tables.{unless_fault}
use Rattle.plantlog.specs.declared.fault.RecordFault.{RecordFault}
use Rattle.plantlog.specs.declared.record.RuleChoice.{RuleChoice}
use Rattle.plantlog.specs.declared.record.RuleChoice.TheVariants.{ShiryaevRoberts, Page}
use Rattle.plantlog.specs.declared.record.BettorChoice.{BettorChoice}
use Rattle.plantlog.specs.declared.record.BettorChoice.TheVariants.{Fixed, Adaptive, Mixture}
use Rattle.plantlog.specs.Results.{of_ok}
use Rattle.plantlog.specs.Layouts.{rule_field, bettor_field, field_fault}

abbrev pub rule_number : RuleChoice → ℕ
rule_number ShiryaevRoberts = 1
rule_number Page = 2

abbrev pub bettor_number : BettorChoice → ℕ
bettor_number Fixed = 1
bettor_number Adaptive = 2
bettor_number Mixture = 3

-- what a number gives for a rule: the rule of that number, or the refusal of the field
abbrev pub NamesRule : ℕ → Result RuleChoice RecordFault → Type 0
NamesRule n r = of_ok rule_number r ≡ unless_fault (field_fault rule_field n) n

abbrev pub NamesBettor : ℕ → Result BettorChoice RecordFault → Type 0
NamesBettor n r = of_ok bettor_number r ≡ unless_fault (field_fault bettor_field n) n
