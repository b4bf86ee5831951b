-- Values of the library seen as what a record says.
use Rattle.plantlog.specs.declared.record.Setup.{Setup as SetupValue}
use Rattle.plantlog.specs.declared.record.Record.{Record}
use Rattle.plantlog.specs.declared.record.Record.TheVariants.{Table as TableRead, Setup as SetupRead, Alternative as AlternativeRead, Rearm as RearmRead, End as EndRead}
use Rattle.plantlog.specs.declared.record.Parsed.{Parsed}
use Rattle.plantlog.specs.declared.record.Parsed.TheVariants.{Count as CountParsed, Other}
use Rattle.plantlog.specs.Choices.{rule_number, bettor_number}
use Rattle.plantlog.specs.Format.{Fields, SetupFields, Table, Setup, Alternative, Count, Rearm, End}

abbrev pub setup_said : SetupValue → SetupFields
setup_said s = record { threshold = s.threshold; rule = rule_number s.rule; bettor = bettor_number s.bettor }

-- what a record that was read says
abbrev pub record_said : Record → Fields
record_said (TableRead t) = Table t
record_said (SetupRead s) = Setup (setup_said s)
record_said (AlternativeRead t) = Alternative t
record_said RearmRead = Rearm
record_said (EndRead counts) = End counts

abbrev pub parsed_said : Parsed → Fields
parsed_said (CountParsed head count) = Count head count
parsed_said (Other r) = record_said r
