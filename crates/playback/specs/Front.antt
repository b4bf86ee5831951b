-- The next record, as a replay sees it.
use Rattle.std.specs.Prelude.{ℕ, if◌then◌else◌, List, Ok, Err, Result, ◌==◌}
use Rattle.plantlog.specs.declared.fault.RecordFault.{RecordFault}
use Rattle.plantlog.specs.declared.record.Setup.{Setup as SetupValue}
use Rattle.plantlog.specs.declared.record.RuleChoice.{RuleChoice}
use Rattle.plantlog.specs.declared.record.RuleChoice.TheVariants.{ShiryaevRoberts, Page}
use Rattle.plantlog.specs.declared.record.BettorChoice.{BettorChoice}
use Rattle.plantlog.specs.declared.record.BettorChoice.TheVariants.{Fixed, Adaptive, Mixture}
use Rattle.plantlog.specs.Results.{of_ok, of_err}
use Rattle.plantlog.specs.Format.{Fields, Table, Setup, Alternative, Count, End}
use Rattle.plantlog.specs.FirstRecord.{first_record}
use Rattle.playback.specs.declared.stop.ReplayFault.{ReplayFault}
use Rattle.playback.specs.declared.stop.ReplayFault.TheVariants.{Record, NotAllowed}

abbrev pub of_record : {X : Type 0} → Result X RecordFault → Result X ReplayFault
of_record r = of_err Record r

-- what the next record says
abbrev pub next_fields : List ℕ → Result Fields ReplayFault
next_fields left = of_record (of_ok (λ p. p.0) (first_record left))

-- a record that has to be a table, a setup or an alternative
abbrev pub only_table : Fields → Result (List ℕ) ReplayFault
only_table (Table ws) = Ok ws
only_table _ = Err NotAllowed

-- the rule of its number in a setup, 1 or 2, and the bettor of its number, 1 to 3
abbrev pub rule_named : ℕ → RuleChoice
rule_named r = if r == 1 then ShiryaevRoberts else Page

abbrev pub bettor_named : ℕ → BettorChoice
bettor_named b = if b == 1 then Fixed else if b == 2 then Adaptive else Mixture

abbrev pub only_setup : Fields → Result SetupValue ReplayFault
only_setup (Setup s) = Ok (record { threshold = s.threshold; rule = rule_named s.rule; bettor = bettor_named s.bettor })
only_setup _ = Err NotAllowed

abbrev pub only_alternative : Fields → Result (List ℕ) ReplayFault
only_alternative (Alternative ws) = Ok ws
only_alternative _ = Err NotAllowed

-- the number that a count in front says
abbrev pub count_said : Fields → ℕ
count_said (Count head n) = n
count_said _ = 0

abbrev pub count_next : Result Fields ReplayFault → ℕ
count_next (Ok f) = count_said f
count_next (Err e) = 0

-- the number that an end in front says
abbrev pub end_said : Fields → ℕ
end_said (End n) = n
end_said _ = 0

abbrev pub end_next : Result Fields ReplayFault → ℕ
end_next (Ok f) = end_said f
end_next (Err e) = 0
