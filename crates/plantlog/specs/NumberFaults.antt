-- The number of each refusal of a number.
use Rattle.std.specs.Prelude.{ℕ}
use Rattle.plantlog.specs.declared.number.NumberFault.{NumberFault}
use Rattle.plantlog.specs.declared.number.NumberFault.TheVariants.{Wide, CutShort, Padded}

abbrev pub number_fault_number : NumberFault → ℕ
number_fault_number Wide = 13
number_fault_number CutShort = 11
number_fault_number Padded = 12
