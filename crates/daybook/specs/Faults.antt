-- The number of each refusal.
use Rattle.std.specs.Prelude.{ℕ}
use Rattle.daybook.specs.declared.fault.BookFault.{BookFault}
use Rattle.daybook.specs.declared.fault.BookFault.TheVariants.{Full, KeyNotAbove}

abbrev pub book_number : BookFault → ℕ
book_number Full = 37
book_number KeyNotAbove = 38
