-- What a reader holds, and what its calls show of it.
use Rattle.std.specs.Prelude.{◌≡◌, ℕ, ◌≤◌, List, length, drop, Some, None, Ok, Option}
use Rattle.plantlog.specs.declared.judge.JudgedCount.{JudgedCount}
use Rattle.plantlog.specs.declared.record.CountHead.{CountHead}
use Rattle.plantlog.specs.declared.reader.Reader.TheInside.{Inside}
use Rattle.plantlog.specs.Calls.{span}
use Rattle.plantlog.specs.FirstRecord.{first_record}
use Rattle.plantlog.specs.Format.{Count}
use Rattle.plantlog.specs.Position.{Reading}

abbrev pub reading_of : Inside → Reading
reading_of r = record { log = r.log.now; place = r.place; records = r.records }

-- the record in front is this count, judged whole
pub record InFront (j : JudgedCount) (left : List ℕ) : Type 0 where
  pub head : CountHead
  pub value : first_record left ≡ Ok (Count head j.count, drop j.span left)
  pub spans : j.span ≡ span left
  pub within : j.span ≤ length left
  pub some : 1 ≤ j.span

-- what is kept of a count that was asked for
abbrev pub Knows : Option JudgedCount → List ℕ → Type 0
Knows None left = Unit {0}
Knows (Some j) left = InFront j left

pub record Stands (r : Inside) : Type 0 where
  pub within : r.place ≤ length r.log.now
  pub passed : r.records ≤ r.place
  pub knows : Knows r.judged (drop r.place r.log.now)
