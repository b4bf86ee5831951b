-- What a record says, and the bytes that say it.
use Rattle.std.specs.Prelude.{◌≡◌, ℕ, ◌^◌, ◌<◌, List, [], ◌∷◌, ◌++◌, length, None, Option}
use Rattle.plantlog.specs.declared.fault.RecordFault.{RecordFault}
use Rattle.plantlog.specs.declared.record.RecordKind.{RecordKind}
use Rattle.plantlog.specs.declared.record.RecordKind.TheVariants.{Table as ATable, Setup as ASetup, Alternative as AnAlternative, Count as ACount, Rearm as ARearm, End as AnEnd}
use Rattle.plantlog.specs.declared.record.CountHead.{CountHead}
use Rattle.plantlog.specs.declared.record.Announced.{Announced}
use Rattle.plantlog.specs.declared.record.Announced.TheVariants.{Count as CountAhead, Other as OtherAhead}
use Rattle.plantlog.specs.Layouts.{AllSaid, layout, kind_byte, all_numbers, first_fault}
use Rattle.plantlog.specs.Numbers.{number_bytes}

-- a setup's threshold, and the numbers of its rule and of its bettor
pub record SetupFields : Type 0 where
  pub threshold : ℕ
  pub rule : ℕ
  pub bettor : ℕ

-- what a record says, by its kind; a count's head is what it tells before it is shown
pub data Fields : Type 0 where
  Table : (weights : List ℕ) → Fields
  Setup : SetupFields → Fields
  Alternative : (weights : List ℕ) → Fields
  Count : CountHead → (count : ℕ) → Fields
  Rearm : Fields
  End : (counts : ℕ) → Fields

abbrev pub kind_of : Fields → RecordKind
kind_of (Table ws) = ATable
kind_of (Setup s) = ASetup
kind_of (Alternative ws) = AnAlternative
kind_of (Count head count) = ACount
kind_of Rearm = ARearm
kind_of (End counts) = AnEnd

-- what its fields say, in the order of its layout
abbrev pub said_in : (f : Fields) → AllSaid (layout (kind_of f))
said_in (Table ws) = (ws, tt)
said_in (Setup s) = (s.threshold, (s.rule, (s.bettor, tt)))
said_in (Alternative ws) = (ws, tt)
said_in (Count head count) = (head.day, (count, tt))
said_in Rearm = tt
said_in (End counts) = (counts, tt)

-- and back
abbrev pub says : (k : RecordKind) → AllSaid (layout k) → Fields
says ATable (ws, none) = Table ws
says ASetup (a, (r, (b, none))) = Setup (record { threshold = a; rule = r; bettor = b })
says AnAlternative (ws, none) = Alternative ws
says ACount (day, (count, none)) = Count (record { day = day }) count
says ARearm none = Rearm
says AnEnd (counts, none) = End counts

-- what asking tells of it
abbrev pub announced : Fields → Announced
announced (Count head count) = CountAhead head
announced f = OtherAhead (kind_of f)

-- the numbers behind the kind byte
abbrev pub numbers : Fields → List ℕ
numbers f = all_numbers (layout (kind_of f)) (said_in f)

-- numbers one after the other
abbrev pub numbers_bytes : List ℕ → List ℕ
numbers_bytes [] = []
numbers_bytes (n ∷ ns) = number_bytes n ++ numbers_bytes ns

-- every number has at most 32 bits
abbrev pub Sayable : List ℕ → Type 0
Sayable [] = Unit {0}
Sayable (n ∷ ns) = (n < 2 ^ 32) × Sayable ns

abbrev pub body : Fields → List ℕ
body f = kind_byte (kind_of f) ∷ numbers_bytes (numbers f)

-- a body behind its length byte
abbrev pub framed : List ℕ → List ℕ
framed bs = length bs ∷ bs

unfoldable pub record_bytes : Fields → List ℕ
record_bytes f = framed (body f)

-- the first limit that the fields break, or none
abbrev pub fields_fault : Fields → Option RecordFault
fields_fault f = first_fault (layout (kind_of f)) (said_in f)

-- the fields that the writer accepts
abbrev pub Writable : Fields → Type 0
Writable f = (fields_fault f ≡ None) × Sayable (numbers f)
