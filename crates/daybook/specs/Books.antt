-- What a book holds, and what a call answers and leaves.
use Rattle.std.specs.Prelude.{◌≡◌, ℕ, Bool, if◌then◌else◌, List, length, take, drop, Ok, Err, Result, nat_le}
use Rattle.daybook.specs.declared.book.Book.{Book}
use Rattle.daybook.specs.declared.entry.Keyed.{Ghosts as Keyed}
use Rattle.daybook.specs.declared.fault.BookFault.{BookFault}
use Rattle.daybook.specs.declared.fault.BookFault.TheVariants.{Full, KeyNotAbove}
use Rattle.daybook.specs.Keys.{above_in}

-- what the places hold, first to last
abbrev pub held_by : {X : Type 0} {K : Keyed X} → Book X K → List X
held_by b = b.places.now

-- whose places they are
abbrev pub lender_of : {X : Type 0} {K : Keyed X} → Book X K → ℕ
lender_of b = b.places.ghost_name

-- the entries, first to last
abbrev pub entries_of : {X : Type 0} {K : Keyed X} → Book X K → List X
entries_of b = take b.used (held_by b)

-- what stands in the places behind the entries
abbrev pub unused_of : {X : Type 0} {K : Keyed X} → Book X K → List X
unused_of b = drop b.used (held_by b)

-- the number of places
abbrev pub places_of : {X : Type 0} {K : Keyed X} → Book X K → ℕ
places_of b = length (held_by b)

-- whether none of n places is free
abbrev pub all_used : {X : Type 0} → ℕ → List X → Bool
all_used n xs = nat_le n (length xs)

-- what entering e answers, where n is the number of places
abbrev pub enter_answer : {X : Type 0} → (X → ℕ) → ℕ → List X → X → Result (Unit {0}) BookFault
enter_answer key n xs e = if all_used n xs then Err Full else if above_in key xs (key e) then Ok tt else Err KeyNotAbove

-- the same places of the same lender; those behind the entries hold what they held
pub record Keeps {X : Type 0} {K : Keyed X} (before after : Book X K) : Type 0 where
  pub lender : lender_of after ≡ lender_of before
  pub places : places_of after ≡ places_of before
  pub unused : unused_of after ≡ drop (length (entries_of after)) (held_by before)
