-- What the books hold, as plain data.
use Rattle.std.specs.Prelude.{◌≡◌, ◌≤◌, [], length, None}
use Rattle.daybook.specs.declared.book.Book.{Book}
use Rattle.daybook.specs.declared.entry.Keyed.{Ghosts as Keyed}
use Rattle.daybook.specs.declared.entry.alarm.Alarm.{Alarm}
use Rattle.daybook.specs.declared.entry.unwatched.Unwatched.{Unwatched}
use Rattle.edetector.specs.Monitors.{Standing}
use Rattle.daybook.specs.Books.{entries_of, places_of, Keeps}
use Rattle.playback.specs.declared.books.Books.{Books}
use Rattle.playback.specs.Rest.{Rest}
use Rattle.playback.specs.Watch.{Watch, Places}

-- the replay's state, from its parts
abbrev pub watch_of : Standing → Rest → Books → Watch
watch_of s rest books = record { standing = s; last = rest.last; counts = rest.counts; alarms = entries_of books.alarms.now; unwatched = entries_of books.unwatched.now }

abbrev pub places_in : {K : Keyed Alarm} {L : Keyed Unwatched} → Book Alarm K → Book Unwatched L → Places
places_in alarms unwatched = record { alarms = places_of alarms; unwatched = places_of unwatched }

-- the places of the two books that were lent
abbrev pub places_lent : Books → Places
places_lent books = places_in books.alarms.now books.unwatched.now

-- no count was read, and neither book has an entry
pub record NothingYet (rest : Rest) (books : Books) : Type 0 where
  pub last : rest.last ≡ None
  pub counts : rest.counts ≡ 0
  pub alarms : entries_of books.alarms.now ≡ []
  pub unwatched : entries_of books.unwatched.now ≡ []

-- a book as it was, but for entries that may have been added
pub record Grows {X : Type 0} {K : Keyed X} (before after : Book X K) : Type 0 where
  pub kept : Keeps before after
  pub more : length (entries_of before) ≤ length (entries_of after)

-- the same two books are lent, and entries may have been added to both
pub record KeepsBooks (before after : Books) : Type 0 where
  pub alarms_lender : after.alarms.ghost_name ≡ before.alarms.ghost_name
  pub unwatched_lender : after.unwatched.ghost_name ≡ before.unwatched.ghost_name
  pub alarms : Grows before.alarms.now after.alarms.now
  pub unwatched : Grows before.unwatched.now after.unwatched.now
