-- Days rise: whatever day is after the last count's is above the last entry's in both books.
use Rattle.std.specs.Prelude.{◌≡◌, ℕ, true, List, Option}
use Rattle.daybook.specs.Keys.{above_in}
use Rattle.playback.specs.Days.{is_after}
use Rattle.playback.specs.Watch.{Watch}

abbrev pub Later : {X : Type 0} → (X → ℕ) → Option ℕ → List X → Type 0
Later key last entries = (d : ℕ) → is_after last d ≡ true → above_in key entries d ≡ true

pub record Rising (w : Watch) : Type 0 where
  pub alarms : Later (λ a. a.day) w.last w.alarms
  pub unwatched : Later (λ u. u.day) w.last w.unwatched
