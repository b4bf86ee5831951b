-- What a log says that is replayed without a fault.
use Rattle.std.specs.Prelude.{◌≡◌, ℕ, ◌+◌, ◌≤◌, true, false, List, [], ◌∷◌, length, Some, None, Ok, Err, Option, Result}
use Rattle.plantlog.specs.declared.record.BettorChoice.{BettorChoice}
use Rattle.plantlog.specs.Format.{Fields, Table, Setup, Alternative, Count, Rearm, End}
use Rattle.plantlog.specs.Laws.{AllWritable, log_bytes}
use Rattle.playback.specs.Days.{is_after}
use Rattle.playback.specs.declared.report.Run.{Run}
use Rattle.playback.specs.declared.stop.Fault.{Fault}
use Rattle.playback.specs.Front.{bettor_named}
use Rattle.playback.specs.Replayed.{has_alternative, replay_of}
use Rattle.playback.specs.Replaying.{longest}
use Rattle.playback.specs.Watch.{Places}

-- a monitor was made, and nothing stopped the replay
abbrev pub NoFault : Result Run Fault → Type 0
NoFault (Err f) = ⊥
NoFault (Ok run) = run.fault ≡ None

-- behind so many counts, the last of a day: counts whose days rise, and rearms, in any number, then one end, which names
-- how many counts there were
abbrev pub WatchedRecords : Option ℕ → ℕ → List Fields → Type 0
WatchedRecords last counts (Count head n ∷ fs) = (is_after last head.day ≡ true) × WatchedRecords (Some head.day) (counts + 1) fs
WatchedRecords last counts (Rearm ∷ fs) = WatchedRecords last counts fs
WatchedRecords last counts (End n ∷ []) = n ≡ counts
WatchedRecords last counts _ = ⊥

-- an alternative comes first exactly if the bettor has one, with as many classes as the null table
abbrev pub AfterSetup : ℕ → BettorChoice → List Fields → Type 0
AfterSetup classes bettor (Alternative ws ∷ fs) = (has_alternative bettor ≡ true) × (length ws ≡ classes) × WatchedRecords None 0 fs
AfterSetup classes bettor fs = (has_alternative bettor ≡ false) × WatchedRecords None 0 fs

-- a table and a setup first
abbrev pub LogRecords : List Fields → Type 0
LogRecords (Table ws ∷ Setup s ∷ fs) = AfterSetup (length ws) (bettor_named s.bettor) fs
LogRecords _ = ⊥

-- the log is not too long, and it is the writing of such records, and of no others
pub record Accepted (log : List ℕ) : Type 0 where
  pub short : length log ≤ longest
  pub records : List Fields
  pub ordered : LogRecords records
  pub writable : AllWritable records
  pub written : log ≡ log_bytes records
  pub only : (others : List Fields) → AllWritable others → log_bytes others ≡ log → others ≡ records

-- how many counts there are
abbrev pub counts_in : List Fields → ℕ
counts_in [] = 0
counts_in (Count head n ∷ fs) = counts_in fs + 1
counts_in (f ∷ fs) = counts_in fs

-- and the writing of such records is replayed without a fault, if it is not too long and each of the two books has a place
-- for every count
abbrev pub Takes : Type 0
Takes =
    (p : Places) (fs : List Fields) → LogRecords fs → AllWritable fs → length (log_bytes fs) ≤ longest → counts_in fs ≤ p.alarms → counts_in fs ≤ p.unwatched → NoFault (replay_of p (log_bytes fs)).said
