-- Worked examples, all with the null weights 3, 1.
use Rattle.std.specs.Prelude.{◌≡◌, ℕ, Bool, true, false, List, [], ◌∷◌, map, filter}
use Rattle.edetector.specs.Tables.{IsFair}
use Rattle.edetector.specs.Rules.{shiryaev_roberts, page}
use Rattle.edetector.specs.Bettors.{Meaning, fixed_meaning, adaptive_meaning, mixture_meaning}
use Rattle.edetector.specs.Monitors.{Terms, Standing, terms, first_standing, stake_outcome, Stake, Rearm, is_round, is_alarm, is_rearm, next_outcome}
use Rattle.edetector.specs.Plans.{Plan, run, weighted_count}

abbrev pub example_meaning : Meaning
example_meaning = fixed_meaning (3 ∷ 1 ∷ []) (1 ∷ 1 ∷ [])

abbrev pub example_start : Terms → Standing
example_start t = first_standing t 1 example_meaning

-- the ledger after each of a list of classes, each staked and settled
abbrev pub ledgers : Terms → Standing → List ℕ → List ℕ
ledgers t s [] = []
ledgers t s (k ∷ ks) =
    let staked = (stake_outcome t s).after in
    let after = (next_outcome t staked k).after in after.ledger ∷ ledgers t after ks

-- stakes, after a rearm where the alarm has rung
abbrev pub rearm_and_stake : Plan
rearm_and_stake past = Stake ∷ Rearm ∷ Stake ∷ []

-- whether each settled round of a run rang
abbrev pub ring_answers : Terms → List ℕ → List Bool
ring_answers t classes = map is_alarm (filter is_round (run t rearm_and_stake (example_start t) classes))

pub record WorkedExamples : Type 0 where
  pub fixed_row : example_meaning.strategy [] ≡ 2730 ∷ 8192 ∷ []
  pub nearest_is_unfair : IsFair example_meaning.nulls (2731 ∷ 8192 ∷ []) → ⊥
  pub adaptive_row : (adaptive_meaning example_meaning.nulls []).strategy (1 ∷ []) ≡ 3276 ∷ 6553 ∷ []
  pub mixture_row : (mixture_meaning example_meaning (adaptive_meaning example_meaning.nulls [])).strategy [] ≡ 3413 ∷ 6144 ∷ []
  pub shiryaev_roberts_ledgers : ledgers (terms example_meaning shiryaev_roberts 4) (example_start (terms example_meaning shiryaev_roberts 4)) (0 ∷ 1 ∷ 1 ∷ []) ≡ 698880 ∷ 3494912 ∷ 9086976 ∷ []
  pub shiryaev_roberts_alarms : ring_answers (terms example_meaning shiryaev_roberts 4) (0 ∷ 1 ∷ 1 ∷ []) ≡ false ∷ false ∷ true ∷ []
  pub page_ledgers : ledgers (terms example_meaning page 4) (example_start (terms example_meaning page 4)) (1 ∷ 1 ∷ []) ≡ 2097152 ∷ 4194304 ∷ []
  pub page_alarms : ring_answers (terms example_meaning page 4) (1 ∷ 1 ∷ []) ≡ false ∷ true ∷ []
  pub alarms_of_two_rounds : weighted_count is_alarm (terms example_meaning shiryaev_roberts 2) (example_start (terms example_meaning shiryaev_roberts 2)) rearm_and_stake 2 ≡ 8
  pub rounds_of_two_rounds : weighted_count is_round (terms example_meaning shiryaev_roberts 2) (example_start (terms example_meaning shiryaev_roberts 2)) rearm_and_stake 2 ≡ 32
  pub rearms_of_two_rounds : weighted_count is_rearm (terms example_meaning shiryaev_roberts 2) (example_start (terms example_meaning shiryaev_roberts 2)) rearm_and_stake 2 ≡ 8
