-- A standing by its parts.
use Rattle.std.specs.Prelude.{ℕ, List, [], Err, Result}
use Rattle.edetector.specs.declared.state.State.{State}
use Rattle.edetector.specs.declared.state.State.TheVariants.{Armed, Staked}
use Rattle.edetector.specs.declared.fault.Refused.{Refused}
use Rattle.edetector.specs.Bettors.{Strategy}
use Rattle.edetector.specs.Monitors.{Terms, Standing, Outcome, outcome, first_ledger, misfit}

abbrev pub standing : ℕ → State → ℕ → ℕ → ℕ → List ℕ → Strategy → Standing
standing tag state ledger rounds alarms row strategy = record {
  tag = tag;
  state = state;
  ledger = ledger;
  rounds = rounds;
  alarms = alarms;
  row = row;
  strategy = strategy;
}

-- where the calls leave a monitor that accepts them
abbrev pub after_stake : Standing → Standing
after_stake s = record s { state = Staked; row = s.strategy [] }

abbrev pub after_withdraw : Standing → Standing
after_withdraw s = record s { state = Armed; row = [] }

abbrev pub after_rearm : Terms → Standing → Standing
after_rearm t s = record s { state = Armed; ledger = first_ledger t; row = [] }

-- and where one leaves it that is handed a slip that does not fit
abbrev pub handed_back : {X S : Type 0} → Standing → S → Outcome (Result X (Refused S))
handed_back s slip = outcome (Err (misfit slip)) s
