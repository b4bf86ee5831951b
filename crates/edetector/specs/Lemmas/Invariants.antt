-- What the fields of a monitor keep among themselves.
use Rattle.std.specs.Prelude.{ℕ, Bool, if◌then◌else◌, nat_le, nat_lt}
use Rattle.edetector.specs.declared.state.State.{State}
use Rattle.edetector.specs.declared.state.State.TheVariants.{Armed, Staked, Rung}
use Rattle.edetector.specs.States.{is_staked, most_rounds}

-- the ledger is at the limit or above exactly if the monitor is rung
abbrev pub agrees_with_ledger : State → ℕ → ℕ → Bool
agrees_with_ledger Armed limit ledger = nat_lt ledger limit
agrees_with_ledger Staked limit ledger = nat_lt ledger limit
agrees_with_ledger Rung limit ledger = nat_le limit ledger

-- no more rounds are settled, and a staked monitor has one left
abbrev pub has_rounds_left : State → ℕ → Bool
has_rounds_left state rounds = if is_staked state then nat_lt rounds most_rounds else nat_le rounds most_rounds
