-- What a monitor is doing, and the row that it keeps meanwhile.
use Rattle.std.specs.Prelude.{ℕ, Bool, true, false, List, [], take}
use Rattle.edetector.specs.declared.state.State.{State}
use Rattle.edetector.specs.declared.state.State.TheVariants as state
use Rattle.edetector.specs.declared.monitor.phase.Phase.{Phase}
use Rattle.edetector.specs.declared.monitor.phase.Phase.TheVariants.{Armed, Staked, Rung}
use Rattle.edetector.specs.Tables.{factors_in}

abbrev pub is_armed : State → Bool
is_armed state.Armed = true
is_armed _ = false

abbrev pub is_staked : State → Bool
is_staked state.Staked = true
is_staked _ = false

-- after so many settled rounds a stake is refused
abbrev pub most_rounds : ℕ
most_rounds = 1000000

abbrev pub state_of : Phase → State
state_of Armed = state.Armed
state_of (Staked row) = state.Staked
state_of Rung = state.Rung

-- the staked row of a table with so many classes; there is none unless the monitor is staked
abbrev pub row_in : Phase → ℕ → List ℕ
row_in (Staked staked) classes = take classes (factors_in staked.row)
row_in _ classes = []
