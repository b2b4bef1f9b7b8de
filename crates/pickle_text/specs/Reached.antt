-- How far operations go.
use Rattle.std.specs.Prelude.{ℕ, zero, suc, List, if◌then◌else◌, is_some}
use Rattle.pickle_ops.specs.Spelling.{Operation}
use Rattle.pickle_machine.specs.State.{State}
use Rattle.pickle_machine.specs.Run.{run}

-- the greatest place up to n whose state is reached
unfoldable pub reached : State → List Operation → ℕ → ℕ
reached from ops zero = 0
reached from ops (suc n) = if is_some (run from ops (suc n)) then suc n else reached from ops n
