-- How many objects there are before an item. This is no definition of the line.
use Rattle.std.specs.Prelude.{◌≡◌, ℕ, length, Some}
use Rattle.pickle_doc.specs.Document.{Contents}
use Rattle.pickle_machine.specs.State.{State}
use Rattle.pickle_session.specs.Session.{state_at}

-- the items before a place reach a state that has so many objects
abbrev pub HasObjects : Contents → ℕ → ℕ → Type 0
HasObjects d k n = (s : State) × (state_at d k ≡ Some s) × (n ≡ length s.heap)
