-- What loaders take, beside what the machine accepts.
use Rattle.std.specs.Prelude.{◌≡◌, ℕ, false, None, Ok}
use Rattle.pickle_ops.specs.Spelling.{Operation}
use Rattle.pickle_ops.specs.declared.kind.Kind.{Kind}
use Rattle.pickle_ops.specs.declared.row.Row.{Row}
use Rattle.pickle_ops.specs.Row.{row_of}
use Rattle.pickle_machine.specs.declared.loader.LoaderMove.{LoaderMove}
use Rattle.pickle_machine.specs.State.{State}
use Rattle.pickle_machine.specs.Move.{refusal_of, next_of, fresh, move}
use Rattle.pickle_machine.specs.Loader.{asks_less, fill_of, loader_move, move_as}

-- the row that asks for less is accepted and moves in the same way, and nothing is put into what the machine would refuse
pub record IsTaken (r : Row) (k : Kind) (place : ℕ) (s : State) : Type 0 where
  pub accepted : refusal_of (asks_less r s) s ≡ None
  pub next : next_of (asks_less r s) k place s ≡ next_of r k place s
  pub fill : fill_of r s ≡ None

-- one move, as a row that asks for less
abbrev pub one_move : Row → LoaderMove
one_move r = record { row = r; again = false; fill = None; last = None; imports = false }

-- the same of an operation: it is one move, and a move that leads to the same state
pub record IsTakenMove (o : Operation) (place : ℕ) (s t : State) : Type 0 where
  pub one : loader_move o.opcode (row_of o) (fresh s) ≡ one_move (asks_less (row_of o) (fresh s))
  pub next : move_as (asks_less (row_of o) (fresh s)) o place s ≡ Ok t

-- ---- laws

-- loaders take every row that the machine accepts
abbrev pub LoadersTakeWhatIsAccepted : Type 0
LoadersTakeWhatIsAccepted = (r : Row) (k : Kind) (place : ℕ) (s : State) → refusal_of r s ≡ None → IsTaken r k place s

-- and so they take every move of the machine
abbrev pub LoadersTakeMoves : Type 0
LoadersTakeMoves = (o : Operation) (place : ℕ) (s t : State) → move o place s ≡ Ok t → IsTakenMove o place s t
