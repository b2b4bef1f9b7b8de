-- What holds of every tale.
-- Source: own.
use Rattle.std.specs.Prelude.{◌≡◌, ℕ, suc, ◌+◌, List, ◌++◌, Option, Some, None}
use Rattle.pickle_ops.specs.Spelling.{Operation}
use Rattle.pickle_ops.specs.Row.{row_of}
use Rattle.pickle_doc.specs.Document.{Contents}
use Rattle.pickle_doc.specs.Place.{ops_of, item_at, offset_of}
use Rattle.pickle_io.specs.Holes.{in_file}
use Rattle.pickle_machine.specs.State.{State, start}
use Rattle.pickle_machine.specs.Move.{fresh}
use Rattle.pickle_machine.specs.Run.{run}
use Rattle.pickle_calls.specs.declared.event.Event.{Event}
use Rattle.pickle_calls.specs.Event.{before_of}
use Rattle.pickle_calls.specs.Manner.{Manner}
use Rattle.pickle_calls.specs.Telling.{Telling}
use Rattle.pickle_calls.specs.Calls.{naming_at, counted_in, entry_in}
use Rattle.pickle_source.specs.declared.act.Act.{Act}
use Rattle.pickle_source.specs.declared.act.What.{What}
use Rattle.pickle_source.specs.declared.act.What.TheVariants as what
use Rattle.pickle_source.specs.Act.{what_of, first_of}
use Rattle.pickle_source.specs.Tale.{protocol_at, act_at, acts_at}

-- what reaches out of the pickle
abbrev pub reach_of : Option What → Option Event
reach_of (Some (what.Reached e)) = Some e
reach_of (Some (what.Made id)) = None
reach_of (Some (what.Filled id count)) = None
reach_of (Some (what.Result id)) = None
reach_of None = None

-- An item adds one act at most, at its offset; and the imports and calls have for it the line of what the act reaches, however they are
-- told, or none where it reaches nothing.
pub record AddsAct (f : Telling) (how : Manner) (d : Contents) (k first : ℕ) (t : State) (w : Option What) : Type 0 where
  pub acts : acts_at d (suc k) ≡ act_at (offset_of d k) (protocol_at d k) first (acts_at d k) w
  pub line : entry_in f how d k ≡ counted_in f (in_file how.holes (offset_of d k)) (naming_at how.detail d k) t.heap (reach_of w)

-- each item that has a move does so: what reaches out of the pickle is what the imports and calls tell, in their order and of the same objects
abbrev pub ReachesAreCalls : Type 0
ReachesAreCalls =
    (f : Telling) (how : Manner) (d : Contents) (k : ℕ) (o : Operation) (s t : State) → item_at d k ≡ Some o → run (start d.many) (ops_of d) k ≡ Some s
    → run (start d.many) (ops_of d) (suc k) ≡ Some t → AddsAct f how d k (first_of (row_of o) (before_of (fresh s)) t) t (what_of (row_of o) (before_of (fresh s)) t)

-- what the first items do comes first
abbrev pub ActsComeFirst : Type 0
ActsComeFirst = (d : Contents) (k n : ℕ) → (rest : List Act) × (acts_at d (k + n) ≡ acts_at d k ++ rest)
