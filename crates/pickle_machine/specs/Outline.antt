-- The outline of a state: what its moves and refusals read. Of an object it has the class, as a kind that stands for it;
-- it has no payload, no part, no change, no count of buffers, no results and no stack that was left behind.
use Rattle.std.specs.Prelude.{◌≡◌, ℕ, [], map}
use Rattle.pickle_ops.specs.declared.kind.Kind.{Kind}
use Rattle.pickle_ops.specs.declared.kind.Kind.TheVariants as kind
use Rattle.pickle_ops.specs.declared.row.Row.{Row}
use Rattle.pickle_ops.specs.declared.class.Class.{Class}
use Rattle.pickle_ops.specs.declared.class.Class.TheVariants as class
use Rattle.pickle_ops.specs.Object.{Object}
use Rattle.pickle_ops.specs.Kind.{class_of}
use Rattle.pickle_machine.specs.State.{State}
use Rattle.pickle_machine.specs.Move.{refusal_of, next_of, fresh}

-- the kind that stands for a class
abbrev pub sample : Class → Kind
sample class.Plain = kind.None
sample class.Opaque = kind.Call
sample class.Text = kind.Text []
sample class.Tuple = kind.Tuple
sample class.List = kind.List
sample class.Dict = kind.Dict
sample class.Set = kind.Set
sample class.ReadOnly = kind.ReadOnly
sample class.ByteArray = kind.ByteArray []

-- one kind for all kinds of a class
abbrev pub plain : Kind → Kind
plain k = sample (class_of k)

-- an object of a class, and no more
abbrev pub sample_object : Class → Object
sample_object c = record { kind = sample c; parts = []; changes = [] }

abbrev pub bared : Object → Object
bared o = sample_object (class_of o.kind)

-- the outline of a state is a state of its own
abbrev pub outline : State → State
outline s = record s { heap = map bared s.heap; buffers = 0; results = []; left = [] }

-- ---- laws

-- the refusal of a row depends on the outline alone
abbrev pub RefusalsReadOutlines : Type 0
RefusalsReadOutlines = (r : Row) (s : State) → refusal_of r (outline s) ≡ refusal_of r s

-- the outline of the next state follows from the outline, and of the kind that is made only what can be asked of it
abbrev pub MovesReadOutlines : Type 0
MovesReadOutlines = (r : Row) (k : Kind) (place : ℕ) (s : State) → outline (next_of r (plain k) place (outline s)) ≡ outline (next_of r k place s)

-- so does the outline of the state on which the next move is taken
abbrev pub FreshReadsOutlines : Type 0
FreshReadsOutlines = (s : State) → outline (fresh (outline s)) ≡ outline (fresh s)
