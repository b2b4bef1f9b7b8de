-- The acts that the lines of `calls` list: those of an item's event, with the operands under a map from numbers of objects to values.
-- Source: own.
use Rattle.std.specs.Prelude.{ℕ, zero, suc, ◌+◌, Bool, true, false, List, [], ◌∷◌, ◌++◌, map, take, drop, nat_lt, slice_get, if◌then◌else◌, Option, Some, None}
use Rattle.std.specs.Option.{option_map_or}
use Rattle.pickle_ops.specs.declared.opcode.Opcode.{Opcode}
use Rattle.pickle_ops.specs.declared.opcode.Opcode.TheVariants as op
use Rattle.pickle_ops.specs.declared.form.Form.TheVariants as form
use Rattle.pickle_ops.specs.declared.kind.Kind.{Kind}
use Rattle.pickle_ops.specs.declared.kind.Kind.TheVariants as kind
use Rattle.pickle_ops.specs.declared.row.Filling.{Filling}
use Rattle.pickle_ops.specs.declared.row.Filling.TheVariants as filling
use Rattle.pickle_ops.specs.Argument.{number_of}
use Rattle.pickle_ops.specs.Spelling.{Operation}
use Rattle.pickle_ops.specs.Object.{Object}
use Rattle.pickle_ops.specs.Row.{row_of}
use Rattle.pickle_machine.specs.State.{State, start, stack_of, stack_size}
use Rattle.pickle_machine.specs.Move.{fresh}
use Rattle.pickle_machine.specs.Run.{run}
use Rattle.pickle_calls.specs.declared.event.Event.{Event}
use Rattle.pickle_calls.specs.declared.event.Event.TheVariants as event
use Rattle.pickle_calls.specs.Event.{before_of, event_of}
use Rattle.pickle_loader.specs.Environment.{Value, is_elsewhere, Line, Given, Act, Make, Find, Extension, Call, New, NewEx, Instance, SetState, Fill, Persist, NextBuffer, View, Method}
use Rattle.pickle_loader.specs.Unpickler.{item}

-- ---- which acts are listed

-- all but what the unpickler makes and fills itself, methods that run unseen, and views
abbrev pub is_listed : Act → Bool
is_listed (Make t items) = false
is_listed (Fill how target items) = is_elsewhere target
is_listed (View v) = false
is_listed Method = false
is_listed _ = true

abbrev pub listed_of : List Act → List Act
listed_of [] = []
listed_of (a ∷ acts) = if is_listed a then a ∷ listed_of acts else listed_of acts

-- ---- the acts of an event

-- the protocol that the last PROTO of the same pickle said, or 0
abbrev pub protocol_after : Opcode → List ℕ → ℕ → ℕ
protocol_after op.Proto arg before = number_of form.Uint1 arg
protocol_after op.Stop arg before = 0
protocol_after _ arg before = before

abbrev pub protocol_next : Option Operation → ℕ → ℕ
protocol_next None before = before
protocol_next (Some o) before = protocol_after o.opcode o.arg before

unfoldable pub protocol_at : List Operation → ℕ → ℕ
protocol_at ops zero = 0
protocol_at ops (suc n) = protocol_next (slice_get ops n) (protocol_at ops n)

-- the acts that make an object: by its kind, and the values of its parts
abbrev pub making : ℕ → Kind → List Value → List Act
making proto (kind.Global names) vs = Find proto (Line names.first) (Line names.second) ∷ []
making proto kind.StackGlobal vs = Find proto (Given (item 0 vs)) (Given (item 1 vs)) ∷ []
making proto (kind.Ext n) vs = Extension n ∷ []
making proto (kind.Inst names) vs = Find proto (Line names.first) (Line names.second) ∷ Instance None vs ∷ []
making proto kind.Call vs = Call (item 0 vs) (item 1 vs) ∷ []
making proto kind.New vs = New (item 0 vs) (item 1 vs) ∷ []
making proto kind.NewEx vs = NewEx (item 0 vs) (item 1 vs) (item 2 vs) ∷ []
making proto kind.Obj vs = Instance (Some (item 0 vs)) (drop 1 vs) ∷ []
making proto (kind.PersistentLine line) vs = Persist (Line line) ∷ []
making proto kind.Persistent vs = Persist (Given (item 0 vs)) ∷ []
making proto (kind.Buffer n) vs = NextBuffer n ∷ []
making proto _ vs = []

-- the objects that a step took off the stack
abbrev pub taken : State → State → List ℕ
taken s t = drop (stack_size t) (stack_of s)

-- how many objects n items, pairs or members are
abbrev pub objects_in : Filling → ℕ → ℕ
objects_in filling.SetItem n = n + n
objects_in _ n = n

-- from the state before the step, as its move is taken on it, to the one after it; where nothing is put in there is a line, and methods
-- run unseen. A key without a value is not put in
abbrev pub acts_listed : (ℕ → Value) → ℕ → State → State → Option Event → List Act
acts_listed V proto s t None = []
acts_listed V proto s t (Some (event.Made id)) = option_map_or (λ (o : Object). making proto o.kind (map V o.parts)) (slice_get t.heap id) []
acts_listed V proto s t (Some (event.State value target)) = SetState (V target) (V value) ∷ []
acts_listed V proto s t (Some (event.Filled how n target)) = if nat_lt 0 n then Fill how (V target) (map V (take (objects_in how n) (taken s t))) ∷ [] else []

-- ---- the acts of items

abbrev pub listed_on : (ℕ → Value) → ℕ → Option Operation → Option State → Option State → List Act
listed_on V proto (Some o) (Some s) (Some t) = acts_listed V proto (fresh s) t (event_of (row_of o) (before_of (fresh s)) t)
listed_on V proto (Some o) (Some s) None = []
listed_on V proto (Some o) None t = []
listed_on V proto None s t = []

-- those of item k, by the event that its line is of
unfoldable pub listed_at : (ℕ → Value) → Bool → List Operation → ℕ → List Act
listed_at V many ops k = listed_on V (protocol_at ops k) (slice_get ops k) (run (start many) ops k) (run (start many) ops (suc k))

-- those of the first n items
unfoldable pub listed : (ℕ → Value) → Bool → List Operation → ℕ → List Act
listed V many ops zero = []
listed V many ops (suc n) = listed V many ops n ++ listed_at V many ops n
