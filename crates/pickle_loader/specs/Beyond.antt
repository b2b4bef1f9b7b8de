-- One step of CPython's unpickler beside a machine that moves by rows that ask for less.
-- Source: own.
use Rattle.std.specs.Prelude.{◌≡◌, ℕ, ◌-◌, ◌<◌, Bool, true, false, List, ◌++◌, length, Option, None, Some, Result, Ok, Err, ⊤}
use Rattle.pickle_ops.specs.Spelling.{Operation}
use Rattle.pickle_ops.specs.Shape.{text_of, value_fault}
use Rattle.pickle_ops.specs.Argument.{number_of}
use Rattle.pickle_ops.specs.declared.form.Form.TheVariants as form
use Rattle.pickle_lenient.specs.Key.{key_of}
use Rattle.pickle_ops.specs.Table.{form_of}
use Rattle.pickle_ops.specs.declared.row.Row.{Row}
use Rattle.pickle_ops.specs.declared.row.Row.TheVariants as row
use Rattle.pickle_ops.specs.Row.{row_of, values_of}
use Rattle.pickle_machine.specs.declared.refusal.Refusal.{Refusal}
use Rattle.pickle_machine.specs.declared.refusal.Refusal.TheVariants as refusal
use Rattle.pickle_machine.specs.declared.loader.Fill.{Fill}
use Rattle.pickle_machine.specs.State.{State}
use Rattle.pickle_machine.specs.Move.{refusal_of, without, cut}
use Rattle.pickle_machine.specs.Loader.{asks_less, fill_of, ends_odd, is_inst, loader_move, move_as}
use Rattle.pickle_machine.specs.declared.loader.LoaderMove.{LoaderMove}
use Rattle.pickle_calls.specs.declared.event.Event.TheVariants as event
use Rattle.pickle_calls.specs.Event.{before_of, event_of}
use Rattle.pickle_further.specs.Going.{used_op, moved_so, event_by}
use Rattle.pickle_loader.specs.Environment.{Value, Act, Unpickler, World}
use Rattle.pickle_loader.specs.Unpickler.{Step, Ran, Stopped, Raised, item}
use Rattle.pickle_loader.specs.Dispatch.{int_key, load_op}
use Rattle.pickle_loader.specs.Listed.{listed_of, acts_listed, protocol_after}
use Rattle.pickle_loader.specs.Laws.{IsSame, IsResult}
use Rattle.pickle_loader.specs.Whole.{IsWhole}

-- its argument passes the checks of its value, as each of a document does
abbrev pub HasValue : Operation → Type 0
HasValue o = value_fault (form_of o.opcode) o.arg ≡ None

-- a key of decimal digits, as documents have them, is that number to both unpicklers
abbrev pub KeysAgree : Type 0
KeysAgree = (arg : List ℕ) → value_fault form.Decimal arg ≡ None
    → (int_key (text_of arg) ≡ Some (number_of form.Decimal arg)) × (key_of (text_of arg) ≡ Some (number_of form.Decimal arg))

-- the row as which a loader moves
abbrev pub less_of : Operation → State → Row
less_of o s = asks_less (row_of o) s

-- what a step comes to: it holds what the state holds, by this protocol, and these of its acts are listed; it ended with the state's
-- result, as STOP does, and they are; or it raised, and a beginning of them is
abbrev pub StepFollows : World → (ℕ → Value) → List Act → ℕ → State → Step → Type 0
StepFollows w V acts proto t (Ran q) = IsSame w V t q × (listed_of q.acts ≡ acts) × (q.proto ≡ proto)
StepFollows w V acts proto t (Stopped v q) = IsSame w V t q × (listed_of q.acts ≡ acts) × IsResult V t v × (t.stopped ≡ t.many)
StepFollows w V acts proto t (Raised done) = (rest : List Act) × (listed_of done ++ rest ≡ acts)

-- for an object that is made the map has the value on top
abbrev pub MapsNew : (ℕ → Value) → State → State → Step → Type 0
MapsNew V s t (Ran q) = length s.heap < length t.heap → V (length s.heap) ≡ item (length q.stack - 1) q.stack
MapsNew V s t (Stopped v q) = ⊤
MapsNew V s t (Raised done) = ⊤

-- ---- the law

-- in every environment, for each opcode: where a loader moves as the row that asks for less, the unpickler that holds what the state holds
-- does exactly what the event of that move tells, or raises and did a beginning of it
abbrev pub WideMovesAreFollowed : Type 0
WideMovesAreFollowed = (w : World) (V : ℕ → Value) (s t : State) (u : Unpickler) (o : Operation) (place : ℕ) → HasValue o → s.stopped ≡ false
    → IsSame w V s u → move_as (less_of o s) o place s ≡ Ok t
    → MapsNew V s t (load_op w o u)
    → StepFollows w V (listed_of u.acts ++ acts_listed V u.proto s t (event_of (less_of o s) (before_of s) t))
    (protocol_after o.opcode o.arg u.proto) t (load_op w o u)

-- ---- what is missing

-- something is missing: an object, a mark, an entry of the memo
abbrev pub is_missing : Refusal → Bool
is_missing refusal.Underflow = true
is_missing refusal.NoMark = true
is_missing (refusal.NoMemoEntry key) = true
is_missing _ = false

-- in every environment, for each opcode but INST: where even the row that asks for less lacks something, the unpickler raises and did
-- nothing. INST finds its class before it misses the mark
abbrev pub WhatIsMissingRaises : Type 0
WhatIsMissingRaises = (w : World) (V : ℕ → Value) (s : State) (u : Unpickler) (o : Operation) (r : Refusal) → HasValue o → IsSame w V s u
    → is_inst o.opcode ≡ false
    → refusal_of (less_of o s) s ≡ Some r → is_missing r ≡ true → load_op w o u ≡ Raised u.acts

-- ---- what is put into a view

-- the state without the objects that go in
abbrev pub dropped : Row → State → State
dropped (row.Change f) s = without (values_of f) s
dropped (row.CutChange f) s = cut s
dropped _ s = s

-- in every environment: where a loader puts objects into a view, as the machine refuses, and none is left without a partner, the unpickler
-- does exactly what the event of that tells, or raises and did a beginning of it
abbrev pub FillsAreFollowed : Type 0
FillsAreFollowed = (w : World) (V : ℕ → Value) (s : State) (u : Unpickler) (o : Operation) (f : Fill) → IsSame w V s u → fill_of (row_of o) s ≡ Some f
    → ends_odd (row_of o) s ≡ None
    → MapsNew V s (dropped (row_of o) s) (load_op w o u)
    → StepFollows w V (listed_of u.acts ++ acts_listed V u.proto s (dropped (row_of o) s) (Some (event.Filled f.filling f.count f.target)))
    u.proto (dropped (row_of o) s) (load_op w o u)

-- ---- a step beyond

-- it raises, and no more than these acts are listed; or no more than a beginning of them
abbrev pub RaisesAt : List Act → Step → Type 0
RaisesAt acts (Ran q) = ⊥
RaisesAt acts (Stopped v q) = ⊥
RaisesAt acts (Raised done) = listed_of done ≡ acts

abbrev pub RaisesIn : List Act → Step → Type 0
RaisesIn acts (Ran q) = ⊥
RaisesIn acts (Stopped v q) = ⊥
RaisesIn acts (Raised done) = (rest : List Act) × (listed_of done ++ rest ≡ acts)

-- by whether the loader ends after this move
abbrev pub Moves : World → (ℕ → Value) → List Act → ℕ → State → State → Step → Option Refusal → Type 0
Moves w V acts proto s t x None = MapsNew V s t x → StepFollows w V acts proto t x
Moves w V acts proto s t x (Some r) = RaisesIn acts x

-- by what the move comes to: it is refused, or leads to a state, where the event tells its acts
abbrev pub Comes : World → (ℕ → Value) → State → Unpickler → LoaderMove → ℕ → Step → Result State Refusal → Type 0
Comes w V s u m proto x (Err r) = RaisesAt (listed_of u.acts) x
Comes w V s u m proto x (Ok t) = IsWhole t × Moves w V (listed_of u.acts ++ acts_listed V u.proto s t (event_by m s t m.fill)) proto s t x m.last

-- in every environment, for each opcode and each state in which all is there: where a loader does not move, the
-- unpickler that holds what the state holds raises at this opcode and does nothing that is listed; where it moves, the unpickler does exactly what the
-- event of that move tells, or raises and did a beginning of it; and where the loader ends after the move it raises
abbrev pub AStepBeyond : Type 0
AStepBeyond = (w : World) (V : ℕ → Value) (s : State) (u : Unpickler) (o : Operation) (place : ℕ) → HasValue o → IsWhole s → s.stopped ≡ false → IsSame w V s u
    → Comes w V s u (loader_move o.opcode (row_of o) s) (protocol_after o.opcode o.arg u.proto) (load_op w o u)
    (moved_so (loader_move o.opcode (row_of o) s) (used_op (loader_move o.opcode (row_of o) s) o) place s)
