-- What loaders take that the machine refuses: the same moves, by rows that ask for less.
-- Source: Lib/pickle.py, class `_Unpickler` (`load_reduce`, `load_newobj`, `load_newobj_ex`: func(*args) of whatever can be iterated;
-- `get_extension`: a code that copyreg's cache or registry holds is taken before it is asked whether it is above 0;
-- `load_setitems`: the pairs are set one by one, before the odd item is missed; `load_inst`: the class is found before the mark is;
-- `load_readonly_buffer`), Modules/_pickle.c (`load_readonly_buffer`: what is read only already stays on the stack as it is, so that a
-- view may be the thing itself, called and filled, and with keys; a string of Python 2 is bytes where `encoding` is "bytes"),
-- torch/_weights_only_unpickler.py (PROTO's number is not looked at).
use Rattle.std.specs.Prelude.{ℕ, ◌+◌, ◌/◌, ◌%◌, ◌==◌, ◌&&◌, ◌||◌, not, Bool, true, false, List, [], length, nat_lt, nat_le, slice_get, slice_index, if◌then◌else◌, Option, Some, None, Result}
use Rattle.std.specs.Option.{option_map_or}
use Rattle.pickle_ops.specs.declared.opcode.Opcode.{Opcode}
use Rattle.pickle_ops.specs.declared.opcode.Opcode.TheVariants as op
use Rattle.pickle_ops.specs.Spelling.{Operation}
use Rattle.pickle_ops.specs.declared.kind.Kind.{Kind}
use Rattle.pickle_ops.specs.declared.kind.Kind.TheVariants as kind
use Rattle.pickle_ops.specs.declared.class.Class.{Class}
use Rattle.pickle_ops.specs.declared.class.Class.TheVariants as class
use Rattle.pickle_ops.specs.declared.class.Demand.TheVariants as demand
use Rattle.pickle_ops.specs.declared.row.Row.{Row}
use Rattle.pickle_ops.specs.declared.row.Row.TheVariants as row
use Rattle.pickle_ops.specs.declared.row.Taking.TheVariants as taking
use Rattle.pickle_ops.specs.declared.row.Cutting.TheVariants as cutting
use Rattle.pickle_ops.specs.declared.row.Filling.{Filling}
use Rattle.pickle_ops.specs.declared.row.Filling.TheVariants as filling
use Rattle.pickle_ops.specs.Object.{Object}
use Rattle.pickle_ops.specs.Kind.{class_of, is_opaque}
use Rattle.pickle_ops.specs.Row.{values_of, kind_of}
use Rattle.pickle_machine.specs.declared.refusal.Refusal.{Refusal}
use Rattle.pickle_machine.specs.declared.refusal.Refusal.TheVariants as refusal
use Rattle.pickle_machine.specs.declared.loader.Fill.{Fill}
use Rattle.pickle_machine.specs.declared.loader.LoaderMove.{LoaderMove}
use Rattle.pickle_machine.specs.State.{State}
use Rattle.pickle_machine.specs.Move.{deep, under, object_meets, refusal_of, next_of, outcome, fresh}

-- ---- objects

-- an object that is there and passes the test
abbrev pub object_test : (Object → Bool) → List Object → ℕ → Bool
object_test test heap id = option_map_or test (slice_get heap id) false

-- it comes from elsewhere or from a call
abbrev pub opaque_at : List Object → ℕ → Bool
opaque_at heap id = object_test (λ (o : Object). is_opaque o.kind) heap id

-- it is a view of such an object: where that was read only, it is that object itself
abbrev pub views : List Object → Kind → List ℕ → Bool
views heap kind.ReadOnly parts = option_map_or (opaque_at heap) (slice_get parts 0) false
views heap _ parts = false

abbrev pub view_at : List Object → ℕ → Bool
view_at heap id = object_test (λ (o : Object). views heap o.kind o.parts) heap id

-- loaders may call it and put something into it
abbrev pub loose_at : List Object → ℕ → Bool
loose_at heap id = opaque_at heap id || view_at heap id

abbrev pub is_plain : Class → Bool
is_plain class.Plain = true
is_plain _ = false

-- it may be the arguments of a call, which are its elements
abbrev pub iterates : Kind → Bool
iterates kind.FrozenSet = true
iterates k = not (is_plain (class_of k))

abbrev pub iterates_at : List Object → ℕ → Bool
iterates_at heap id = object_test (λ (o : Object). iterates o.kind) heap id

-- ---- rows that ask for less

-- the arguments are below this many objects, and what is called below them
abbrev pub takes_call : ℕ → State → Bool
takes_call above s = nat_le (above + 2) (length s.top) && (loose_at s.heap (deep (above + 1) s.top) && iterates_at s.heap (deep above s.top))

-- it may be the keywords of a call: a dictionary, or a view of what may have keys
abbrev pub keyed_at : State → ℕ → Bool
keyed_at s id = object_meets demand.Keywords s id || view_at s.heap id

abbrev pub takes_call_with : State → Bool
takes_call_with s = takes_call 1 s && keyed_at s (deep 0 s.top)

abbrev pub takes_obj : State → Bool
takes_obj s = nat_lt 0 (length s.top) && loose_at s.heap (slice_index s.top 0)

-- a string of Python 2: where it becomes bytes it is read only already, and stays
abbrev pub is_string : Kind → Bool
is_string (kind.LegacyString bytes) = true
is_string (kind.LegacyLine bytes) = true
is_string _ = false

abbrev pub string_at : List Object → ℕ → Bool
string_at heap id = object_test (λ (o : Object). is_string o.kind) heap id

abbrev pub takes_string : State → Bool
takes_string s = nat_lt 0 (length s.top) && string_at s.heap (deep 0 s.top)

-- the row as which an opcode moves: the same move, and where loaders take more, fewer demands
abbrev pub asks_less : Row → State → Row
asks_less (row.Protocol n) s = row.Nothing
asks_less (row.Extension n) s = row.Push
asks_less row.ReadOnly s = if takes_string s then row.Nothing else row.ReadOnly
asks_less (row.Take taking.Call) s = if takes_call 0 s then row.Take taking.Two else row.Take taking.Call
asks_less (row.Take taking.CallWith) s = if takes_call_with s then row.Take taking.Three else row.Take taking.CallWith
asks_less (row.Cut cutting.Callable) s = if takes_obj s then row.Cut cutting.Any else row.Cut cutting.Callable
asks_less r s = r

-- ---- what is put into a view

-- how many items, pairs or members n objects are
abbrev pub parts_in : Filling → ℕ → ℕ
parts_in filling.SetItem n = n / 2
parts_in _ n = n

-- keys and values do not come in pairs
abbrev pub is_odd : Filling → ℕ → Bool
is_odd filling.SetItem n = not (n % 2 == 0)
is_odd _ n = false

-- BUILD asks for nothing, so that no loader takes more
abbrev pub fills : Filling → Bool
fills filling.Build = false
fills _ = true

-- n objects go into this one, as the machine refuses: into a view; or into any that may be filled, and the last has no partner
abbrev pub fills_more : Filling → ℕ → ℕ → List Object → Bool
fills_more f n target heap = fills f && (nat_lt 0 (parts_in f n) && (view_at heap target || (is_odd f n && opaque_at heap target)))

abbrev pub fill_when : Filling → ℕ → ℕ → List Object → Option Fill
fill_when f n target heap =
    if fills_more f n target heap
    then Some (record { filling = f; count = parts_in f n; target = target })
    else None

abbrev pub fill_of : Row → State → Option Fill
fill_of (row.Change f) s = if nat_lt (values_of f) (length s.top) then fill_when f (values_of f) (deep (values_of f) s.top) s.heap else None
fill_of (row.CutChange f) s =
    if nat_lt 0 (length s.marked) && nat_lt 0 (length (under s.marked)) then fill_when f (length s.top) (deep 0 (under s.marked)) s.heap else None
fill_of _ s = None

-- it takes these objects off the stack: the move of POP, of SETITEM twice, or of POP_MARK
abbrev pub drop_row : Row → Row
drop_row (row.Change f) = row.Pop
drop_row _ = row.PopMark

abbrev pub drops_two : Row → Bool
drops_two (row.Change filling.SetItem) = true
drops_two _ = false

-- after SETITEMS of an odd number the loader ends
abbrev pub ends_odd : Row → State → Option Refusal
ends_odd (row.CutChange f) s = if is_odd f (length s.top) then Some refusal.OddItems else None
ends_odd _ s = None

-- ---- the move

abbrev pub is_inst : Opcode → Bool
is_inst op.Inst = true
is_inst _ = false

-- INST without a mark imports as GLOBAL does, and then ends
abbrev pub import_move : LoaderMove
import_move = record { row = row.Push; again = false; fill = None; last = Some refusal.NoMark; imports = true }

abbrev pub fill_move : Option Fill → Row → State → LoaderMove
fill_move None r s = record { row = asks_less r s; again = false; fill = None; last = None; imports = false }
fill_move (Some f) r s = record { row = drop_row r; again = drops_two r; fill = Some f; last = ends_odd r s; imports = false }

-- on the state on which a move is taken
abbrev pub loader_move : Opcode → Row → State → LoaderMove
loader_move o r s = if is_inst o && (length s.marked == 0) then import_move else fill_move (fill_of r s) r s

-- a move as a row that need not be the operation's own: the kind of what is made is the operation's
abbrev pub move_as : Row → Operation → ℕ → State → Result State Refusal
move_as r o place s = outcome (refusal_of r (fresh s)) (next_of r (kind_of o) place (fresh s))

-- ---- one unpickler that loads again

-- after STOP the stack, the marks and the result begin anew; objects, memo and buffers stay
abbrev pub cleared : State → State
cleared s = record s { top = []; marked = []; results = []; stopped = false }
