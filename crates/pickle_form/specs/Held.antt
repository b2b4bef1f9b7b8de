-- The stack, the marks and the memo, of whose objects only the role is kept: what picklers do with such an object.
-- Source: Modules/_pickle.c, `Unpickler` (one stack, and an array of the places of marks), `batch_list`, `batch_list_exact`, `batch_dict`,
-- `batch_dict_exact`, `save_set`; Lib/pickle.py, class `_Pickler`: `save_reduce`, `save_global`, `save_tuple`, `save_list`, `save_dict`,
-- `save_set`, `_batch_appends`, `_batch_setitems`, `memoize`, `save_picklebuffer`; cloudpickle before 1.3, `save_function_tuple`.
use Rattle.std.specs.Prelude.{ℕ, ◌+◌, ◌-◌, ◌*◌, ◌%◌, ◌==◌, ◌&&◌, ◌||◌, not, nat_lt, nat_le, if◌then◌else◌, Bool, true, false, List, [], ◌∷◌, ◌++◌, length, take, get_or, slice_get, Option, Some, None}
use Rattle.std.specs.Option.{option_map_or, unwrap_or}
use Rattle.pickle_ops.specs.declared.opcode.Opcode.{Opcode}
use Rattle.pickle_ops.specs.declared.opcode.Opcode.TheVariants as op
use Rattle.pickle_ops.specs.declared.form.Form.TheVariants as form
use Rattle.pickle_ops.specs.declared.row.Row.{Row}
use Rattle.pickle_ops.specs.declared.row.Row.TheVariants as row
use Rattle.pickle_ops.specs.declared.row.Taking.{Taking}
use Rattle.pickle_ops.specs.declared.row.Taking.TheVariants as taking
use Rattle.pickle_ops.specs.declared.row.Cutting.{Cutting}
use Rattle.pickle_ops.specs.declared.row.Cutting.TheVariants as cutting
use Rattle.pickle_ops.specs.declared.row.Filling.{Filling}
use Rattle.pickle_ops.specs.declared.row.Filling.TheVariants as filling
use Rattle.pickle_ops.specs.Argument.{payload}
use Rattle.pickle_ops.specs.Row.{count_of, values_of}
use Rattle.pickle_form.specs.declared.reason.Reason.{Reason}
use Rattle.pickle_form.specs.declared.reason.Reason.TheVariants as reason
use Rattle.pickle_form.specs.declared.role.Role.{Role}
use Rattle.pickle_form.specs.declared.role.Role.TheVariants as role
use Rattle.pickle_form.specs.Name.{is_name}
use Rattle.pickle_form.specs.Spelled.{unless}
use Rattle.pickle_form.specs.Run.{is_reduce}

-- ---- roles

abbrev pub text_role : List ℕ → Role
text_role text = if is_name text then role.Name else role.Text

-- the role of what an opcode makes
abbrev pub role_of : Opcode → List ℕ → Role
role_of op.None arg = role.Null
role_of op.ShortBinUnicode arg = text_role (payload form.Bytes1 arg)
role_of op.BinUnicode arg = text_role (payload form.Bytes4 arg)
role_of op.EmptyTuple arg = role.Tuple
role_of op.Tuple arg = role.Tuple
role_of op.Tuple1 arg = role.Tuple
role_of op.Tuple2 arg = role.Tuple
role_of op.Tuple3 arg = role.Tuple
role_of op.EmptyList arg = role.List
role_of op.List arg = role.List
role_of op.EmptyDict arg = role.Dict
role_of op.Dict arg = role.Dict
role_of op.EmptySet arg = role.Set
role_of op.NextBuffer arg = role.Buffer
role_of op.Global arg = role.Import
role_of op.StackGlobal arg = role.Import
role_of op.Ext1 arg = role.Import
role_of op.Ext2 arg = role.Import
role_of op.Ext4 arg = role.Import
role_of op.Reduce arg = role.Made
role_of op.NewObj arg = role.Made
role_of op.NewObjEx arg = role.Made
role_of op.Inst arg = role.Instance
role_of op.Obj arg = role.Instance
role_of op.PersId arg = role.Outside
role_of op.BinPersId arg = role.Outside
role_of _ arg = role.Value

abbrev pub is_name_role : Role → Bool
is_name_role role.Name = true
is_name_role _ = false

abbrev pub is_buffer : Role → Bool
is_buffer role.Buffer = true
is_buffer _ = false

abbrev pub is_dict : Role → Bool
is_dict role.Dict = true
is_dict role.MoreDict = true
is_dict role.FilledDict = true
is_dict _ = false

abbrev pub is_there : Role → Bool
is_there role.Absent = false
is_there _ = true

-- what is called: an import, what a call made, or what comes from outside
abbrev pub is_callable : Role → Bool
is_callable role.Import = true
is_callable role.Made = true
is_callable role.Instance = true
is_callable role.Outside = true
is_callable _ = false

-- arguments are a tuple, or an object of a class of tuples
abbrev pub is_arguments : Role → Bool
is_arguments role.Tuple = true
is_arguments role.Two = true
is_arguments role.Made = true
is_arguments role.Instance = true
is_arguments _ = false

-- what gets items or a state: what a call made, and each container its own items
abbrev pub is_target : Filling → Role → Bool
is_target f role.Made = true
is_target f role.Instance = true
is_target filling.Append role.List = true
is_target filling.Append role.MoreList = true
is_target filling.SetItem role.Dict = true
is_target filling.SetItem role.MoreDict = true
is_target filling.Add role.Set = true
is_target filling.Add role.MoreSet = true
is_target _ _ = false

-- ---- sizes. Protocol 2 is left out: torch's pickler in C++ gives a list all its items at once, whatever their number, a tuple of any size a
-- mark, and an object any state

abbrev pub is_sized : ℕ → Bool
is_sized protocol = nat_lt 0 protocol && not (protocol == 2)

abbrev pub is_null : Role → Bool
is_null role.Null = true
is_null _ = false

abbrev pub is_instance : Role → Bool
is_instance role.Instance = true
is_instance _ = false

abbrev pub is_two : Role → Bool
is_two role.Two = true
is_two _ = false

abbrev pub is_tuple : Role → Bool
is_tuple role.Tuple = true
is_tuple _ = false

abbrev pub is_list : Role → Bool
is_list role.List = true
is_list _ = false

-- from protocol 3 on fewer than four objects have a tuple opcode without a mark, but cloudpickle before 1.3 marks two arguments of a call
-- that follows at once; in protocol 1 only nothing has
abbrev pub has_right_size : ℕ → ℕ → Role → Bool
has_right_size protocol n r = not (is_tuple r) || not (is_sized protocol) || nat_le 4 n || n == 2 || (nat_lt protocol 3 && nat_lt 0 n)

-- the role of a tuple of n objects
abbrev pub cut_role : ℕ → ℕ → Role → Role
cut_role protocol n r = if is_tuple r && nat_le 3 protocol && n == 2 then role.Two else r

-- the least number of items that go in at once, where one alone has an opcode of its own. In C a full batch has one behind it as well, which
-- for dictionaries and sets may be empty
abbrev pub least_of : Role → ℕ
least_of role.MoreList = 1
least_of role.MoreDict = 0
least_of role.Set = 1
least_of role.MoreSet = 0
least_of _ = 2

-- a batch has at most 1,000 items, of so many objects each
abbrev pub is_batch : ℕ → ℕ → ℕ → Role → Bool
is_batch protocol n objects r = not (is_sized protocol) || (nat_le (least_of r * objects) n && nat_le n (1000 * objects))

-- what items went into gets no more of them, but behind a full batch
abbrev pub filled_role : Bool → Role → Role
filled_role full role.List = if full then role.MoreList else role.Value
filled_role full role.MoreList = if full then role.MoreList else role.Value
filled_role full role.Dict = if full then role.MoreDict else role.FilledDict
filled_role full role.MoreDict = if full then role.MoreDict else role.FilledDict
filled_role full role.Set = if full then role.MoreSet else role.Value
filled_role full role.MoreSet = if full then role.MoreSet else role.Value
filled_role full r = r

-- ---- the state

-- the objects from the bottom, how many are below each open mark, those in the memo by key, and whether a key was left out
pub record Held : Type 0 where
  pub cells : List Role
  pub marks : List ℕ
  pub memo : List Role
  pub skipped : Bool

abbrev pub nothing_held : Held
nothing_held = record { cells = []; marks = []; memo = []; skipped = false }

-- how many objects are below the topmost mark, and how many above
abbrev pub below : Held → ℕ
below h = get_or h.marks (length h.marks - 1) 0

abbrev pub above : Held → ℕ
above h = length h.cells - below h

-- how many are between the topmost mark and the one under it
abbrev pub between : Held → ℕ
between h = below h - (if nat_lt (length h.marks) 2 then 0 else get_or h.marks (length h.marks - 2) 0)

-- the object under this many others, and the one right under the topmost mark
abbrev pub deep : ℕ → Held → Option Role
deep i h = slice_get h.cells (length h.cells - 1 - i)

abbrev pub under : Held → Option Role
under h = slice_get h.cells (below h - 1)

-- the top, where there is one
abbrev pub top : Held → Role
top h = unwrap_or (deep 0 h) role.Value

abbrev pub at_key : ℕ → Held → Option Role
at_key key h = slice_get h.memo key

-- ---- what picklers do not do

abbrev pub is_so : (Role → Bool) → Option Role → Bool
is_so test r = option_map_or test r false

abbrev pub if_mark : Held → Option Reason → Option Reason
if_mark h rest = if nat_lt 0 (length h.marks) then rest else Some reason.NoMark

abbrev pub if_deep : ℕ → ℕ → Option Reason → Option Reason
if_deep n have rest = if nat_le n have then rest else Some reason.TooFew

abbrev pub if_so : (Role → Bool) → Option Role → Reason → Option Reason → Option Reason
if_so test r why rest = if is_so test r then rest else Some why

-- a function, and its arguments under this many others
abbrev pub other_call : ℕ → Held → Option Reason → Option Reason
other_call i h rest = if_so is_callable (deep (i + 1) h) reason.NotCallable (if_so is_arguments (deep i h) reason.NotArguments rest)

abbrev pub other_taking : Taking → Held → Option Reason
other_taking taking.One h = None
other_taking taking.Two h = None
other_taking taking.Three h = None
other_taking taking.Names h = if_so is_name_role (deep 0 h) reason.Name (if_so is_name_role (deep 1 h) reason.Name None)
other_taking taking.Call h = other_call 0 h None
other_taking taking.CallWith h = other_call 1 h (if_so is_dict (deep 0 h) reason.NotArguments None)

abbrev pub if_even : ℕ → Option Reason → Option Reason
if_even n rest = if n % 2 == 0 then rest else Some reason.OddItems

-- LIST and DICT make empty ones, which get their items later
abbrev pub other_begun : Held → Option Reason
other_begun h = unless (above h == 0) reason.BatchSize

abbrev pub other_cutting : ℕ → Role → Cutting → Held → Option Reason
other_cutting protocol r cutting.Any h = if is_list r then other_begun h else unless (has_right_size protocol (above h) r) reason.TupleSize
other_cutting protocol r cutting.Pairs h = other_begun h
other_cutting protocol r cutting.Callable h = if_deep 1 (above h) (if_so is_callable (slice_get h.cells (below h)) reason.NotCallable None)

abbrev pub if_paired : Filling → ℕ → Option Reason → Option Reason
if_paired filling.SetItem n rest = if_even n rest
if_paired _ n rest = rest

-- keys come one after another from 0 on. In protocols 0 to 2 one may be left out: Python 2's pickler in C begins with 1, the other
-- keeps a list of its own in the memo
abbrev pub is_next_key : ℕ → ℕ → Held → Bool
is_next_key key protocol h = key == length h.memo || (key == length h.memo + 1 && nat_le protocol 2 && not h.skipped)

-- items for the object under the topmost mark
abbrev pub other_batch : ℕ → Filling → Held → Option Reason
other_batch protocol f h = unless (is_batch protocol (above h) (values_of f) (unwrap_or (under h) role.Value)) reason.BatchSize

-- a state is not None, but where Python 2 asks an instance of an old class for it
abbrev pub is_state : Filling → Bool
is_state filling.Build = true
is_state _ = false

abbrev pub other_state : ℕ → Filling → Held → Option Reason
other_state protocol f h =
    unless (not (is_state f) || protocol == 2 || not (is_null (top h)) || is_so is_instance (deep (values_of f) h)) reason.NoState

-- a marked tuple of two is called with at once
abbrev pub other_behind_two : Opcode → Held → Option Reason
other_behind_two o h = unless (not (is_two (top h)) || is_reduce o) reason.TupleSize

-- what no pickler does in this state; `protocol` is the least that the pickle may be of, and r the role of what is made
abbrev pub other_row : ℕ → Row → Role → Held → Option Reason
other_row protocol row.Nothing r h = None
other_row protocol (row.Protocol n) r h = None
other_row protocol (row.Extension n) r h = None
other_row protocol row.Push r h = None
other_row protocol row.Buffer r h = None
other_row protocol row.ReadOnly r h = if_deep 1 (above h) (if_so is_buffer (deep 0 h) reason.NotBuffer None)
other_row protocol (row.Take t) r h = if_deep (count_of t) (above h) (other_taking t h)
other_row protocol (row.Cut c) r h = if_mark h (other_cutting protocol r c h)
other_row protocol (row.Change f) r h =
    if_deep (values_of f + 1) (above h) (if_so (is_target f) (deep (values_of f) h) reason.WrongTarget (other_state protocol f h))
other_row protocol (row.CutChange f) r h =
    if_mark h (if_deep 1 (between h) (if_paired f (above h) (if_so (is_target f) (under h) reason.WrongTarget (other_batch protocol f h))))
-- in protocol 0 a mark is dropped by POP
other_row protocol row.Pop r h = if nat_lt 0 (above h) then None else unless (nat_lt 0 (length h.marks) && protocol == 0) reason.TooFew
other_row protocol row.PopMark r h = if_mark h None
other_row protocol row.Dup r h = None
other_row protocol row.Mark r h = None
other_row protocol (row.Get key) r h = unless (is_so is_there (at_key key h)) reason.NoKey
other_row protocol (row.Put key) r h = if_deep 1 (above h) (unless (is_next_key key protocol h) reason.KeyOrder)
other_row protocol row.Memoize r h = if_deep 1 (above h) None
other_row protocol row.Stop r h = unless (length h.cells == 1 && length h.marks == 0) reason.LeftOver

-- ---- what becomes of the state

-- the last n objects go
abbrev pub without : ℕ → Held → Held
without n h = record h { cells = take (length h.cells - n) h.cells }

-- the topmost mark goes, and what is above it
abbrev pub cut : Held → Held
cut h = record h { cells = take (below h) h.cells; marks = take (length h.marks - 1) h.marks }

abbrev pub push : Role → Held → Held
push r h = record h { cells = h.cells ++ r ∷ [] }

-- the memo keeps the top under the next key, or under the one behind that
abbrev pub keep : ℕ → Held → Held
keep key h =
    if key == length h.memo then record h { memo = h.memo ++ top h ∷ [] }
    else record h { memo = h.memo ++ role.Absent ∷ top h ∷ []; skipped = true }

-- the top has got items
abbrev pub fill : ℕ → Bool → Held → Held
fill protocol full h = if is_sized protocol then push (filled_role full (top h)) (without 1 h) else h

-- the state after a row; r is the role of what is made
abbrev pub next : ℕ → Row → Role → Held → Held
next protocol row.Nothing r h = h
next protocol (row.Protocol n) r h = h
next protocol (row.Extension n) r h = push r h
next protocol row.Push r h = push r h
next protocol row.Buffer r h = push r h
next protocol row.ReadOnly r h = push r (without 1 h)
next protocol (row.Take t) r h = push r (without (count_of t) h)
next protocol (row.Cut c) r h = push (cut_role protocol (above h) r) (cut h)
next protocol (row.Change f) r h = fill protocol false (without (values_of f) h)
next protocol (row.CutChange f) r h = fill protocol (above h == 1000 * values_of f) (cut h)
next protocol row.Pop r h = if nat_lt 0 (above h) then without 1 h else cut h
next protocol row.PopMark r h = cut h
next protocol row.Dup r h = h
next protocol row.Mark r h = record h { marks = h.marks ++ length h.cells ∷ [] }
next protocol (row.Get key) r h = push (unwrap_or (at_key key h) role.Value) h
next protocol (row.Put key) r h = keep key h
next protocol row.Memoize r h = keep (length h.memo) h
next protocol row.Stop r h = without 1 h
