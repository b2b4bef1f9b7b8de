-- What an opcode may do to a loader that holds nothing from elsewhere: it reaches something; or each loader ends there; or a loader may go on.
-- Source: Lib/pickle.py, class `_Unpickler`: `load_global`, `load_inst` (its class is found before its mark is), `load_stack_global`, `load_ext1`,
-- `load_ext2`, `load_ext4`, `load_persid`, `load_binpersid`, `load_next_buffer`; `load_reduce`, `load_newobj`, `load_newobj_ex`, `load_obj`: no
-- literal and no container can be called; `load_int`, `load_long`, `load_float`.
use Rattle.std.specs.Prelude.{ℕ, not, Bool, true, false, List}
use Rattle.pickle_ops.specs.declared.opcode.Opcode.{Opcode}
use Rattle.pickle_ops.specs.declared.opcode.Opcode.TheVariants as op
use Rattle.pickle_ops.specs.declared.form.Form.TheVariants as form
use Rattle.pickle_ops.specs.Argument.{payload, first_text, second_text}
use Rattle.pickle_ops.specs.Spelling.{Operation}
use Rattle.pickle_reach.specs.declared.granted.Granted.{Granted}
use Rattle.pickle_reach.specs.Names.{lines_import, text_names}
use Rattle.pickle_reach.specs.Numbers.{begins_integer, begins_float}

-- something is reached. A loader that holds no text which names something imports nothing by texts
abbrev pub opcode_reaches : Granted → Bool → Opcode → List ℕ → Bool
opcode_reaches g named op.Global arg = lines_import (first_text arg) (second_text arg)
opcode_reaches g named op.Inst arg = lines_import (first_text arg) (second_text arg)
opcode_reaches g named op.StackGlobal arg = named
opcode_reaches g named op.Ext1 arg = g.extensions
opcode_reaches g named op.Ext2 arg = g.extensions
opcode_reaches g named op.Ext4 arg = g.extensions
opcode_reaches g named op.PersId arg = g.persistent
opcode_reaches g named op.BinPersId arg = g.persistent
opcode_reaches g named op.NextBuffer arg = g.buffers
opcode_reaches g named _ arg = false

-- no number is in this line: each loader raises before it does anything
abbrev pub is_unread : Opcode → List ℕ → Bool
is_unread op.Int arg = not (begins_integer (payload form.Line arg))
is_unread op.Long arg = not (begins_integer (payload form.Line arg))
is_unread op.Float arg = not (begins_float (payload form.Line arg))
is_unread _ arg = false

-- each loader ends here, if nothing is reached
abbrev pub opcode_ends : Opcode → List ℕ → Bool
opcode_ends op.Global arg = true
opcode_ends op.Inst arg = true
opcode_ends op.StackGlobal arg = true
opcode_ends op.Ext1 arg = true
opcode_ends op.Ext2 arg = true
opcode_ends op.Ext4 arg = true
opcode_ends op.PersId arg = true
opcode_ends op.BinPersId arg = true
opcode_ends op.NextBuffer arg = true
opcode_ends op.Reduce arg = true
opcode_ends op.NewObj arg = true
opcode_ends op.NewObjEx arg = true
opcode_ends op.Obj arg = true
opcode_ends o arg = is_unread o arg

-- a text is made that may name a module, or what is in one
abbrev pub opcode_names : Opcode → List ℕ → Bool
opcode_names op.String arg = true
opcode_names op.BinString arg = text_names (payload form.String4 arg)
opcode_names op.ShortBinString arg = text_names (payload form.Bytes1 arg)
opcode_names op.Unicode arg = text_names (payload form.Line arg)
opcode_names op.BinUnicode arg = text_names (payload form.Bytes4 arg)
opcode_names op.ShortBinUnicode arg = text_names (payload form.Bytes1 arg)
opcode_names op.BinUnicode8 arg = text_names (payload form.Bytes8 arg)
opcode_names _ arg = false

-- ---- of an operation

unfoldable pub reaches : Granted → Bool → Operation → Bool
reaches g named o = opcode_reaches g named o.opcode o.arg

unfoldable pub ends : Operation → Bool
ends o = opcode_ends o.opcode o.arg

unfoldable pub names : Operation → Bool
names o = opcode_names o.opcode o.arg
