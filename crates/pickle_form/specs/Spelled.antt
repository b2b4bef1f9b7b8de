-- How picklers spell each opcode with its argument, and in which protocols they write it.
-- Source: Lib/pickle.py, class `_Pickler`: the methods `save_*`, `put`, `get`, `memoize`; Modules/_pickle.c; Python 2's pickle.py and
-- cPickle.c, which write protocols 0 to 2; dill, which writes GLOBAL in each protocol; torch's
-- csrc/jit/serialization/pickler.cpp, which writes protocol 2 and integers of eight bytes.
use Rattle.std.specs.Prelude.{ℕ, ◌-◌, ◌^◌, ◌==◌, ◌&&◌, ◌||◌, pos, int_lt, nat_lt, nat_le, if◌then◌else◌, Bool, true, List, length, get_or, Option, Some, None}
use Rattle.pickle_names.specs.declared.coding.Coding.TheVariants as coding
use Rattle.pickle_ops.specs.declared.opcode.Opcode.{Opcode}
use Rattle.pickle_ops.specs.declared.opcode.Opcode.TheVariants as op
use Rattle.pickle_ops.specs.declared.form.Form.TheVariants as form
use Rattle.pickle_ops.specs.Argument.{payload, number_of, signed_of, first_text, second_text}
use Rattle.pickle_form.specs.declared.reason.Reason.{Reason}
use Rattle.pickle_form.specs.declared.reason.Reason.TheVariants as reason
use Rattle.pickle_form.specs.Numeral.{is_natural, is_truth, is_int_line, is_long_line, is_float_line, unsigned}
use Rattle.pickle_form.specs.Escape.{is_raw_text, is_repr}
use Rattle.pickle_form.specs.Name.{is_name, is_text}

abbrev pub unless : Bool → Reason → Option Reason
unless good r = if good then None else Some r

abbrev pub or_else : Option Reason → Option Reason → Option Reason
or_else (Some r) x = Some r
or_else None x = x

-- ---- numbers in bytes

-- the last byte says more than the sign of the one before
abbrev pub is_shortest : List ℕ → Bool
is_shortest bytes =
    if length bytes == 0 then true
    else if get_or bytes (length bytes - 1) 0 == 0 then nat_le 128 (get_or bytes (length bytes - 2) 0) && nat_lt 1 (length bytes)
    else if get_or bytes (length bytes - 1) 0 == 255 then nat_lt (get_or bytes (length bytes - 2) 0) 128 || length bytes == 1
    else true

-- a number that is in no shorter form; torch's pickler in C++ gives each long number eight bytes
abbrev pub is_long1 : List ℕ → Bool
is_long1 bytes = is_shortest bytes || length bytes == 8

abbrev pub is_long4 : List ℕ → Bool
is_long4 bytes = nat_le 256 (length bytes) && is_shortest bytes

-- ---- the argument

-- a text in UTF-8 of at least so many bytes
abbrev pub other_text : ℕ → List ℕ → Option Reason
other_text least bytes = or_else (unless (nat_le least (length bytes)) reason.LongLength) (unless (is_text coding.AnyUtf8 bytes) reason.NotUtf8)

-- both names of an import
abbrev pub other_names : List ℕ → Option Reason
other_names arg = unless (is_name (first_text arg) && is_name (second_text arg)) reason.Name

-- why no pickler writes this argument, if none does
abbrev pub other_argument : Opcode → List ℕ → Option Reason
other_argument op.Int arg = unless (is_int_line (payload form.Line arg)) reason.NumberText
other_argument op.BinInt arg = unless (int_lt (signed_of arg) (pos 0) || int_lt (pos 65535) (signed_of arg)) reason.LongNumber
other_argument op.BinInt2 arg = unless (nat_lt 255 (number_of form.Uint2 arg)) reason.LongNumber
other_argument op.Long arg = unless (is_long_line (payload form.Line arg)) reason.NumberText
other_argument op.Long1 arg = unless (is_long1 (payload form.Bytes1 arg)) reason.LongNumber
other_argument op.Long4 arg = unless (is_long4 (payload form.String4 arg)) reason.LongNumber
other_argument op.String arg = unless (is_repr (payload form.Quoted arg)) reason.TextSpelling
other_argument op.BinString arg = unless (nat_le 256 (length (payload form.String4 arg))) reason.LongLength
other_argument op.BinBytes arg = unless (nat_le 256 (length (payload form.Bytes4 arg))) reason.LongLength
other_argument op.BinBytes8 arg = unless (nat_le (2 ^ 32) (length (payload form.Bytes8 arg))) reason.LongLength
other_argument op.Unicode arg = unless (is_raw_text (payload form.Line arg)) reason.TextSpelling
other_argument op.ShortBinUnicode arg = other_text 0 (payload form.Bytes1 arg)
other_argument op.BinUnicode arg = other_text 0 (payload form.Bytes4 arg)
other_argument op.BinUnicode8 arg = other_text (2 ^ 32) (payload form.Bytes8 arg)
other_argument op.Float arg = unless (is_float_line (payload form.Line arg)) reason.NumberText
other_argument op.Get arg = unless (is_natural (payload form.Decimal arg)) reason.NumberText
other_argument op.LongBinGet arg = unless (nat_lt 255 (number_of form.Uint4 arg)) reason.LongKey
other_argument op.Put arg = unless (is_natural (payload form.Decimal arg)) reason.NumberText
other_argument op.LongBinPut arg = unless (nat_lt 255 (number_of form.Uint4 arg)) reason.LongKey
other_argument op.Ext1 arg = unless (nat_lt 0 (number_of form.Uint1 arg)) reason.LongNumber
other_argument op.Ext2 arg = unless (nat_lt 255 (number_of form.Uint2 arg)) reason.LongNumber
other_argument op.Ext4 arg = unless (int_lt (pos 65535) (signed_of arg)) reason.LongNumber
other_argument op.Global arg = other_names arg
other_argument op.Inst arg = other_names arg
other_argument op.Proto arg = unless (nat_le 2 (number_of form.Uint1 arg) && nat_le (number_of form.Uint1 arg) 5) reason.Protocol
other_argument op.Frame arg = unless (nat_lt 0 (number_of form.Uint8 arg)) reason.EmptyFrame
other_argument op.PersId arg = unless (is_text coding.Ascii (payload form.Line arg)) reason.PersistentId
other_argument op.Dup arg = Some reason.NeverWritten
other_argument _ arg = None

-- ---- the protocols

-- in protocols 1 and 2 only Python 2 writes INT: truth values below 2, and what has more than 32 bits
abbrev pub last_of_int : List ℕ → ℕ
last_of_int text = if is_truth text then 1 else if nat_le 10 (length (unsigned text)) then 2 else 0

-- Python 3 gives up to 32 bits other opcodes, Python 2 only where the number is an `int`
abbrev pub last_of_long : List ℕ → ℕ
last_of_long bytes = if is_shortest bytes && nat_le 5 (length bytes) then 5 else 2

-- the last protocol in which a pickler writes this; the first is that of the table
abbrev pub last_protocol : Opcode → List ℕ → ℕ
last_protocol op.Int arg = last_of_int (payload form.Line arg)
last_protocol op.Long arg = 1
last_protocol op.Long1 arg = last_of_long (payload form.Bytes1 arg)
last_protocol op.String arg = 0
last_protocol op.BinString arg = 2
last_protocol op.ShortBinString arg = 2
last_protocol op.Unicode arg = 0
last_protocol op.BinUnicode arg = if nat_le 256 (length (payload form.Bytes4 arg)) then 5 else 3
last_protocol op.Float arg = 0
last_protocol op.List arg = 0
last_protocol op.Dict arg = 0
last_protocol op.Get arg = 0
last_protocol op.Put arg = 0
last_protocol op.BinPut arg = 3
last_protocol op.LongBinPut arg = 3
last_protocol op.Inst arg = 0
last_protocol op.Obj arg = 2
last_protocol op.PersId arg = 0
last_protocol _ arg = 5
