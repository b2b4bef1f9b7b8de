-- What the opcodes come to besides their objects: the protocols, the frames, and what the last opcode was.
-- Source: Lib/pickle.py, class `_Framer` (`commit_frame`, `write_large_bytes`; from 3.7 on fewer than four bytes get no frame), class
-- `_Pickler`: `dump`, `memoize`, `save_tuple`, `save_frozenset`, `save_reduce` (where objects are dropped); `pickletools.optimize`; PEP 3154
-- (PROTO, frames), PEP 574 (protocol 5).
use Rattle.std.specs.Prelude.{ℕ, ◌+◌, ◌-◌, ◌==◌, ◌&&◌, ◌||◌, not, nat_lt, nat_le, if◌then◌else◌, max, min, Bool, true, false, Option}
use Rattle.pickle_ops.specs.declared.opcode.Opcode.{Opcode}
use Rattle.pickle_ops.specs.declared.opcode.Opcode.TheVariants as op
use Rattle.pickle_ops.specs.declared.form.Form.TheVariants as form
use Rattle.pickle_ops.specs.Table.{protocol_of}
use Rattle.pickle_ops.specs.Argument.{number_of}
use Rattle.pickle_ops.specs.Spelling.{Operation, size_of}
use Rattle.pickle_form.specs.declared.reason.Reason.{Reason}
use Rattle.pickle_form.specs.declared.reason.Reason.TheVariants as reason
use Rattle.pickle_form.specs.Spelled.{or_else, unless, last_protocol}

-- what the opcodes before a place come to: the first protocol that the pickle may be of, and the last one; whether there is an opcode; how many
-- bytes of a frame are left, and how many have no frame, since the last frame or large opcode; whether the last opcode made what picklers keep
-- in the memo, filled an object, or left one that may be dropped; whether something was dropped that is to come back from the memo; and whether
-- the last opcode, or the last but one, was a TUPLE2 below protocol 2
pub record Run : Type 0 where
  pub first : ℕ
  pub last : ℕ
  pub begun : Bool
  pub left : ℕ
  pub loose : ℕ
  pub fresh : Bool
  pub filled : Bool
  pub called : Bool
  pub dropping : Bool
  pub pair : Bool
  pub sets : Bool

-- ---- kinds of opcodes

abbrev pub is_proto : Opcode → Bool
is_proto op.Proto = true
is_proto _ = false

abbrev pub is_frame : Opcode → Bool
is_frame op.Frame = true
is_frame _ = false

abbrev pub is_stop : Opcode → Bool
is_stop op.Stop = true
is_stop _ = false

abbrev pub is_reduce : Opcode → Bool
is_reduce op.Reduce = true
is_reduce _ = false

abbrev pub is_pop : Opcode → Bool
is_pop op.Pop = true
is_pop _ = false

abbrev pub is_pair : Opcode → Bool
is_pair op.Tuple2 = true
is_pair _ = false

-- what leaves an object that picklers drop: a call that sets a state, and dill's filling of a dictionary
abbrev pub leaves_a_rest : Opcode → Bool
leaves_a_rest op.Reduce = true
leaves_a_rest op.SetItem = true
leaves_a_rest op.SetItems = true
leaves_a_rest _ = false

-- torch's pickler in C++, which writes protocol 2, keeps an object once it is filled
abbrev pub is_filled : Opcode → Bool
is_filled op.Build = true
is_filled op.Appends = true
is_filled op.SetItems = true
is_filled _ = false

abbrev pub is_drop : Opcode → Bool
is_drop op.Pop = true
is_drop op.PopMark = true
is_drop _ = false

abbrev pub is_put : Opcode → Bool
is_put op.Put = true
is_put op.BinPut = true
is_put op.LongBinPut = true
is_put op.Memoize = true
is_put _ = false

abbrev pub is_get : Opcode → Bool
is_get op.Get = true
is_get op.BinGet = true
is_get op.LongBinGet = true
is_get _ = false

-- what picklers keep in the memo once it is made: containers, texts, bytes, imports and what calls make, and not numbers, truth values, the
-- empty tuple, extensions and buffers. torch's pickler in C++ keeps what BINPERSID makes
abbrev pub is_kept : Opcode → Bool
is_kept op.String = true
is_kept op.BinString = true
is_kept op.ShortBinString = true
is_kept op.BinBytes = true
is_kept op.ShortBinBytes = true
is_kept op.BinBytes8 = true
is_kept op.ByteArray8 = true
is_kept op.Unicode = true
is_kept op.ShortBinUnicode = true
is_kept op.BinUnicode = true
is_kept op.BinUnicode8 = true
is_kept op.EmptyList = true
is_kept op.List = true
is_kept op.Tuple = true
is_kept op.Tuple1 = true
is_kept op.Tuple2 = true
is_kept op.Tuple3 = true
is_kept op.EmptyDict = true
is_kept op.Dict = true
is_kept op.EmptySet = true
is_kept op.FrozenSet = true
is_kept op.Global = true
is_kept op.StackGlobal = true
is_kept op.Reduce = true
is_kept op.NewObj = true
is_kept op.NewObjEx = true
is_kept op.Inst = true
is_kept op.Obj = true
is_kept op.BinPersId = true
is_kept _ = false

-- ---- the protocols

-- the first protocol in which picklers write an opcode: that of the table, but that before a call that sets a state TUPLE2 is in all
abbrev pub first_protocol : Opcode → ℕ
first_protocol o = if is_pair o then 0 else protocol_of o

-- without PROTO in front a pickle is of protocol 0 or 1
abbrev pub first_here : Operation → Run → ℕ
first_here o r = if is_proto o.opcode then number_of form.Uint1 o.arg else max r.first (first_protocol o.opcode)

abbrev pub last_here : Operation → Run → ℕ
last_here o r = if is_proto o.opcode then number_of form.Uint1 o.arg else min r.last (last_protocol o.opcode o.arg)

-- ---- frames

-- so much is written without a frame round it: the framer's target
abbrev pub is_large : ℕ → Bool
is_large size = nat_lt 65536 size

-- how many bytes of the frame are left behind an opcode
abbrev pub left_after : Operation → Run → ℕ
left_after o r = if is_frame o.opcode then number_of form.Uint8 o.arg else r.left - size_of o

-- how many bytes of opcodes stand without a frame between the frames and large opcodes around them
abbrev pub loose_after : Operation → Run → ℕ
loose_after o r =
    if is_frame o.opcode || is_proto o.opcode || is_large (size_of o) || nat_lt 0 r.left then 0
    else r.loose + size_of o

-- ---- the rules

-- fewer than four bytes have no frame; below protocol 4 there are none
abbrev pub other_frame : Operation → Run → Option Reason
other_frame o r =
    or_else (unless (nat_lt (first_here o r) 4 || nat_lt (loose_after o r) 4) reason.NoFrame)
    (unless (not (is_stop o.opcode) || nat_le r.left 1) reason.StopInFrame)

-- what was dropped comes back from the memo: a tuple that holds itself
abbrev pub other_drop : Operation → Run → Option Reason
other_drop o r = unless (not r.dropping || is_drop o.opcode || is_get o.opcode) reason.Dropped

abbrev pub other_proto : Operation → Run → Option Reason
other_proto o r = unless (not (is_proto o.opcode) || not r.begun) reason.SecondProtocol

abbrev pub other_protocol : Operation → Run → Option Reason
other_protocol o r = unless (nat_le (first_here o r) (last_here o r)) reason.OtherProtocol

-- below protocol 2 TUPLE2 holds the object and the state that a call sets, whose result is dropped
abbrev pub other_setter : Operation → Run → Option Reason
other_setter o r =
    or_else (unless (not r.pair || is_reduce o.opcode) reason.OtherProtocol) (unless (not r.sets || is_pop o.opcode) reason.OtherProtocol)

abbrev pub other_put : Operation → Run → Option Reason
other_put o r = unless (not (is_put o.opcode) || r.fresh || (r.filled && first_here o r == 2)) reason.NotMade

-- what is other in an opcode behind these
abbrev pub other_run : Operation → Run → Option Reason
other_run o r =
    or_else (other_proto o r) (or_else (other_protocol o r) (or_else (other_frame o r) (or_else (other_drop o r) (or_else (other_setter o r) (other_put o r)))))

-- ---- behind it

abbrev pub begin_run : Run
begin_run =
    record {
      first = 0;
      last = 1;
      begun = false;
      left = 0;
      loose = 0;
      fresh = false;
      filled = false;
      called = false;
      dropping = false;
      pair = false;
      sets = false;
    }

abbrev pub drops_after : Operation → Run → Bool
drops_after o r = is_drop o.opcode && (r.dropping || not r.called)

-- FRAME may stand anywhere, so that it leaves what the last opcode was
abbrev pub after_run : Operation → Run → Run
after_run o r =
    record {
      first = first_here o r;
      last = last_here o r;
      begun = true;
      left = left_after o r;
      loose = loose_after o r;
      fresh = if is_frame o.opcode then r.fresh else is_kept o.opcode;
      filled = if is_frame o.opcode then r.filled else is_filled o.opcode;
      called = if is_frame o.opcode then r.called else leaves_a_rest o.opcode;
      dropping = if is_frame o.opcode then r.dropping else drops_after o r;
      pair = is_pair o.opcode && nat_lt (last_here o r) 2;
      sets = r.pair;
    }
