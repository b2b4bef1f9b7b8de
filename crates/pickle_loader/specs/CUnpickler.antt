-- The unpickler in C: what each opcode makes it do, on one stack with marks and a fence.
-- Source: Modules/_pickle.c (CPython 3.11): a definition for each function `load_..`, in the order in which `load` has them, with `do_append`,
-- `do_setitems`, `instantiate` and `marker`. Where it asks for a type of what comes from elsewhere the environment may raise besides, as at
-- any opcode before it does anything.
use Rattle.std.specs.Prelude.{ℕ, ℤ, pos, int_lt, ◌+◌, ◌-◌, ◌%◌, ◌==◌, ◌&&◌, Bool, true, false, List, [], ◌∷◌, ◌++◌, length, take, nat_le, if◌then◌else◌, Option, Some, None}
use Rattle.std.specs.Map.{lookup}
use Rattle.std.specs.Ordering.{nat_cmp}
use Rattle.std.specs.BTreeMap.{insert_entry, is_at}
use Rattle.pickle_ops.specs.declared.opcode.Opcode.{Opcode}
use Rattle.pickle_ops.specs.declared.opcode.Opcode.TheVariants as op
use Rattle.pickle_ops.specs.declared.form.Form.TheVariants as form
use Rattle.pickle_ops.specs.declared.kind.Kind.{Kind}
use Rattle.pickle_ops.specs.declared.kind.Kind.TheVariants as kind
use Rattle.pickle_ops.specs.declared.row.Filling.{Filling}
use Rattle.pickle_ops.specs.declared.row.Filling.TheVariants as filling
use Rattle.pickle_ops.specs.Shape.{is_quoted}
use Rattle.pickle_ops.specs.Argument.{number_of, integer_of, payload, first_text, second_text}
use Rattle.pickle_lenient.specs.Key.{key_of}
use Rattle.pickle_loader.specs.Environment.{PyType, PyTuple, PyList, PyDict, PySet, PyFrozenSet, PyByteArray, PyMemoryView, PyOther, Value, Plain, Own, Foreign, is_elsewhere, Line, Given, Act, Make, Find, Extension, Call, New, NewEx, Instance, SetState, Fill, Persist, NextBuffer, View, Method, Reply, Raises, Answers, Unpickler, World}
use Rattle.pickle_loader.specs.Unpickler.{item, is_str, has_memory}
use Rattle.pickle_loader.specs.Dispatch.{literal_of}
use Rattle.pickle_loader.specs.FlatStack.{Flat, Popped, flat_push, flat_pop, flat_top, flat_mark, flat_cut, flat_load_pop, above, between}

-- ---- the unpickler

-- self->stack with the marks; self->memo, by rising key; self->proto; how many of the buffers were taken; what was done
pub record CUnpickler : Type 0 where
  pub stack : Flat
  pub memo : List (ℕ × Value)
  pub proto : ℕ
  pub buffers : ℕ
  pub acts : List Act

-- a function answered 0, or the loading ended with a value, or it raised after these acts
pub data CStep : Type 0 where
  CRan : (after : CUnpickler) → CStep
  CStopped : (value : Value) (after : CUnpickler) → CStep
  CRaised : (acts : List Act) → CStep

-- ---- parts of functions

abbrev pub acted : Act → CUnpickler → CUnpickler
acted a c = record c { acts = c.acts ++ a ∷ [] }

-- PDATA_PUSH
abbrev pub push : Value → CUnpickler → CUnpickler
push v c = record c { stack = flat_push v c.stack }

abbrev pub answered : Reply → Act → CUnpickler → (Value → CUnpickler → CStep) → CStep
answered Raises a c go = CRaised (c.acts ++ a ∷ [])
answered (Answers t) a c go = go (Foreign t (length c.acts)) (acted a c)

abbrev pub ask : World → Act → CUnpickler → (Value → CUnpickler → CStep) → CStep
ask w a c go = answered (w.reply c.acts a) a c go

abbrev pub get : World → Act → CUnpickler → CStep
get w a c = ask w a c (λ v q. CRan (push v q))

abbrev pub tell : World → Act → CUnpickler → CStep
tell w a c = ask w a c (λ v q. CRan q)

abbrev pub make : PyType → List Value → CUnpickler → CStep
make t items c = CRan (push (Own t (length c.acts)) (acted (Make t items) c))

-- Pdata_stack_underflow, or "could not find MARK"
abbrev pub popped : Option Popped → CUnpickler → (List Value → CUnpickler → CStep) → CStep
popped None c go = CRaised c.acts
popped (Some p) c go = go p.items (record c { stack = p.rest })

abbrev pub pop : ℕ → CUnpickler → (List Value → CUnpickler → CStep) → CStep
pop n c go = popped (flat_pop n c.stack) c go

abbrev pub cut : CUnpickler → (List Value → CUnpickler → CStep) → CStep
cut c go = popped (flat_cut c.stack) c go

abbrev pub looked : Option Value → CUnpickler → (Value → CStep) → CStep
looked None c go = CRaised c.acts
looked (Some v) c go = go v

abbrev pub on_top : CUnpickler → (Value → CStep) → CStep
on_top c go = looked (flat_top c.stack) c go

-- a check, before anything is done
abbrev pub only_if : Bool → CUnpickler → CStep → CStep
only_if good c step = if good then step else CRaised c.acts

-- PyTuple_Check: a tuple, or of a class under it
abbrev pub is_tuple : Value → Bool
is_tuple (Own PyTuple n) = true
is_tuple (Foreign PyTuple n) = true
is_tuple (Foreign PyOther n) = true
is_tuple _ = false

-- PyDict_Check
abbrev pub is_dict : World → List Act → Value → Bool
is_dict w acts (Own PyDict n) = true
is_dict w acts (Foreign PyDict n) = w.mapping acts (Foreign PyDict n)
is_dict w acts (Foreign PyOther n) = w.mapping acts (Foreign PyOther n)
is_dict w acts _ = false

-- what is called comes from elsewhere, and its arguments are a tuple
abbrev pub are_call : List Value → Bool
are_call vs = is_elsewhere (item 0 vs) && is_tuple (item 1 vs)

abbrev pub are_call_with : World → List Act → List Value → Bool
are_call_with w acts vs = are_call vs && is_dict w acts (item 2 vs)

abbrev pub are_pairs : List Value → Bool
are_pairs items = length items % 2 == 0

-- ---- functions

abbrev pub load_proto : ℕ → CUnpickler → CStep
load_proto proto c = if nat_le proto 5 then CRan (record c { proto = proto }) else CRaised c.acts

-- the bytes of a frame are read elsewhere
abbrev pub load_frame : CUnpickler → CStep
load_frame c = CRan c

abbrev pub load_persid : World → List ℕ → CUnpickler → CStep
load_persid w line c = get w (Persist (Line line)) c

abbrev pub load_binpersid : World → CUnpickler → CStep
load_binpersid w c = pop 1 c (λ vs q. get w (Persist (Given (item 0 vs))) q)

-- load_none, load_bool, load_int, load_long, load_float, load_string, load_unicode ..
abbrev pub load_literal : Kind → CUnpickler → CStep
load_literal k c = CRan (push (Plain k) c)

abbrev pub load_string : List ℕ → CUnpickler → CStep
load_string line c = if is_quoted line then load_literal (kind.LegacyLine line) c else CRaised c.acts

abbrev pub load_counted_bytearray : List ℕ → CUnpickler → CStep
load_counted_bytearray bytes c = make PyByteArray (Plain (kind.Bytes bytes) ∷ []) c

abbrev pub load_next_buffer : World → CUnpickler → CStep
load_next_buffer w c = get w (NextBuffer c.buffers) (record c { buffers = c.buffers + 1 })

-- PyMemoryView_FromObject(buf); self->stack->data[len - 1] = view where it is not read only already
abbrev pub replaced : Bool → ℕ → CUnpickler → CStep
replaced true n c = CRan c
replaced false n c = CRan (record c { stack = record c.stack { cells = take (length c.stack.cells - 1) c.stack.cells ++ Own PyMemoryView n ∷ [] } })

abbrev pub viewed_own : PyType → CUnpickler → CStep
viewed_own PyByteArray c = replaced false (length c.acts) (acted (Make PyMemoryView []) c)
viewed_own PyMemoryView c = CRan c
viewed_own _ c = CRaised c.acts

abbrev pub viewed_plain : World → Kind → CUnpickler → CStep
viewed_plain w (kind.Bytes bytes) c = CRan c
viewed_plain w (kind.LegacyString bytes) c = only_if w.strings_are_bytes c (CRan c)
viewed_plain w (kind.LegacyLine bytes) c = only_if w.strings_are_bytes c (CRan c)
viewed_plain w _ c = CRaised c.acts

abbrev pub viewed : World → Value → CUnpickler → CStep
viewed w (Plain k) c = viewed_plain w k c
viewed w (Own t n) c = viewed_own t c
viewed w (Foreign t n) c = if has_memory t then ask w (View (Foreign t n)) c (λ v q. replaced (w.readonly c.acts (Foreign t n)) (length c.acts) q) else CRaised c.acts

abbrev pub load_readonly_buffer : World → CUnpickler → CStep
load_readonly_buffer w c = on_top c (λ v. viewed w v c)

abbrev pub load_tuple : CUnpickler → CStep
load_tuple c = cut c (λ items q. make PyTuple items q)

-- load_empty_list, load_empty_dict, load_empty_set, load_counted_tuple(0)
abbrev pub load_empty : PyType → CUnpickler → CStep
load_empty t c = make t [] c

abbrev pub load_counted_tuple : ℕ → CUnpickler → CStep
load_counted_tuple n c = pop n c (λ items q. make PyTuple items q)

abbrev pub load_frozenset : World → CUnpickler → CStep
load_frozenset w c = cut c (λ items q. ask w Method q (λ v r. make PyFrozenSet items r))

abbrev pub load_list : CUnpickler → CStep
load_list c = cut c (λ items q. make PyList items q)

-- "odd number of items for DICT"
abbrev pub load_dict : World → CUnpickler → CStep
load_dict w c = cut c (λ items q. only_if (are_pairs items) q (ask w Method q (λ v r. make PyDict items r)))

-- the mark is found before the class is
abbrev pub load_inst : World → List ℕ → List ℕ → CUnpickler → CStep
load_inst w first second c = cut c (λ items q. ask w (Find q.proto (Line first) (Line second)) q (λ found p. get w (Instance None items) p))

abbrev pub instantiated : World → List Value → CUnpickler → CStep
instantiated w [] c = CRaised c.acts
instantiated w (cls ∷ args) c = get w (Instance (Some cls) args) c

abbrev pub load_obj : World → CUnpickler → CStep
load_obj w c = cut c (λ items q. only_if (is_elsewhere (item 0 items)) q (instantiated w items q))

-- load_newobj(0), load_newobj(1)
abbrev pub load_newobj : World → CUnpickler → CStep
load_newobj w c = pop 2 c (λ vs q. only_if (are_call vs) q (get w (New (item 0 vs) (item 1 vs)) q))

abbrev pub load_newobj_ex : World → CUnpickler → CStep
load_newobj_ex w c = pop 3 c (λ vs q. only_if (are_call_with w c.acts vs) q (get w (NewEx (item 0 vs) (item 1 vs) (item 2 vs)) q))

abbrev pub load_global : World → List ℕ → List ℕ → CUnpickler → CStep
load_global w first second c = get w (Find c.proto (Line first) (Line second)) c

abbrev pub load_stack_global : World → CUnpickler → CStep
load_stack_global w c =
    pop 2 c (λ vs q. only_if (is_str w (item 1 vs)) q (only_if (is_str w (item 0 vs)) q (get w (Find q.proto (Given (item 0 vs)) (Given (item 1 vs))) q)))

-- "EXT specifies code <= 0"
abbrev pub load_extension : World → ℤ → CUnpickler → CStep
load_extension w code c = only_if (int_lt (pos 0) code) c (get w (Extension code) c)

-- PyObject_CallObject asks for a tuple
abbrev pub load_reduce : World → CUnpickler → CStep
load_reduce w c = pop 2 c (λ vs q. only_if (are_call vs) q (get w (Call (item 0 vs) (item 1 vs)) q))

abbrev pub load_pop_mark : World → CUnpickler → CStep
load_pop_mark w c = cut c (λ items q. tell w Method q)

abbrev pub dropped : World → Option Flat → CUnpickler → CStep
dropped w None c = CRaised c.acts
dropped w (Some f) c = tell w Method (record c { stack = f })

abbrev pub load_pop : World → CUnpickler → CStep
load_pop w c = dropped w (flat_load_pop c.stack) c

abbrev pub load_dup : CUnpickler → CStep
load_dup c = on_top c (λ v. CRan (push v c))

abbrev pub got : Option Value → CUnpickler → CStep
got None c = CRaised c.acts
got (Some v) c = CRan (push v c)

-- PyLong_FromString of a line: it raises where that is no key
abbrev pub with_key : Option ℕ → CUnpickler → (ℕ → CStep) → CStep
with_key None c go = CRaised c.acts
with_key (Some key) c go = go key

abbrev pub load_get : ℕ → CUnpickler → CStep
load_get key c = got (lookup (is_at (nat_cmp key)) c.memo) c

abbrev pub load_put : World → ℕ → CUnpickler → CStep
load_put w key c = on_top c (λ v. tell w Method (record c { memo = insert_entry nat_cmp c.memo key v }))

abbrev pub load_memoize : World → CUnpickler → CStep
load_memoize w c = load_put w (length c.memo) c

abbrev pub put_in : Filling → Value → List Value → CUnpickler → CStep
put_in how target items c = CRan (acted (Fill how target items) c)

abbrev pub put_by : World → Filling → Value → List Value → CUnpickler → CStep
put_by w how target items c = ask w Method c (λ v q. put_in how target items q)

abbrev pub fill_own : World → Filling → PyType → Value → List Value → CUnpickler → CStep
fill_own w filling.Append PyList target items c = put_in filling.Append target items c
fill_own w filling.Append PyByteArray target items c = put_by w filling.Append target items c
fill_own w filling.SetItem PyDict target items c = put_by w filling.SetItem target items c
fill_own w filling.SetItem PyList target items c = put_by w filling.SetItem target items c
fill_own w filling.SetItem PyByteArray target items c = put_by w filling.SetItem target items c
fill_own w filling.Add PySet target items c = put_by w filling.Add target items c
fill_own w how t target items c = CRaised c.acts

abbrev pub fill : World → Filling → Value → List Value → CUnpickler → CStep
fill w how (Plain k) items c = CRaised c.acts
fill w how (Own t n) items c = fill_own w how t (Own t n) items c
fill w how (Foreign t n) items c = tell w (Fill how (Foreign t n) items) c

-- "nothing to do"
abbrev pub fills : World → Filling → Value → List Value → CUnpickler → CStep
fills w how target [] c = CRan c
fills w how target (v ∷ vs) c = fill w how target (v ∷ vs) c

abbrev pub load_append : World → CUnpickler → CStep
load_append w c = pop 1 c (λ vs q. on_top q (λ target. fills w filling.Append target vs q))

abbrev pub load_appends : World → CUnpickler → CStep
load_appends w c = cut c (λ items q. on_top q (λ target. fills w filling.Append target items q))

abbrev pub load_setitem : World → CUnpickler → CStep
load_setitem w c = pop 2 c (λ vs q. on_top q (λ target. fills w filling.SetItem target vs q))

-- "odd number of items for SETITEMS"
abbrev pub load_setitems : World → CUnpickler → CStep
load_setitems w c = cut c (λ items q. only_if (are_pairs items) q (on_top q (λ target. fills w filling.SetItem target items q)))

abbrev pub load_additems : World → CUnpickler → CStep
load_additems w c = cut c (λ items q. on_top q (λ target. fills w filling.Add target items q))

abbrev pub load_build : World → CUnpickler → CStep
load_build w c = pop 1 c (λ vs q. on_top q (λ target. tell w (SetState target (item 0 vs)) q))

abbrev pub load_mark : CUnpickler → CStep
load_mark c = CRan (record c { stack = flat_mark c.stack })

abbrev pub load_stop : CUnpickler → CStep
load_stop c = pop 1 c (λ vs q. CStopped (item 0 vs) q)

-- ---- load

-- those that push a value come last: the same as the methods in Python
abbrev pub dispatch : World → Opcode → List ℕ → CUnpickler → CStep
dispatch w op.Proto arg c = load_proto (number_of form.Uint1 arg) c
dispatch w op.Frame arg c = load_frame c
dispatch w op.PersId arg c = load_persid w (payload form.Line arg) c
dispatch w op.BinPersId arg c = load_binpersid w c
dispatch w op.String arg c = load_string (payload form.Quoted arg) c
dispatch w op.ByteArray8 arg c = load_counted_bytearray (payload form.Bytes8 arg) c
dispatch w op.NextBuffer arg c = load_next_buffer w c
dispatch w op.ReadOnlyBuffer arg c = load_readonly_buffer w c
dispatch w op.Tuple arg c = load_tuple c
dispatch w op.EmptyTuple arg c = load_empty PyTuple c
dispatch w op.Tuple1 arg c = load_counted_tuple 1 c
dispatch w op.Tuple2 arg c = load_counted_tuple 2 c
dispatch w op.Tuple3 arg c = load_counted_tuple 3 c
dispatch w op.EmptyList arg c = load_empty PyList c
dispatch w op.EmptyDict arg c = load_empty PyDict c
dispatch w op.EmptySet arg c = load_empty PySet c
dispatch w op.FrozenSet arg c = load_frozenset w c
dispatch w op.List arg c = load_list c
dispatch w op.Dict arg c = load_dict w c
dispatch w op.Inst arg c = load_inst w (first_text arg) (second_text arg) c
dispatch w op.Obj arg c = load_obj w c
dispatch w op.NewObj arg c = load_newobj w c
dispatch w op.NewObjEx arg c = load_newobj_ex w c
dispatch w op.Global arg c = load_global w (first_text arg) (second_text arg) c
dispatch w op.StackGlobal arg c = load_stack_global w c
dispatch w op.Ext1 arg c = load_extension w (integer_of form.Uint1 arg) c
dispatch w op.Ext2 arg c = load_extension w (integer_of form.Uint2 arg) c
dispatch w op.Ext4 arg c = load_extension w (integer_of form.Int4 arg) c
dispatch w op.Reduce arg c = load_reduce w c
dispatch w op.Pop arg c = load_pop w c
dispatch w op.PopMark arg c = load_pop_mark w c
dispatch w op.Dup arg c = load_dup c
dispatch w op.Get arg c = with_key (key_of (payload form.Decimal arg)) c (λ key. load_get key c)
dispatch w op.BinGet arg c = load_get (number_of form.Uint1 arg) c
dispatch w op.LongBinGet arg c = load_get (number_of form.Uint4 arg) c
dispatch w op.Put arg c = with_key (key_of (payload form.Decimal arg)) c (λ key. load_put w key c)
dispatch w op.BinPut arg c = load_put w (number_of form.Uint1 arg) c
dispatch w op.LongBinPut arg c = load_put w (number_of form.Uint4 arg) c
dispatch w op.Memoize arg c = load_memoize w c
dispatch w op.Append arg c = load_append w c
dispatch w op.Appends arg c = load_appends w c
dispatch w op.SetItem arg c = load_setitem w c
dispatch w op.SetItems arg c = load_setitems w c
dispatch w op.AddItems arg c = load_additems w c
dispatch w op.Build arg c = load_build w c
dispatch w op.Mark arg c = load_mark c
dispatch w op.Stop arg c = load_stop c
dispatch w o arg c = load_literal (literal_of o arg) c

-- what it holds, as a stack and a metastack
abbrev pub seen : CUnpickler → Unpickler
seen c = record { stack = above c.stack; metastack = between c.stack.cells c.stack.marks; memo = c.memo; proto = c.proto; buffers = c.buffers; acts = c.acts }
