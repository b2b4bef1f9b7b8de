-- What was done stays done: each step only adds acts behind those before it.
use Rattle.std.proofs.Common.{◌≡◌, ℕ, ◌+◌, ◌-◌, Bool, true, false, cond, List, [], ◌∷◌, ◌++◌, length, take, drop, Option, Some, None, sym, ap, ◌∙◌}
use Rattle.std.specs.Prelude.{nat_le, nat_lt, ◌==◌, ◌%◌, if◌then◌else◌}
use Rattle.std.proofs.lemmas.List.{append-nil, append_assoc}
use Rattle.std.specs.Map.{lookup}
use Rattle.std.specs.Ordering.{nat_cmp}
use Rattle.std.specs.BTreeMap.{insert_entry, is_at}
use Rattle.pickle_ops.specs.declared.opcode.Opcode.{Opcode}
use Rattle.pickle_ops.specs.declared.opcode.Opcode.TheVariants as op
use Rattle.pickle_ops.specs.declared.form.Form.TheVariants as form
use Rattle.pickle_ops.specs.declared.kind.Kind.{Kind}
use Rattle.pickle_ops.specs.declared.kind.Kind.TheVariants as kind
use Rattle.pickle_ops.specs.declared.row.Filling.{Filling}
use Rattle.pickle_ops.specs.declared.row.Filling.TheVariants as filling
use Rattle.pickle_ops.specs.Shape.{is_quoted}
use Rattle.pickle_ops.specs.Argument.{number_of, integer_of, payload, first_text, second_text}
use Rattle.pickle_ops.specs.Spelling.{Operation}
use Rattle.pickle_loader.specs.Environment.{PyType, PyTuple, PyList, PyDict, PySet, PyFrozenSet, PyByteArray, PyMemoryView, Value, Plain, Own, Foreign, is_elsewhere, Line, Given, Act, Make, Find, Extension, Call, New, NewEx, Instance, SetState, Fill, Persist, NextBuffer, View, Method, Reply, Raises, Answers, Unpickler, World}
use Rattle.pickle_loader.specs.Unpickler.{Step, Ran, Stopped, Raised, acted, append, answered, ask, get, tell, make, item, pop, on_top, to_mark, pop_mark, can_call, can_call_with, if_able, load_proto, load_literal, replaced, viewed_own, viewed_string, viewed_plain, has_memory, viewed, load_dict, load_inst, instantiated, load_newobj, load_newobj_ex, is_str, load_stack_global, load_reduce, load_pop_mark, load_pop, got, load_get, load_put, put_in, put_by, fill_own, fill, fill_none, fills, then_raises, fill_pairs, load_setitems, load_build}
use Rattle.pickle_loader.specs.Dispatch.{int_key, with_int, load_string, dispatch, load_op, Loaded, Going, Ended, Failed, loaded, acts_of, new_unpickler, load_item}

-- these acts, and more behind them
abbrev pub IsMore : List Act → List Act → Type 0
IsMore base acts = (more : List Act) × (acts ≡ base ++ more)

abbrev pub Grown : List Act → Step → Type 0
Grown base (Ran u) = IsMore base u.acts
Grown base (Stopped v u) = IsMore base u.acts
Grown base (Raised acts) = IsMore base acts

-- what goes on from an unpickler that did these acts, or more
abbrev Then : {A : Type 0} → List Act → (A → Unpickler → Step) → Type 0
Then {A = A} base go = (x : A) (q : Unpickler) → IsMore base q.acts → Grown base (go x q)

pub no_more : (acts : List Act) → IsMore acts acts
no_more acts = ([], sym (append-nil acts))

one_more : (base acts : List Act) (a : Act) → IsMore base acts → IsMore base (acts ++ a ∷ [])
one_more base acts a m = (m.0 ++ a ∷ [], ap (λ (l : List Act). l ++ a ∷ []) m.1 ∙ append_assoc base m.0 (a ∷ []))

pub pick : (base : List Act) (b : Bool) (x y : Step) → Grown base x → Grown base y → Grown base (cond b x y)
pick base true x y g h = g
pick base false x y g h = h

-- ---- parts of methods

by_answer : (base : List Act) (r : Reply) (a : Act) (u : Unpickler) (go : Value → Unpickler → Step) → IsMore base u.acts → Then base go → Grown base (answered r a u go)
by_answer base Raises a u go m g = one_more base u.acts a m
by_answer base (Answers t) a u go m g = g (Foreign t (length u.acts)) (acted a u) (one_more base u.acts a m)

by_ask : (base : List Act) (w : World) (a : Act) (u : Unpickler) (go : Value → Unpickler → Step) → IsMore base u.acts → Then base go → Grown base (ask w a u go)
by_ask base w a u go m g = by_answer base (w.reply u.acts a) a u go m g

by_get : (base : List Act) (w : World) (a : Act) (u : Unpickler) → IsMore base u.acts → Grown base (get w a u)
by_get base w a u m = by_ask base w a u (λ v q. Ran (append v q)) m (λ v q k. k)

by_tell : (base : List Act) (w : World) (a : Act) (u : Unpickler) → IsMore base u.acts → Grown base (tell w a u)
by_tell base w a u m = by_ask base w a u (λ v q. Ran q) m (λ v q k. k)

by_make : (base : List Act) (t : PyType) (items : List Value) (u : Unpickler) → IsMore base u.acts → Grown base (make t items u)
by_make base t items u m = one_more base u.acts (Make t items) m

by_pop : (base : List Act) (n : ℕ) (u : Unpickler) (go : List Value → Unpickler → Step) → IsMore base u.acts → Then base go → Grown base (pop n u go)
by_pop base n u go m g =
    pick base (nat_le n (length u.stack)) (go (drop (length u.stack - n) u.stack) (record u { stack = take (length u.stack - n) u.stack })) (Raised u.acts)
    (g (drop (length u.stack - n) u.stack) (record u { stack = take (length u.stack - n) u.stack }) m) m

by_top : (base : List Act) (u : Unpickler) (go : Value → Step) → IsMore base u.acts → ((v : Value) → Grown base (go v)) → Grown base (on_top u go)
by_top base u go m g = pick base (nat_le 1 (length u.stack)) (go (item (length u.stack - 1) u.stack)) (Raised u.acts) (g (item (length u.stack - 1) u.stack)) m

to_mark_by : (base : List Act) (sections : List (List Value)) (u : Unpickler) (go : List Value → Unpickler → Step) → IsMore base u.acts → Then base go → Grown base (to_mark sections u go)
to_mark_by base [] u go m g = m
to_mark_by base (section ∷ below) u go m g = g u.stack (record u { stack = section; metastack = below }) m

by_mark : (base : List Act) (u : Unpickler) (go : List Value → Unpickler → Step) → IsMore base u.acts → Then base go → Grown base (pop_mark u go)
by_mark base u go m g = to_mark_by base u.metastack u go m g

if_able_by : (base : List Act) (w : World) (b : Bool) (u : Unpickler) (x : Step) → IsMore base u.acts → Grown base x → Grown base (if_able w b u x)
if_able_by base w true u x m g = g
if_able_by base w false u x m g = by_ask base w Method u (λ v q. Raised q.acts) m (λ v q k. k)

-- ---- methods

proto_by : (base : List Act) (n : ℕ) (u : Unpickler) → IsMore base u.acts → Grown base (load_proto n u)
proto_by base n u m = pick base (nat_le n 5) (Ran (record u { proto = n })) (Raised u.acts) m m

replaced_by : (base : List Act) (b : Bool) (n : ℕ) (u : Unpickler) → IsMore base u.acts → Grown base (replaced b n u)
replaced_by base true n u m = m
replaced_by base false n u m = m

own_view_by : (base : List Act) (t : PyType) (u : Unpickler) → IsMore base u.acts → Grown base (viewed_own t u)
own_view_by base PyByteArray u m = one_more base u.acts (Make PyMemoryView []) m
own_view_by base _ u m = m

string_view_by : (base : List Act) (b : Bool) (u : Unpickler) → IsMore base u.acts → Grown base (viewed_string b u)
string_view_by base true u m = m
string_view_by base false u m = m

plain_view_by : (base : List Act) (w : World) (k : Kind) (u : Unpickler) → IsMore base u.acts → Grown base (viewed_plain w k u)
plain_view_by base w (kind.LegacyString bytes) u m = string_view_by base w.strings_are_bytes u m
plain_view_by base w (kind.LegacyLine bytes) u m = string_view_by base w.strings_are_bytes u m
plain_view_by base w _ u m = m

view_by : (base : List Act) (w : World) (v : Value) (u : Unpickler) → IsMore base u.acts → Grown base (viewed w v u)
view_by base w (Plain k) u m = plain_view_by base w k u m
view_by base w (Own t n) u m = own_view_by base t u m
view_by base w (Foreign t n) u m =
    pick base (has_memory t) (ask w (View (Foreign t n)) u (λ v q. replaced (w.readonly u.acts (Foreign t n)) (length u.acts) q)) (Raised u.acts)
    (by_ask base w (View (Foreign t n)) u (λ v q. replaced (w.readonly u.acts (Foreign t n)) (length u.acts) q) m (λ v q k. replaced_by base (w.readonly u.acts (Foreign t n)) (length u.acts) q k)) m

dict_by : (base : List Act) (w : World) (u : Unpickler) → IsMore base u.acts → Grown base (load_dict w u)
dict_by base w u m =
    by_mark base u (λ items q. ask w Method q (λ v r. if length items % 2 == 0 then make PyDict items r else Raised r.acts)) m
    (λ items q k. by_ask base w Method q (λ v r. if length items % 2 == 0 then make PyDict items r else Raised r.acts) k
    (λ v r j. pick base (length items % 2 == 0) (make PyDict items r) (Raised r.acts) (by_make base PyDict items r j) j))

inst_by : (base : List Act) (w : World) (first second : List ℕ) (u : Unpickler) → IsMore base u.acts → Grown base (load_inst w first second u)
inst_by base w first second u m =
    by_ask base w (Find u.proto (Line first) (Line second)) u (λ found p. pop_mark p (λ items q. get w (Instance None items) q)) m
    (λ found p k. by_mark base p (λ items q. get w (Instance None items) q) k (λ items q j. by_get base w (Instance None items) q j))

instantiated_by : (base : List Act) (w : World) (items : List Value) (u : Unpickler) → IsMore base u.acts → Grown base (instantiated w items u)
instantiated_by base w [] u m = m
instantiated_by base w (cls ∷ args) u m = if_able_by base w (is_elsewhere cls) u (get w (Instance (Some cls) args) u) m (by_get base w (Instance (Some cls) args) u m)

newobj_by : (base : List Act) (w : World) (u : Unpickler) → IsMore base u.acts → Grown base (load_newobj w u)
newobj_by base w u m =
    by_pop base 2 u (λ vs q. if_able w (can_call (item 0 vs) (item 1 vs)) q (get w (New (item 0 vs) (item 1 vs)) q)) m
    (λ vs q k. if_able_by base w (can_call (item 0 vs) (item 1 vs)) q (get w (New (item 0 vs) (item 1 vs)) q) k (by_get base w (New (item 0 vs) (item 1 vs)) q k))

newobj_ex_by : (base : List Act) (w : World) (u : Unpickler) → IsMore base u.acts → Grown base (load_newobj_ex w u)
newobj_ex_by base w u m =
    by_pop base 3 u (λ vs q. if_able w (can_call_with w u.acts (item 0 vs) (item 1 vs) (item 2 vs)) q (get w (NewEx (item 0 vs) (item 1 vs) (item 2 vs)) q)) m
    (λ vs q k. if_able_by base w (can_call_with w u.acts (item 0 vs) (item 1 vs) (item 2 vs)) q (get w (NewEx (item 0 vs) (item 1 vs) (item 2 vs)) q) k (by_get base w (NewEx (item 0 vs) (item 1 vs) (item 2 vs)) q k))

reduce_by : (base : List Act) (w : World) (u : Unpickler) → IsMore base u.acts → Grown base (load_reduce w u)
reduce_by base w u m =
    by_pop base 2 u (λ vs q. if_able w (can_call (item 0 vs) (item 1 vs)) q (get w (Call (item 0 vs) (item 1 vs)) q)) m
    (λ vs q k. if_able_by base w (can_call (item 0 vs) (item 1 vs)) q (get w (Call (item 0 vs) (item 1 vs)) q) k (by_get base w (Call (item 0 vs) (item 1 vs)) q k))

stack_global_by : (base : List Act) (w : World) (u : Unpickler) → IsMore base u.acts → Grown base (load_stack_global w u)
stack_global_by base w u m =
    by_pop base 2 u (λ vs q. if is_str w (item 1 vs)
    then (if is_str w (item 0 vs) then get w (Find q.proto (Given (item 0 vs)) (Given (item 1 vs))) q else Raised q.acts) else Raised q.acts) m
    (λ vs q k. pick base (is_str w (item 1 vs)) (if is_str w (item 0 vs) then get w (Find q.proto (Given (item 0 vs)) (Given (item 1 vs))) q else Raised q.acts) (Raised q.acts)
    (pick base (is_str w (item 0 vs)) (get w (Find q.proto (Given (item 0 vs)) (Given (item 1 vs))) q) (Raised q.acts) (by_get base w (Find q.proto (Given (item 0 vs)) (Given (item 1 vs))) q k) k) k)

pop_mark_by : (base : List Act) (w : World) (u : Unpickler) → IsMore base u.acts → Grown base (load_pop_mark w u)
pop_mark_by base w u m = by_mark base u (λ items q. tell w Method q) m (λ items q k. by_tell base w Method q k)

drop_by : (base : List Act) (w : World) (u : Unpickler) → IsMore base u.acts → Grown base (load_pop w u)
drop_by base w u m =
    pick base (nat_lt 0 (length u.stack)) (tell w Method (record u { stack = take (length u.stack - 1) u.stack })) (load_pop_mark w u)
    (by_tell base w Method (record u { stack = take (length u.stack - 1) u.stack }) m) (pop_mark_by base w u m)

pub got_by : (base : List Act) (v : Option Value) (u : Unpickler) → IsMore base u.acts → Grown base (got v u)
got_by base None u m = m
got_by base (Some v) u m = m

pub put_under : (base : List Act) (w : World) (key : ℕ) (u : Unpickler) → IsMore base u.acts → Grown base (load_put w key u)
put_under base w key u m =
    by_top base u (λ v. tell w Method (record u { memo = insert_entry nat_cmp u.memo key v })) m
    (λ v. by_tell base w Method (record u { memo = insert_entry nat_cmp u.memo key v }) m)

key_by : (base : List Act) (key : Option ℕ) (u : Unpickler) (go : ℕ → Step) → IsMore base u.acts → ((n : ℕ) → Grown base (go n)) → Grown base (with_int key u go)
key_by base None u go m g = m
key_by base (Some n) u go m g = g n

string_by : (base : List Act) (line : List ℕ) (u : Unpickler) → IsMore base u.acts → Grown base (load_string line u)
string_by base line u m = pick base (is_quoted line) (load_literal (kind.LegacyLine line) u) (Raised u.acts) m m

-- ---- filling

put_in_by : (base : List Act) (how : Filling) (target : Value) (items : List Value) (u : Unpickler) → IsMore base u.acts → Grown base (put_in how target items u)
put_in_by base how target items u m = one_more base u.acts (Fill how target items) m

put_by_by : (base : List Act) (w : World) (how : Filling) (target : Value) (items : List Value) (u : Unpickler) → IsMore base u.acts → Grown base (put_by w how target items u)
put_by_by base w how target items u m = by_ask base w Method u (λ v q. put_in how target items q) m (λ v q k. put_in_by base how target items q k)

fill_own_by : (base : List Act) (w : World) (how : Filling) (t : PyType) (target : Value) (items : List Value) (u : Unpickler) → IsMore base u.acts → Grown base (fill_own w how t target items u)
fill_own_by base w filling.Append PyList target items u m = put_in_by base filling.Append target items u m
fill_own_by base w filling.Append PyByteArray target items u m = put_by_by base w filling.Append target items u m
fill_own_by base w filling.SetItem PyDict target items u m = put_by_by base w filling.SetItem target items u m
fill_own_by base w filling.SetItem PyList target items u m = put_by_by base w filling.SetItem target items u m
fill_own_by base w filling.SetItem PyByteArray target items u m = put_by_by base w filling.SetItem target items u m
fill_own_by base w filling.Add PySet target items u m = put_by_by base w filling.Add target items u m
fill_own_by base w how t target items u m = m

fill_by : (base : List Act) (w : World) (how : Filling) (target : Value) (items : List Value) (u : Unpickler) → IsMore base u.acts → Grown base (fill w how target items u)
fill_by base w how (Plain k) items u m = m
fill_by base w how (Own t n) items u m = fill_own_by base w how t (Own t n) items u m
fill_by base w how (Foreign t n) items u m = by_tell base w (Fill how (Foreign t n) items) u m

fill_none_by : (base : List Act) (w : World) (target : Value) (u : Unpickler) → IsMore base u.acts → Grown base (fill_none w target u)
fill_none_by base w (Plain k) u m = m
fill_none_by base w (Own t n) u m = m
fill_none_by base w (Foreign t n) u m = pick base w.looks_up_for_nothing (tell w Method u) (Ran u) (by_tell base w Method u m) m

fills_by : (base : List Act) (w : World) (how : Filling) (target : Value) (items : List Value) (u : Unpickler) → IsMore base u.acts → Grown base (fills w how target items u)
fills_by base w how target [] u m = fill_none_by base w target u m
fills_by base w how target (v ∷ vs) u m = fill_by base w how target (v ∷ vs) u m

raises_by : (base : List Act) (x : Step) → Grown base x → Grown base (then_raises x)
raises_by base (Ran u) g = g
raises_by base (Stopped v u) g = g
raises_by base (Raised acts) g = g

pairs_by : (base : List Act) (w : World) (target : Value) (items : List Value) (u : Unpickler) → IsMore base u.acts → Grown base (fill_pairs w target items u)
pairs_by base w target items u m =
    pick base (length items % 2 == 0) (fills w filling.SetItem target items u) (then_raises (fills w filling.SetItem target (take (length items - 1) items) u))
    (fills_by base w filling.SetItem target items u m)
    (raises_by base (fills w filling.SetItem target (take (length items - 1) items) u) (fills_by base w filling.SetItem target (take (length items - 1) items) u m))

popped_fill : (base : List Act) (w : World) (n : ℕ) (how : Filling) (u : Unpickler) → IsMore base u.acts → Grown base (pop n u (λ vs q. on_top q (λ target. fills w how target vs q)))
popped_fill base w n how u m =
    by_pop base n u (λ vs q. on_top q (λ target. fills w how target vs q)) m
    (λ vs q k. by_top base q (λ target. fills w how target vs q) k (λ target. fills_by base w how target vs q k))

marked_fill : (base : List Act) (w : World) (how : Filling) (u : Unpickler) → IsMore base u.acts → Grown base (pop_mark u (λ items q. on_top q (λ target. fills w how target items q)))
marked_fill base w how u m =
    by_mark base u (λ items q. on_top q (λ target. fills w how target items q)) m
    (λ items q k. by_top base q (λ target. fills w how target items q) k (λ target. fills_by base w how target items q k))

set_items_by : (base : List Act) (w : World) (u : Unpickler) → IsMore base u.acts → Grown base (load_setitems w u)
set_items_by base w u m =
    by_mark base u (λ items q. on_top q (λ target. fill_pairs w target items q)) m
    (λ items q k. by_top base q (λ target. fill_pairs w target items q) k (λ target. pairs_by base w target items q k))

build_by : (base : List Act) (w : World) (u : Unpickler) → IsMore base u.acts → Grown base (load_build w u)
build_by base w u m =
    by_pop base 1 u (λ vs q. on_top q (λ target. tell w (SetState target (item 0 vs)) q)) m
    (λ vs q k. by_top base q (λ target. tell w (SetState target (item 0 vs)) q) k (λ target. by_tell base w (SetState target (item 0 vs)) q k))

-- ---- opcodes

pub dispatch_grows : (base : List Act) (w : World) (o : Opcode) (arg : List ℕ) (u : Unpickler) → IsMore base u.acts → Grown base (dispatch w o arg u)
dispatch_grows base w op.Proto arg u m = proto_by base (number_of form.Uint1 arg) u m
dispatch_grows base w op.Frame arg u m = m
dispatch_grows base w op.PersId arg u m = by_get base w (Persist (Line (payload form.Line arg))) u m
dispatch_grows base w op.BinPersId arg u m = by_pop base 1 u (λ vs q. get w (Persist (Given (item 0 vs))) q) m (λ vs q k. by_get base w (Persist (Given (item 0 vs))) q k)
dispatch_grows base w op.String arg u m = string_by base (payload form.Quoted arg) u m
dispatch_grows base w op.ByteArray8 arg u m = by_make base PyByteArray (Plain (kind.Bytes (payload form.Bytes8 arg)) ∷ []) u m
dispatch_grows base w op.NextBuffer arg u m = by_get base w (NextBuffer u.buffers) (record u { buffers = u.buffers + 1 }) m
dispatch_grows base w op.ReadOnlyBuffer arg u m = by_top base u (λ v. viewed w v u) m (λ v. view_by base w v u m)
dispatch_grows base w op.Tuple arg u m = by_mark base u (λ items q. make PyTuple items q) m (λ items q k. by_make base PyTuple items q k)
dispatch_grows base w op.EmptyTuple arg u m = by_make base PyTuple [] u m
dispatch_grows base w op.Tuple1 arg u m = by_pop base 1 u (λ items q. make PyTuple items q) m (λ items q k. by_make base PyTuple items q k)
dispatch_grows base w op.Tuple2 arg u m = by_pop base 2 u (λ items q. make PyTuple items q) m (λ items q k. by_make base PyTuple items q k)
dispatch_grows base w op.Tuple3 arg u m = by_pop base 3 u (λ items q. make PyTuple items q) m (λ items q k. by_make base PyTuple items q k)
dispatch_grows base w op.EmptyList arg u m = by_make base PyList [] u m
dispatch_grows base w op.EmptyDict arg u m = by_make base PyDict [] u m
dispatch_grows base w op.EmptySet arg u m = by_make base PySet [] u m
dispatch_grows base w op.FrozenSet arg u m =
    by_mark base u (λ items q. ask w Method q (λ v r. make PyFrozenSet items r)) m
    (λ items q k. by_ask base w Method q (λ v r. make PyFrozenSet items r) k (λ v r j. by_make base PyFrozenSet items r j))
dispatch_grows base w op.List arg u m = by_mark base u (λ items q. make PyList items q) m (λ items q k. by_make base PyList items q k)
dispatch_grows base w op.Dict arg u m = dict_by base w u m
dispatch_grows base w op.Inst arg u m = inst_by base w (first_text arg) (second_text arg) u m
dispatch_grows base w op.Obj arg u m = by_mark base u (λ items q. instantiated w items q) m (λ items q k. instantiated_by base w items q k)
dispatch_grows base w op.NewObj arg u m = newobj_by base w u m
dispatch_grows base w op.NewObjEx arg u m = newobj_ex_by base w u m
dispatch_grows base w op.Global arg u m = by_get base w (Find u.proto (Line (first_text arg)) (Line (second_text arg))) u m
dispatch_grows base w op.StackGlobal arg u m = stack_global_by base w u m
dispatch_grows base w op.Ext1 arg u m = by_get base w (Extension (integer_of form.Uint1 arg)) u m
dispatch_grows base w op.Ext2 arg u m = by_get base w (Extension (integer_of form.Uint2 arg)) u m
dispatch_grows base w op.Ext4 arg u m = by_get base w (Extension (integer_of form.Int4 arg)) u m
dispatch_grows base w op.Reduce arg u m = reduce_by base w u m
dispatch_grows base w op.Pop arg u m = drop_by base w u m
dispatch_grows base w op.PopMark arg u m = pop_mark_by base w u m
dispatch_grows base w op.Dup arg u m = by_top base u (λ v. Ran (append v u)) m (λ v. m)
dispatch_grows base w op.Get arg u m = key_by base (int_key (payload form.Decimal arg)) u (λ key. load_get key u) m (λ key. got_by base (lookup (is_at (nat_cmp key)) u.memo) u m)
dispatch_grows base w op.BinGet arg u m = got_by base (lookup (is_at (nat_cmp (number_of form.Uint1 arg))) u.memo) u m
dispatch_grows base w op.LongBinGet arg u m = got_by base (lookup (is_at (nat_cmp (number_of form.Uint4 arg))) u.memo) u m
dispatch_grows base w op.Put arg u m = key_by base (int_key (payload form.Decimal arg)) u (λ key. load_put w key u) m (λ key. put_under base w key u m)
dispatch_grows base w op.BinPut arg u m = put_under base w (number_of form.Uint1 arg) u m
dispatch_grows base w op.LongBinPut arg u m = put_under base w (number_of form.Uint4 arg) u m
dispatch_grows base w op.Memoize arg u m = put_under base w (length u.memo) u m
dispatch_grows base w op.Append arg u m = popped_fill base w 1 filling.Append u m
dispatch_grows base w op.Appends arg u m = marked_fill base w filling.Append u m
dispatch_grows base w op.SetItem arg u m = popped_fill base w 2 filling.SetItem u m
dispatch_grows base w op.SetItems arg u m = set_items_by base w u m
dispatch_grows base w op.AddItems arg u m = marked_fill base w filling.Add u m
dispatch_grows base w op.Build arg u m = build_by base w u m
dispatch_grows base w op.Mark arg u m = m
dispatch_grows base w op.Stop arg u m = by_pop base 1 u (λ vs q. Stopped (item 0 vs) q) m (λ vs q k. k)
dispatch_grows base w o arg u m = m

-- ---- loads

pub loaded_grows : (base : List Act) (x : Step) → Grown base x → IsMore base (acts_of (loaded x))
loaded_grows base (Ran u) g = g
loaded_grows base (Stopped v u) g = g
loaded_grows base (Raised acts) g = g

pub op_grows : (w : World) (o : Operation) (base : List Act) (u : Unpickler) → IsMore base u.acts → IsMore base (acts_of (loaded (load_op w o u)))
op_grows w o base u m = loaded_grows base (load_op w o u) (pick base (w.fails u o) (Raised u.acts) (dispatch w o.opcode o.arg u) m (dispatch_grows base w o.opcode o.arg u m))

pub item_grows : (w : World) (many : Bool) (o : Operation) (l : Loaded) → IsMore (acts_of l) (acts_of (load_item w many (Some o) l))
item_grows w many o (Going u) = op_grows w o u.acts u (no_more u.acts)
item_grows w true o (Ended v u) = op_grows w o u.acts (new_unpickler u.acts) (no_more u.acts)
item_grows w false o (Ended v u) = no_more u.acts
item_grows w many o (Failed acts) = no_more acts
