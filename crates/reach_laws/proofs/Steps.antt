-- What each opcode at which loaders go on keeps.
use Rattle.std.proofs.Common.{◌≡◌, ℕ, ◌-◌, Bool, true, false, List, [], ◌∷◌, ◌++◌, length, take, Option, Some, None, refl, arith}
use Rattle.std.specs.Prelude.{◌==◌, ◌%◌, nat_lt, if◌then◌else◌}
use Rattle.std.specs.Map.{lookup}
use Rattle.std.specs.Ordering.{nat_cmp}
use Rattle.std.specs.BTreeMap.{insert_entry, is_at}
use Rattle.std.proofs.lemmas.List.Elements.{All-push, All-take}
use Rattle.pickle_ops.specs.declared.opcode.Opcode.{Opcode}
use Rattle.pickle_ops.specs.declared.opcode.Opcode.TheVariants as op
use Rattle.pickle_ops.specs.declared.form.Form.TheVariants as form
use Rattle.pickle_ops.specs.declared.kind.Kind.{Kind}
use Rattle.pickle_ops.specs.declared.kind.Kind.TheVariants as kind
use Rattle.pickle_ops.specs.declared.row.Filling.{Filling}
use Rattle.pickle_ops.specs.declared.row.Filling.TheVariants as filling
use Rattle.pickle_ops.specs.Shape.{is_quoted}
use Rattle.pickle_ops.specs.Argument.{number_of, payload}
use Rattle.pickle_loader.specs.Environment.{PyType, PyTuple, PyList, PyDict, PySet, PyFrozenSet, PyByteArray, PyMemoryView, Value, Plain, Own, Foreign, Make, SetState, Fill, Method, Unpickler, World}
use Rattle.pickle_loader.specs.Unpickler.{Step, Ran, Stopped, Raised, acted, append, item, tell, make, on_top, viewed, viewed_own, viewed_plain, viewed_string, fills, fill, fill_own, put_in, put_by, fill_none, fill_pairs, then_raises, got, load_literal, load_get, load_put, load_pop_mark}
use Rattle.pickle_loader.specs.Dispatch.{int_key, with_int, literal_of, dispatch}
use Rattle.pickle_reach.specs.declared.granted.Granted.{Granted}
use Rattle.pickle_reach.specs.Item.{opcode_ends}
use Rattle.reach_laws.proofs.Tame.{Tame, own_only, kept_insert, IsFound, found, IsTame, StepTame, either, acted_tame, pushed_tame, ask_tame, tell_tame, make_tame, pop_tame, top_tame, mark_tame}

-- ---- a view

-- in the place of what is on top
in_place : (g : Granted) (named : Bool) (u : Unpickler) (n : ℕ) → IsTame g named u → IsTame g named (record u { stack = take (length u.stack - 1) u.stack ++ Own PyMemoryView n ∷ [] })
in_place g named u n t = record {
  stack = All-push (Tame named) (take (length u.stack - 1) u.stack) (Own PyMemoryView n) (All-take (Tame named) (length u.stack - 1) u.stack t.stack) refl;
  below = t.below;
  memo = t.memo;
  acts = t.acts;
}

own_view : (g : Granted) (named : Bool) (ty : PyType) (u : Unpickler) → IsTame g named u → StepTame g named (viewed_own ty u)
own_view g named PyByteArray u t = in_place g named (acted (Make PyMemoryView []) u) (length u.acts) (acted_tame g named u (Make PyMemoryView []) refl t)
own_view g named PyMemoryView u t = t
own_view g named _ u t = t.acts

string_view : (g : Granted) (named b : Bool) (u : Unpickler) → IsTame g named u → StepTame g named (viewed_string b u)
string_view g named true u t = t
string_view g named false u t = t.acts

plain_view : (w : World) (g : Granted) (named : Bool) (k : Kind) (u : Unpickler) → IsTame g named u → StepTame g named (viewed_plain w k u)
plain_view w g named (kind.Bytes bytes) u t = t
plain_view w g named (kind.LegacyString bytes) u t = string_view g named w.strings_are_bytes u t
plain_view w g named (kind.LegacyLine bytes) u t = string_view g named w.strings_are_bytes u t
plain_view w g named _ u t = t.acts

view : (w : World) (g : Granted) (named : Bool) (v : Value) (u : Unpickler) → Tame named v → IsTame g named u → StepTame g named (viewed w v u)
view w g named (Plain k) u h t = plain_view w g named k u t
view w g named (Own ty n) u h t = own_view g named ty u t
view w g named (Foreign ty n) u h t = let two : false ≡ true = h in absurd cc

-- ---- what is filled

put : (g : Granted) (named : Bool) (how : Filling) (ty : PyType) (n : ℕ) (items : List Value) (u : Unpickler) → IsTame g named u → StepTame g named (put_in how (Own ty n) items u)
put g named how ty n items u t = acted_tame g named u (Fill how (Own ty n) items) refl t

puts : (w : World) (g : Granted) (named : Bool) (how : Filling) (ty : PyType) (n : ℕ) (items : List Value) (u : Unpickler) → IsTame g named u → StepTame g named (put_by w how (Own ty n) items u)
puts w g named how ty n items u t = ask_tame w g named Method u (λ v q. put_in how (Own ty n) items q) refl t (λ v q h. put g named how ty n items q h)

own_fill : (w : World) (g : Granted) (named : Bool) (how : Filling) (ty : PyType) (n : ℕ) (items : List Value) (u : Unpickler) → IsTame g named u → StepTame g named (fill_own w how ty (Own ty n) items u)
own_fill w g named filling.Append PyList n items u t = put g named filling.Append PyList n items u t
own_fill w g named filling.Append PyByteArray n items u t = puts w g named filling.Append PyByteArray n items u t
own_fill w g named filling.SetItem PyDict n items u t = puts w g named filling.SetItem PyDict n items u t
own_fill w g named filling.SetItem PyList n items u t = puts w g named filling.SetItem PyList n items u t
own_fill w g named filling.SetItem PyByteArray n items u t = puts w g named filling.SetItem PyByteArray n items u t
own_fill w g named filling.Add PySet n items u t = puts w g named filling.Add PySet n items u t
own_fill w g named _ _ n items u t = t.acts

filled : (w : World) (g : Granted) (named : Bool) (how : Filling) (target : Value) (items : List Value) (u : Unpickler) → Tame named target → IsTame g named u → StepTame g named (fill w how target items u)
filled w g named how (Plain k) items u h t = t.acts
filled w g named how (Own ty n) items u h t = own_fill w g named how ty n items u t
filled w g named how (Foreign ty n) items u h t = let two : false ≡ true = h in absurd cc

fills_none : (w : World) (g : Granted) (named : Bool) (target : Value) (u : Unpickler) → Tame named target → IsTame g named u → StepTame g named (fill_none w target u)
fills_none w g named (Plain k) u h t = t
fills_none w g named (Own ty n) u h t = t
fills_none w g named (Foreign ty n) u h t = let two : false ≡ true = h in absurd cc

fills_tame : (w : World) (g : Granted) (named : Bool) (how : Filling) (target : Value) (items : List Value) (u : Unpickler) → Tame named target → IsTame g named u → StepTame g named (fills w how target items u)
fills_tame w g named how target [] u h t = fills_none w g named target u h t
fills_tame w g named how target (v ∷ vs) u h t = filled w g named how target (v ∷ vs) u h t

raises_tame : (g : Granted) (named : Bool) (x : Step) → StepTame g named x → StepTame g named (then_raises x)
raises_tame g named (Ran u) t = t.acts
raises_tame g named (Stopped v u) t = t.acts
raises_tame g named (Raised acts) t = t

pairs_tame : (w : World) (g : Granted) (named : Bool) (target : Value) (items : List Value) (u : Unpickler) → Tame named target → IsTame g named u → StepTame g named (fill_pairs w target items u)
pairs_tame w g named target items u h t =
    either g named (length items % 2 == 0) (fills w filling.SetItem target items u) (then_raises (fills w filling.SetItem target (take (length items - 1) items) u))
    (fills_tame w g named filling.SetItem target items u h t)
    (raises_tame g named (fills w filling.SetItem target (take (length items - 1) items) u) (fills_tame w g named filling.SetItem target (take (length items - 1) items) u h t))

-- into what is on top, or below what was taken off
on_target : (w : World) (g : Granted) (named : Bool) (how : Filling) (vs : List Value) (q : Unpickler) → IsTame g named q → StepTame g named (on_top q (λ target. fills w how target vs q))
on_target w g named how vs q t = top_tame g named q (λ target. fills w how target vs q) t (λ target h. fills_tame w g named how target vs q h t)

-- ---- the memo

got_tame : (g : Granted) (named : Bool) (x : Option Value) (u : Unpickler) → IsFound named x → IsTame g named u → StepTame g named (got x u)
got_tame g named None u h t = t.acts
got_tame g named (Some v) u h t = pushed_tame g named u v h t

pub get_tame : (g : Granted) (named : Bool) (key : ℕ) (u : Unpickler) → IsTame g named u → StepTame g named (load_get key u)
get_tame g named key u t = got_tame g named (lookup (is_at (nat_cmp key)) u.memo) u (found named u.memo key t.memo) t

pub put_tame : (w : World) (g : Granted) (named : Bool) (key : ℕ) (u : Unpickler) → IsTame g named u → StepTame g named (load_put w key u)
put_tame w g named key u t =
    top_tame g named u (λ v. tell w Method (record u { memo = insert_entry nat_cmp u.memo key v })) t
    (λ v h. tell_tame w g named Method (record u { memo = insert_entry nat_cmp u.memo key v }) refl (record { stack = t.stack; below = t.below; memo = kept_insert named u.memo key v h t.memo; acts = t.acts }))

int_tame : (g : Granted) (named : Bool) (x : Option ℕ) (u : Unpickler) (go : ℕ → Step) → IsTame g named u → ((key : ℕ) → StepTame g named (go key)) → StepTame g named (with_int x u go)
int_tame g named None u go t next = t.acts
int_tame g named (Some key) u go t next = next key

-- ---- each opcode

-- what it pushes, of the opcodes that make a literal
abbrev pub literal : Opcode → List ℕ → Kind
literal op.String arg = kind.LegacyLine (payload form.Quoted arg)
literal o arg = literal_of o arg

marked : (w : World) (g : Granted) (named : Bool) (u : Unpickler) → IsTame g named u → StepTame g named (load_pop_mark w u)
marked w g named u t = mark_tame g named u (λ items q. tell w Method q) t (λ items q all h. tell_tame w g named Method q refl h)

pub step_tame : (w : World) (g : Granted) (named : Bool) (o : Opcode) (arg : List ℕ) (u : Unpickler) → opcode_ends o arg ≡ false → Tame named (Plain (literal o arg)) → IsTame g named u → StepTame g named (dispatch w o arg u)
step_tame w g named op.Proto arg u goes lit t = either g named _ (Ran (record u { proto = number_of form.Uint1 arg })) (Raised u.acts) (record { stack = t.stack; below = t.below; memo = t.memo; acts = t.acts }) t.acts
step_tame w g named op.Frame arg u goes lit t = t
step_tame w g named op.PersId arg u goes lit t = let two : true ≡ false = goes in absurd cc
step_tame w g named op.BinPersId arg u goes lit t = let two : true ≡ false = goes in absurd cc
step_tame w g named op.String arg u goes lit t =
    either g named (is_quoted (payload form.Quoted arg)) (load_literal (kind.LegacyLine (payload form.Quoted arg)) u) (Raised u.acts) (pushed_tame g named u (Plain (kind.LegacyLine (payload form.Quoted arg))) lit t) t.acts
step_tame w g named op.ByteArray8 arg u goes lit t = make_tame g named PyByteArray (Plain (kind.Bytes (payload form.Bytes8 arg)) ∷ []) u t
step_tame w g named op.NextBuffer arg u goes lit t = let two : true ≡ false = goes in absurd cc
step_tame w g named op.ReadOnlyBuffer arg u goes lit t = top_tame g named u (λ v. viewed w v u) t (λ v h. view w g named v u h t)
step_tame w g named op.Tuple arg u goes lit t = mark_tame g named u (λ items q. make PyTuple items q) t (λ items q all h. make_tame g named PyTuple items q h)
step_tame w g named op.EmptyTuple arg u goes lit t = make_tame g named PyTuple [] u t
step_tame w g named op.Tuple1 arg u goes lit t = pop_tame g named 1 u (λ items q. make PyTuple items q) t (λ items q all h. make_tame g named PyTuple items q h)
step_tame w g named op.Tuple2 arg u goes lit t = pop_tame g named 2 u (λ items q. make PyTuple items q) t (λ items q all h. make_tame g named PyTuple items q h)
step_tame w g named op.Tuple3 arg u goes lit t = pop_tame g named 3 u (λ items q. make PyTuple items q) t (λ items q all h. make_tame g named PyTuple items q h)
step_tame w g named op.EmptyList arg u goes lit t = make_tame g named PyList [] u t
step_tame w g named op.EmptyDict arg u goes lit t = make_tame g named PyDict [] u t
step_tame w g named op.EmptySet arg u goes lit t = make_tame g named PySet [] u t
step_tame w g named op.FrozenSet arg u goes lit t =
    mark_tame g named u _ t (λ items q all h. ask_tame w g named Method q (λ v r. make PyFrozenSet items r) refl h (λ v r k. make_tame g named PyFrozenSet items r k))
step_tame w g named op.List arg u goes lit t = mark_tame g named u (λ items q. make PyList items q) t (λ items q all h. make_tame g named PyList items q h)
step_tame w g named op.Dict arg u goes lit t =
    mark_tame g named u _ t (λ items q all h. ask_tame w g named Method q (λ v r. if length items % 2 == 0 then make PyDict items r else Raised r.acts) refl h
    (λ v r k. either g named (length items % 2 == 0) (make PyDict items r) (Raised r.acts) (make_tame g named PyDict items r k) k.acts))
step_tame w g named op.Inst arg u goes lit t = let two : true ≡ false = goes in absurd cc
step_tame w g named op.Obj arg u goes lit t = let two : true ≡ false = goes in absurd cc
step_tame w g named op.NewObj arg u goes lit t = let two : true ≡ false = goes in absurd cc
step_tame w g named op.NewObjEx arg u goes lit t = let two : true ≡ false = goes in absurd cc
step_tame w g named op.Global arg u goes lit t = let two : true ≡ false = goes in absurd cc
step_tame w g named op.StackGlobal arg u goes lit t = let two : true ≡ false = goes in absurd cc
step_tame w g named op.Ext1 arg u goes lit t = let two : true ≡ false = goes in absurd cc
step_tame w g named op.Ext2 arg u goes lit t = let two : true ≡ false = goes in absurd cc
step_tame w g named op.Ext4 arg u goes lit t = let two : true ≡ false = goes in absurd cc
step_tame w g named op.Reduce arg u goes lit t = let two : true ≡ false = goes in absurd cc
step_tame w g named op.Pop arg u goes lit t =
    either g named (nat_lt 0 (length u.stack)) (tell w Method (record u { stack = take (length u.stack - 1) u.stack })) (load_pop_mark w u)
    (tell_tame w g named Method (record u { stack = take (length u.stack - 1) u.stack }) refl (record { stack = All-take (Tame named) (length u.stack - 1) u.stack t.stack; below = t.below; memo = t.memo; acts = t.acts }))
    (marked w g named u t)
step_tame w g named op.PopMark arg u goes lit t = marked w g named u t
step_tame w g named op.Dup arg u goes lit t = top_tame g named u (λ v. Ran (append v u)) t (λ v h. pushed_tame g named u v h t)
step_tame w g named op.Get arg u goes lit t = int_tame g named (int_key (payload form.Decimal arg)) u (λ key. load_get key u) t (λ key. get_tame g named key u t)
step_tame w g named op.BinGet arg u goes lit t = get_tame g named (number_of form.Uint1 arg) u t
step_tame w g named op.LongBinGet arg u goes lit t = get_tame g named (number_of form.Uint4 arg) u t
step_tame w g named op.Put arg u goes lit t = int_tame g named (int_key (payload form.Decimal arg)) u (λ key. load_put w key u) t (λ key. put_tame w g named key u t)
step_tame w g named op.BinPut arg u goes lit t = put_tame w g named (number_of form.Uint1 arg) u t
step_tame w g named op.LongBinPut arg u goes lit t = put_tame w g named (number_of form.Uint4 arg) u t
step_tame w g named op.Memoize arg u goes lit t = put_tame w g named (length u.memo) u t
step_tame w g named op.Append arg u goes lit t = pop_tame g named 1 u (λ vs q. on_top q (λ target. fills w filling.Append target vs q)) t (λ vs q all h. on_target w g named filling.Append vs q h)
step_tame w g named op.Appends arg u goes lit t = mark_tame g named u (λ vs q. on_top q (λ target. fills w filling.Append target vs q)) t (λ vs q all h. on_target w g named filling.Append vs q h)
step_tame w g named op.SetItem arg u goes lit t = pop_tame g named 2 u (λ vs q. on_top q (λ target. fills w filling.SetItem target vs q)) t (λ vs q all h. on_target w g named filling.SetItem vs q h)
step_tame w g named op.SetItems arg u goes lit t =
    mark_tame g named u (λ items q. on_top q (λ target. fill_pairs w target items q)) t
    (λ items q all h. top_tame g named q (λ target. fill_pairs w target items q) h (λ target k. pairs_tame w g named target items q k h))
step_tame w g named op.AddItems arg u goes lit t = mark_tame g named u (λ vs q. on_top q (λ target. fills w filling.Add target vs q)) t (λ vs q all h. on_target w g named filling.Add vs q h)
step_tame w g named op.Build arg u goes lit t =
    pop_tame g named 1 u (λ vs q. on_top q (λ target. tell w (SetState target (item 0 vs)) q)) t
    (λ vs q all h. top_tame g named q (λ target. tell w (SetState target (item 0 vs)) q) h (λ target k. tell_tame w g named (SetState target (item 0 vs)) q (own_only named target k) h))
step_tame w g named op.Mark arg u goes lit t = record { stack = λ k d less. absurd (omega (arith, less)); below = (t.stack, t.below); memo = t.memo; acts = t.acts }
step_tame w g named op.Stop arg u goes lit t = pop_tame g named 1 u (λ vs q. Stopped (item 0 vs) q) t (λ vs q all h. h)
step_tame w g named o arg u goes lit t = pushed_tame g named u (Plain (literal_of o arg)) lit t
