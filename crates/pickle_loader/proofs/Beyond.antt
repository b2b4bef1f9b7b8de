-- The unpickler follows the moves of rows that ask for less.
use Rattle.std.proofs.Common.{◌≡◌, ℕ, ◌<◌, Bool, true, false, cond, List, [], ◌++◌, length, map, Option, Some, None, Ok, refl, sym, ap, subst, ◌∙◌, arith}
use Rattle.std.proofs.lemmas.Bool.{ltb-true, le-leb}
use Rattle.std.proofs.lemmas.List.{append-nil}
use Rattle.std.specs.Prelude.{ℤ, ◌&&◌, nat_le, if◌then◌else◌}
use Rattle.pickle_ops.specs.declared.opcode.Opcode.{Opcode}
use Rattle.pickle_ops.specs.declared.opcode.Opcode.TheVariants as op
use Rattle.pickle_ops.specs.declared.form.Form.TheVariants as form
use Rattle.pickle_ops.specs.declared.kind.Kind.{Kind}
use Rattle.pickle_ops.specs.declared.kind.Kind.TheVariants as kind
use Rattle.pickle_ops.specs.declared.row.Row.TheVariants as row
use Rattle.pickle_ops.specs.declared.row.Taking.TheVariants as taking
use Rattle.pickle_ops.specs.declared.row.Cutting.TheVariants as cutting
use Rattle.pickle_ops.specs.Table.{form_of}
use Rattle.pickle_ops.specs.Shape.{value_fault}
use Rattle.pickle_ops.specs.Argument.{number_of, integer_of}
use Rattle.pickle_ops.specs.Spelling.{Operation}
use Rattle.pickle_ops.specs.Row.{row_of_opcode, kind_of_opcode, kind_of}
use Rattle.pickle_machine.specs.declared.refusal.Refusal.{Refusal}
use Rattle.pickle_machine.specs.State.{State}
use Rattle.pickle_machine.specs.Move.{deep, last_of, without, refusal_of, next_of, fresh, outcome}
use Rattle.pickle_machine.specs.Loader.{takes_call, takes_call_with, takes_obj, is_string, takes_string, asks_less}
use Rattle.pickle_calls.specs.Event.{before_of, event_of}
use Rattle.pickle_loader.specs.Environment.{Value, Plain, Act, Extension, Call, New, NewEx, Unpickler, World}
use Rattle.pickle_loader.specs.Unpickler.{Step, Ran, Stopped, Raised, item, get, if_able, can_call, can_call_with, instantiated, load_reduce, load_newobj, load_newobj_ex, load_obj, load_ext, load_readonly_buffer, viewed, viewed_string}
use Rattle.pickle_loader.specs.Dispatch.{dispatch, load_op}
use Rattle.pickle_loader.specs.Listed.{listed_of, acts_listed, protocol_after}
use Rattle.pickle_loader.specs.Values.{origin, IsFrom, Knows}
use Rattle.pickle_loader.specs.Laws.{sections, entries, IsSame}
use Rattle.pickle_loader.specs.Beyond.{HasValue, less_of, StepFollows, MapsNew, WideMovesAreFollowed}
use Rattle.pickle_calls.proofs.Steps.{is_there}
use Rattle.pickle_loader.proofs.Images.{image, on_top_image}
use Rattle.pickle_loader.proofs.Pushes.{Good}
use Rattle.pickle_loader.proofs.Still.{fresh_same}
use Rattle.pickle_loader.proofs.Methods.{Here, unpickler, fresh_acts, RowGood, raised_good, stays_good, able_got, got_good, taken_good, cut_good, obj_by, reduce_good, newobj_good, newobj_ex_good, obj_good}
use Rattle.pickle_loader.proofs.Views.{readonly_good}
use Rattle.pickle_loader.proofs.Opcodes.{opcode_good}

-- ---- rows that ask for less

proto_by : (h : Here) (b : Bool) (n : ℕ) → RowGood h row.Nothing kind.None n (if b then Ran (record (unpickler h) { proto = n }) else Raised h.acts)
proto_by h true n e = stays_good h h.s n (record (unpickler h) { proto = n }) [] refl refl (sym (append-nil h.acts)) refl
proto_by h false n e = raised_good h.V h.w h.s.heap h.acts h.s _ n h.acts refl

reduce_less : (h : Here) (b : Bool) → RowGood h (cond b (row.Take taking.Two) (row.Take taking.Call)) kind.Call h.proto (load_reduce h.w (unpickler h))
reduce_less h true = taken_good h taking.Two kind.Call (λ vs q. if_able h.w (can_call (item 0 vs) (item 1 vs)) q (get h.w (Call (item 0 vs) (item 1 vs)) q)) (λ e. able_got h (without 2 h.s) kind.Call (last_of 2 h.s) (λ proto. Call (item 0 (map h.V (last_of 2 h.s))) (item 1 (map h.V (last_of 2 h.s)))) (can_call (item 0 (map h.V (last_of 2 h.s))) (item 1 (map h.V (last_of 2 h.s)))) refl refl refl)
reduce_less h false = reduce_good h

newobj_less : (h : Here) (b : Bool) → RowGood h (cond b (row.Take taking.Two) (row.Take taking.Call)) kind.New h.proto (load_newobj h.w (unpickler h))
newobj_less h true = taken_good h taking.Two kind.New (λ vs q. if_able h.w (can_call (item 0 vs) (item 1 vs)) q (get h.w (New (item 0 vs) (item 1 vs)) q)) (λ e. able_got h (without 2 h.s) kind.New (last_of 2 h.s) (λ proto. New (item 0 (map h.V (last_of 2 h.s))) (item 1 (map h.V (last_of 2 h.s)))) (can_call (item 0 (map h.V (last_of 2 h.s))) (item 1 (map h.V (last_of 2 h.s)))) refl refl refl)
newobj_less h false = newobj_good h

newobj_ex_less : (h : Here) (b : Bool) → RowGood h (cond b (row.Take taking.Three) (row.Take taking.CallWith)) kind.NewEx h.proto (load_newobj_ex h.w (unpickler h))
newobj_ex_less h true =
    taken_good h taking.Three kind.NewEx (λ vs q. if_able h.w (can_call_with h.w h.acts (item 0 vs) (item 1 vs) (item 2 vs)) q (get h.w (NewEx (item 0 vs) (item 1 vs) (item 2 vs)) q)) (λ e. able_got h (without 3 h.s) kind.NewEx (last_of 3 h.s) (λ proto. NewEx (item 0 (map h.V (last_of 3 h.s))) (item 1 (map h.V (last_of 3 h.s))) (item 2 (map h.V (last_of 3 h.s)))) (can_call_with h.w h.acts (item 0 (map h.V (last_of 3 h.s))) (item 1 (map h.V (last_of 3 h.s))) (item 2 (map h.V (last_of 3 h.s)))) refl refl refl)
newobj_ex_less h false = newobj_ex_good h

both_hold : (b c : Bool) → (b && c) ≡ true → b ≡ true
both_hold true c e = refl
both_hold false c e = absurd cc

obj_less : (h : Here) (b : Bool) → takes_obj h.s ≡ b → RowGood h (cond b (row.Cut cutting.Any) (row.Cut cutting.Callable)) kind.Obj h.proto (load_obj h.w (unpickler h))
obj_less h true is =
    let some : 0 < length h.s.top = ltb-true 0 (length h.s.top) (both_hold _ _ is) in
    cut_good h cutting.Any kind.Obj (λ items q. instantiated h.w items q) (λ e. obj_by h h.s.top refl (le-leb 1 (length h.s.top) (omega (arith, some))))
obj_less h false is = obj_good h

-- EXT makes what it finds, whatever its code
ext_less : (h : Here) (n : ℤ) → RowGood h row.Push (kind.Ext n) h.proto (load_ext h.w n (unpickler h))
ext_less h n e = got_good h h.s (kind.Ext n) [] (λ proto. Extension n) refl refl refl

-- READONLY_BUFFER on a string, which stays where it is bytes
string_by : (h : Here) (b : Bool) → RowGood h row.Nothing kind.None h.proto (viewed_string b (unpickler h))
string_by h true e = stays_good h h.s h.proto (unpickler h) [] refl refl (sym (append-nil h.acts)) refl
string_by h false e = raised_good h.V h.w h.s.heap h.acts h.s _ h.proto h.acts refl

string_viewed : (h : Here) (k : Kind) → is_string k ≡ true → RowGood h row.Nothing kind.None h.proto (viewed h.w (Plain k) (unpickler h))
string_viewed h (kind.LegacyString bytes) is = string_by h h.w.strings_are_bytes
string_viewed h (kind.LegacyLine bytes) is = string_by h h.w.strings_are_bytes
string_viewed h _ is = absurd cc

string_value : (w : World) (acts : List Act) (k : Kind) (vs : List Value) (v : Value) → is_string k ≡ true → IsFrom w acts k v (origin k vs) → v ≡ Plain k
string_value w acts (kind.LegacyString bytes) vs v is from = from
string_value w acts (kind.LegacyLine bytes) vs v is from = from
string_value w acts _ vs v is from = absurd cc

second_holds : (b c : Bool) → (b && c) ≡ true → c ≡ true
second_holds true c e = e
second_holds false c e = absurd cc

view_less : (h : Here) (b : Bool) → takes_string h.s ≡ b → RowGood h (cond b row.Nothing row.ReadOnly) kind.None h.proto (load_readonly_buffer h.w (unpickler h))
view_less h false is = readonly_good h kind.None
view_less h true is =
    let id : ℕ = deep 0 h.s.top in
    let some : 0 < length h.s.top = ltb-true 0 (length h.s.top) (both_hold _ _ is) in
    let o = is_there is_string h.s.heap id (second_holds _ _ is) in
    let value : h.V id ≡ Plain o.0.kind = string_value h.w h.acts o.0.kind (map h.V o.0.parts) (h.V id) o.2 (h.knows id o.0 o.1) in
    subst (λ (x : Step). RowGood h row.Nothing kind.None h.proto x) (sym (on_top_image h.V h.s h.proto h.acts (λ v. viewed h.w v (unpickler h)) (le-leb 1 (length h.s.top) (omega (arith, some)))))
    (subst (λ (v : Value). RowGood h row.Nothing kind.None h.proto (viewed h.w v (unpickler h))) (sym value) (string_viewed h o.0.kind o.2))

-- the method of an opcode is right for the row that asks for less
wide_good : (h : Here) (o : Opcode) (arg : List ℕ) → value_fault (form_of o) arg ≡ None → RowGood h (asks_less (row_of_opcode o arg) h.s) (kind_of_opcode o arg) (protocol_after o arg h.proto) (dispatch h.w o arg (unpickler h))
wide_good h op.Proto arg v = proto_by h (nat_le (number_of form.Uint1 arg) 5) (number_of form.Uint1 arg)
wide_good h op.Ext1 arg v = ext_less h (integer_of form.Uint1 arg)
wide_good h op.Ext2 arg v = ext_less h (integer_of form.Uint2 arg)
wide_good h op.Ext4 arg v = ext_less h (integer_of form.Int4 arg)
wide_good h op.ReadOnlyBuffer arg v = view_less h (takes_string h.s) refl
wide_good h op.Reduce arg v = reduce_less h (takes_call 0 h.s)
wide_good h op.NewObj arg v = newobj_less h (takes_call 0 h.s)
wide_good h op.NewObjEx arg v = newobj_ex_less h (takes_call_with h.s)
wide_good h op.Obj arg v = obj_less h (takes_obj h.s) refl
wide_good h o arg v = opcode_good h o arg v

op_good : (h : Here) (o : Operation) (b : Bool) → HasValue o → refusal_of (less_of o h.s) h.s ≡ None
    → Good h.V h.w h.s.heap h.acts (next_of (less_of o h.s) (kind_of o) h.place h.s) (fresh_acts h (less_of o h.s) (next_of (less_of o h.s) (kind_of o) h.place h.s)) (protocol_after o.opcode o.arg h.proto)
    (if b then Raised h.acts else dispatch h.w o.opcode o.arg (unpickler h))
op_good h o true v e = raised_good h.V h.w h.s.heap h.acts (next_of (less_of o h.s) (kind_of o) h.place h.s) _ (protocol_after o.opcode o.arg h.proto) h.acts refl
op_good h o false v e = wide_good h o.opcode o.arg v e

-- ---- one step

pub has_moved : (x : Option Refusal) (u t : State) → outcome x u ≡ Ok t → (x ≡ None) × (u ≡ t)
has_moved None u t e = let same : u ≡ t = cc in (refl, same)
has_moved (Some r) u t e = absurd cc

-- the unpickler that holds what the state holds is that of the state
pub same_image : (w : World) (V : ℕ → Value) (s : State) (u : Unpickler) → IsSame w V s u → u ≡ image V s u.proto u.acts
same_image w V s u i =
    ap (λ (l : List Value). record { stack = l; metastack = u.metastack; memo = u.memo; proto = u.proto; buffers = u.buffers; acts = u.acts }) i.stack
    ∙ ap (λ (l : List (List Value)). record { stack = map V s.top; metastack = l; memo = u.memo; proto = u.proto; buffers = u.buffers; acts = u.acts }) i.metastack
    ∙ ap (λ (l : List (ℕ × Value)). record { stack = map V s.top; metastack = sections V s.marked; memo = l; proto = u.proto; buffers = u.buffers; acts = u.acts }) i.memo
    ∙ ap (λ (n : ℕ). record { stack = map V s.top; metastack = sections V s.marked; memo = entries V s.memo; proto = u.proto; buffers = n; acts = u.acts }) i.buffers

same_of : (w : World) (V : ℕ → Value) (t : State) (proto : ℕ) (q : Unpickler) → q ≡ image V t proto q.acts → Knows w V q.acts t.heap → IsSame w V t q
same_of w V t proto q is knows = record {
  stack = ap (λ (x : Unpickler). x.stack) is;
  metastack = ap (λ (x : Unpickler). x.metastack) is;
  memo = ap (λ (x : Unpickler). x.memo) is;
  buffers = ap (λ (x : Unpickler). x.buffers) is;
  objects = knows;
}

pub follows_by : (w : World) (V : ℕ → Value) (s t : State) (acts new : List Act) (proto : ℕ) (x : Step) → MapsNew V s t x → Good V w s.heap acts t new proto x → StepFollows w V (listed_of acts ++ new) proto t x
follows_by w V s t acts new proto (Ran q) maps good =
    let all = good maps in
    (same_of w V t proto q all.0 all.1, all.2, ap (λ (x : Unpickler). x.proto) all.0)
follows_by w V s t acts new proto (Stopped v q) maps good = (same_of w V t q.proto q good.6 good.1, good.0, good.5, good.2)
follows_by w V s t acts new proto (Raised done) maps good = good

pub wide_moves_are_followed : WideMovesAreFollowed
wide_moves_are_followed w V s t u o place value running same moved maps =
    let h : Here = record { V = V; w = w; s = s; proto = u.proto; acts = u.acts; place = place; knows = same.objects } in
    let now : fresh s ≡ s = fresh_same s running in
    let step : outcome (refusal_of (less_of o s) s) (next_of (less_of o s) (kind_of o) place s) ≡ Ok t = subst (λ (f : State). outcome (refusal_of (less_of o s) f) (next_of (less_of o s) (kind_of o) place f) ≡ Ok t) now moved in
    let both = has_moved (refusal_of (less_of o s) s) (next_of (less_of o s) (kind_of o) place s) t step in
    let good : Good V w s.heap u.acts t (acts_listed V u.proto s t (event_of (less_of o s) (before_of s) t)) (protocol_after o.opcode o.arg u.proto) (load_op w o (image V s u.proto u.acts)) =
    subst (λ (t : State). Good V w s.heap u.acts t (acts_listed V u.proto s t (event_of (less_of o s) (before_of s) t)) (protocol_after o.opcode o.arg u.proto) (load_op w o (image V s u.proto u.acts))) both.1
    (op_good h o (w.fails (unpickler h) o) value both.0) in
    let is : u ≡ image V s u.proto u.acts = same_image w V s u same in
    follows_by w V s t u.acts (acts_listed V u.proto s t (event_of (less_of o s) (before_of s) t)) (protocol_after o.opcode o.arg u.proto) (load_op w o u) maps
    (subst (λ (x : Unpickler). Good V w s.heap u.acts t (acts_listed V u.proto s t (event_of (less_of o s) (before_of s) t)) (protocol_after o.opcode o.arg u.proto) (load_op w o x)) (sym is) good)
