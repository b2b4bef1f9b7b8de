-- What each opcode adds to what was done: nothing that is listed, unless it is one that may act.
use Rattle.std.proofs.Common.{◌≡◌, ℕ, ◌+◌, ◌-◌, Bool, true, false, List, [], ◌∷◌, ◌++◌, length, take, drop, Option, Some, None, refl, ap, subst, ◌∙◌}
use Rattle.std.specs.Prelude.{◌==◌, ◌%◌, nat_lt, nat_le, if◌then◌else◌}
use Rattle.std.specs.Map.{lookup}
use Rattle.std.specs.Ordering.{nat_cmp}
use Rattle.std.specs.BTreeMap.{insert_entry, is_at}
use Rattle.std.proofs.lemmas.List.{append_assoc}
use Rattle.pickle_ops.specs.declared.opcode.Opcode.{Opcode}
use Rattle.pickle_ops.specs.declared.opcode.Opcode.TheVariants as op
use Rattle.pickle_ops.specs.declared.form.Form.TheVariants as form
use Rattle.pickle_ops.specs.declared.kind.Kind.{Kind}
use Rattle.pickle_ops.specs.declared.kind.Kind.TheVariants as kind
use Rattle.pickle_ops.specs.declared.row.Filling.{Filling}
use Rattle.pickle_ops.specs.declared.row.Filling.TheVariants as filling
use Rattle.pickle_ops.specs.declared.row.Row.{Row}
use Rattle.pickle_ops.specs.declared.row.Row.TheVariants as row
use Rattle.pickle_ops.specs.Shape.{is_quoted}
use Rattle.pickle_ops.specs.Argument.{number_of, integer_of, payload, first_text, second_text}
use Rattle.pickle_further.specs.declared.way.Pickles.{Pickles}
use Rattle.pickle_further.specs.declared.way.Pickles.TheVariants as pickles
use Rattle.pickle_lenient.specs.declared.taken.Taken.{Taken}
use Rattle.pickle_loader.specs.Environment.{PyType, PyTuple, PyList, PyDict, PySet, PyFrozenSet, PyByteArray, PyMemoryView, Value, Plain, Own, Foreign, is_elsewhere, Line, Given, Act, Make, Find, Extension, Call, New, NewEx, Instance, SetState, Fill, Persist, NextBuffer, View, Method, Reply, Raises, Answers, Unpickler, World}
use Rattle.pickle_loader.specs.Unpickler.{Step, Ran, Stopped, Raised, acted, append, answered, ask, get, tell, make, item, pop, on_top, to_mark, pop_mark, can_call, can_call_with, if_able, replaced, viewed_own, viewed_plain, viewed_string, has_memory, viewed, instantiated, is_str, got, put_in, put_by, fill_own, fill, fills, then_raises, fill_pairs, load_literal, load_get, load_put, load_pop_mark}
use Rattle.pickle_loader.specs.Dispatch.{int_key, with_int, dispatch, Loaded, Going, Ended, Failed, loaded, acts_of}
use Rattle.pickle_loader.specs.Listed.{is_listed, listed_of}
use Rattle.pickle_loader.specs.Onward.{load_keyed, dispatch_as, load_taken, again, load_more}
use Rattle.pickle_loader.proofs.Images.{listed-append}
use Rattle.pickle_mixes.specs.Acting.{may_act}

-- ---- what is added

-- so much was added to these acts; nothing that is listed, unless it may be
pub record Adds (may : Bool) (old new : List Act) : Type 0 where
  pub added : List Act
  pub is : new ≡ old ++ added
  pub quiet : may ≡ false → listed_of added ≡ []

append_none : (xs : List Act) → xs ≡ xs ++ []
append_none [] = refl
append_none (x ∷ xs) = ap (λ (l : List Act). x ∷ l) (append_none xs)

pub none_added : (may : Bool) (acts : List Act) → Adds may acts acts
none_added may acts = record { added = []; is = append_none acts; quiet = λ e. refl }

-- it is not listed, unless it may be
abbrev Quiet : Bool → Act → Type 0
Quiet may a = may ≡ false → is_listed a ≡ false

loud : (a : Act) → Quiet true a
loud a e = absurd cc

more : (may : Bool) (old acts : List Act) (a : Act) → Quiet may a → Adds may old acts → Adds may old (acts ++ a ∷ [])
more may old acts a q x = record {
  added = x.added ++ a ∷ [];
  is = ap (λ (l : List Act). l ++ a ∷ []) x.is ∙ append_assoc old x.added (a ∷ []);
  quiet = λ e. listed-append x.added (a ∷ []) ∙ ap (λ (l : List Act). l ++ listed_of (a ∷ [])) (x.quiet e) ∙ ap (λ (b : Bool). if b then a ∷ [] else []) (q e);
}

-- ---- steps

abbrev pub StepAdds : Bool → List Act → Step → Type 0
StepAdds may old (Ran u) = Adds may old u.acts
StepAdds may old (Stopped v u) = Adds may old u.acts
StepAdds may old (Raised acts) = Adds may old acts

either : (may : Bool) (old : List Act) (b : Bool) (x y : Step) → StepAdds may old x → StepAdds may old y → StepAdds may old (if b then x else y)
either may old true x y s t = s
either may old false x y s t = t

-- what goes on from acts to which so much was added
abbrev Next : Bool → List Act → (Unpickler → Step) → Type 0
Next may old go = (q : Unpickler) → Adds may old q.acts → StepAdds may old (go q)

ask_adds : (w : World) (may : Bool) (old : List Act) (a : Act) (u : Unpickler) (go : Value → Unpickler → Step) → Quiet may a → Adds may old u.acts → ((v : Value) → Next may old (go v)) → StepAdds may old (ask w a u go)
ask_adds w may old a u go q x next = by (w.reply u.acts a)
  where
    by : (r : Reply) → StepAdds may old (answered r a u go)
    by Raises = more may old u.acts a q x
    by (Answers t) = next (Foreign t (length u.acts)) (acted a u) (more may old u.acts a q x)

get_adds : (w : World) (may : Bool) (old : List Act) (a : Act) (u : Unpickler) → Quiet may a → Adds may old u.acts → StepAdds may old (get w a u)
get_adds w may old a u q x = ask_adds w may old a u (λ v r. Ran (append v r)) q x (λ v r y. y)

tell_adds : (w : World) (may : Bool) (old : List Act) (a : Act) (u : Unpickler) → Quiet may a → Adds may old u.acts → StepAdds may old (tell w a u)
tell_adds w may old a u q x = ask_adds w may old a u (λ v r. Ran r) q x (λ v r y. y)

make_adds : (may : Bool) (old : List Act) (ty : PyType) (items : List Value) (u : Unpickler) → Adds may old u.acts → StepAdds may old (make ty items u)
make_adds may old ty items u x = more may old u.acts (Make ty items) (λ e. refl) x

pop_adds : (may : Bool) (old : List Act) (n : ℕ) (u : Unpickler) (go : List Value → Unpickler → Step) → Adds may old u.acts → ((vs : List Value) → Next may old (go vs)) → StepAdds may old (pop n u go)
pop_adds may old n u go x next =
    let q : Unpickler = record u { stack = take (length u.stack - n) u.stack } in
    either may old (nat_le n (length u.stack)) (go (drop (length u.stack - n) u.stack) q) (Raised u.acts) (next (drop (length u.stack - n) u.stack) q x) x

top_adds : (may : Bool) (old : List Act) (u : Unpickler) (go : Value → Step) → Adds may old u.acts → ((v : Value) → StepAdds may old (go v)) → StepAdds may old (on_top u go)
top_adds may old u go x next =
    either may old (nat_le 1 (length u.stack)) (go (item (length u.stack - 1) u.stack)) (Raised u.acts) (next (item (length u.stack - 1) u.stack)) x

mark_by : (may : Bool) (old : List Act) (ms : List (List Value)) (u : Unpickler) (go : List Value → Unpickler → Step) → Adds may old u.acts → ((vs : List Value) → Next may old (go vs)) → StepAdds may old (to_mark ms u go)
mark_by may old [] u go x next = x
mark_by may old (s ∷ ms) u go x next = next u.stack (record u { stack = s; metastack = ms }) x

mark_adds : (may : Bool) (old : List Act) (u : Unpickler) (go : List Value → Unpickler → Step) → Adds may old u.acts → ((vs : List Value) → Next may old (go vs)) → StepAdds may old (pop_mark u go)
mark_adds may old u go x next = mark_by may old u.metastack u go x next

able_adds : (w : World) (may : Bool) (old : List Act) (able : Bool) (u : Unpickler) (step : Step) → Adds may old u.acts → StepAdds may old step → StepAdds may old (if_able w able u step)
able_adds w may old true u step x s = s
able_adds w may old false u step x s = ask_adds w may old Method u (λ v q. Raised q.acts) (λ e. refl) x (λ v q y. y)

-- ---- methods

lookup_adds : (may : Bool) (old : List Act) (found : Option Value) (u : Unpickler) → Adds may old u.acts → StepAdds may old (got found u)
lookup_adds may old None u x = x
lookup_adds may old (Some v) u x = x

get_key : (may : Bool) (key : ℕ) (u : Unpickler) → StepAdds may u.acts (load_get key u)
get_key may key u = lookup_adds may u.acts (lookup (is_at (nat_cmp key)) u.memo) u (none_added may u.acts)

put_key : (w : World) (may : Bool) (key : ℕ) (u : Unpickler) → StepAdds may u.acts (load_put w key u)
put_key w may key u =
    top_adds may u.acts u (λ v. tell w Method (record u { memo = insert_entry nat_cmp u.memo key v })) (none_added may u.acts)
    (λ v. tell_adds w may u.acts Method (record u { memo = insert_entry nat_cmp u.memo key v }) (λ e. refl) (none_added may u.acts))

int_adds : (may : Bool) (x : Option ℕ) (u : Unpickler) (go : ℕ → Step) → ((key : ℕ) → StepAdds may u.acts (go key)) → StepAdds may u.acts (with_int x u go)
int_adds may None u go next = none_added may u.acts
int_adds may (Some key) u go next = next key

marked : (w : World) (may : Bool) (u : Unpickler) → StepAdds may u.acts (load_pop_mark w u)
marked w may u = mark_adds may u.acts u (λ items q. tell w Method q) (none_added may u.acts) (λ items q x. tell_adds w may u.acts Method q (λ e. refl) x)

view_own : (may : Bool) (ty : PyType) (u : Unpickler) → StepAdds may u.acts (viewed_own ty u)
view_own may PyByteArray u = more may u.acts u.acts (Make PyMemoryView []) (λ e. refl) (none_added may u.acts)
view_own may PyMemoryView u = none_added may u.acts
view_own may _ u = none_added may u.acts

view_string : (may b : Bool) (u : Unpickler) → StepAdds may u.acts (viewed_string b u)
view_string may true u = none_added may u.acts
view_string may false u = none_added may u.acts

view_plain : (w : World) (may : Bool) (k : Kind) (u : Unpickler) → StepAdds may u.acts (viewed_plain w k u)
view_plain w may (kind.Bytes bytes) u = none_added may u.acts
view_plain w may (kind.LegacyString bytes) u = view_string may w.strings_are_bytes u
view_plain w may (kind.LegacyLine bytes) u = view_string may w.strings_are_bytes u
view_plain w may _ u = none_added may u.acts

replaced_adds : (may : Bool) (old : List Act) (b : Bool) (n : ℕ) (q : Unpickler) → Adds may old q.acts → StepAdds may old (replaced b n q)
replaced_adds may old true n q x = x
replaced_adds may old false n q x = x

view : (w : World) (may : Bool) (v : Value) (u : Unpickler) → StepAdds may u.acts (viewed w v u)
view w may (Plain k) u = view_plain w may k u
view w may (Own ty n) u = view_own may ty u
view w may (Foreign ty n) u =
    either may u.acts (has_memory ty) (ask w (View (Foreign ty n)) u (λ v q. replaced (w.readonly u.acts (Foreign ty n)) (length u.acts) q)) (Raised u.acts)
    (ask_adds w may u.acts (View (Foreign ty n)) u (λ v q. replaced (w.readonly u.acts (Foreign ty n)) (length u.acts) q) (λ e. refl) (none_added may u.acts)
    (λ v q x. replaced_adds may u.acts (w.readonly u.acts (Foreign ty n)) (length u.acts) q x))
    (none_added may u.acts)

-- ---- what is put in

put_adds : (w : World) (old : List Act) (how : Filling) (target : Value) (items : List Value) (u : Unpickler) → Adds true old u.acts → StepAdds true old (put_by w how target items u)
put_adds w old how target items u x = ask_adds w true old Method u (λ v q. put_in how target items q) (loud Method) x (λ v q y. more true old q.acts (Fill how target items) (loud (Fill how target items)) y)

own_adds : (w : World) (old : List Act) (how : Filling) (ty : PyType) (target : Value) (items : List Value) (u : Unpickler) → Adds true old u.acts → StepAdds true old (fill_own w how ty target items u)
own_adds w old filling.Append PyList target items u x = more true old u.acts (Fill filling.Append target items) (loud (Fill filling.Append target items)) x
own_adds w old filling.Append PyByteArray target items u x = put_adds w old filling.Append target items u x
own_adds w old filling.SetItem PyDict target items u x = put_adds w old filling.SetItem target items u x
own_adds w old filling.SetItem PyList target items u x = put_adds w old filling.SetItem target items u x
own_adds w old filling.SetItem PyByteArray target items u x = put_adds w old filling.SetItem target items u x
own_adds w old filling.Add PySet target items u x = put_adds w old filling.Add target items u x
own_adds w old _ _ target items u x = x

fill_adds : (w : World) (old : List Act) (how : Filling) (target : Value) (items : List Value) (u : Unpickler) → Adds true old u.acts → StepAdds true old (fill w how target items u)
fill_adds w old how (Plain k) items u x = x
fill_adds w old how (Own ty n) items u x = own_adds w old how ty (Own ty n) items u x
fill_adds w old how (Foreign ty n) items u x = tell_adds w true old (Fill how (Foreign ty n) items) u (loud (Fill how (Foreign ty n) items)) x

fills_adds : (w : World) (old : List Act) (how : Filling) (target : Value) (items : List Value) (u : Unpickler) → Adds true old u.acts → StepAdds true old (fills w how target items u)
fills_adds w old how target (v ∷ vs) u x = fill_adds w old how target (v ∷ vs) u x
fills_adds w old how (Plain k) [] u x = x
fills_adds w old how (Own ty n) [] u x = x
fills_adds w old how (Foreign ty n) [] u x = either true old w.looks_up_for_nothing (tell w Method u) (Ran u) (tell_adds w true old Method u (loud Method) x) x

raises_adds : (old : List Act) (x : Step) → StepAdds true old x → StepAdds true old (then_raises x)
raises_adds old (Ran u) s = s
raises_adds old (Stopped v u) s = s
raises_adds old (Raised acts) s = s

pairs_adds : (w : World) (old : List Act) (target : Value) (items : List Value) (u : Unpickler) → Adds true old u.acts → StepAdds true old (fill_pairs w target items u)
pairs_adds w old target items u x =
    either true old (length items % 2 == 0) (fills w filling.SetItem target items u) (then_raises (fills w filling.SetItem target (take (length items - 1) items) u))
    (fills_adds w old filling.SetItem target items u x)
    (raises_adds old (fills w filling.SetItem target (take (length items - 1) items) u) (fills_adds w old filling.SetItem target (take (length items - 1) items) u x))

on_target : (w : World) (old : List Act) (how : Filling) (vs : List Value) (q : Unpickler) → Adds true old q.acts → StepAdds true old (on_top q (λ target. fills w how target vs q))
on_target w old how vs q x = top_adds true old q (λ target. fills w how target vs q) x (λ target. fills_adds w old how target vs q x)

instance_adds : (w : World) (old : List Act) (items : List Value) (u : Unpickler) → Adds true old u.acts → StepAdds true old (instantiated w items u)
instance_adds w old [] u x = x
instance_adds w old (cls ∷ args) u x = able_adds w true old (is_elsewhere cls) u (get w (Instance (Some cls) args) u) x (get_adds w true old (Instance (Some cls) args) u (loud (Instance (Some cls) args)) x)

-- ---- each opcode

pub dispatch_adds : (w : World) (o : Opcode) (arg : List ℕ) (u : Unpickler) → StepAdds (may_act o) u.acts (dispatch w o arg u)
dispatch_adds w op.Proto arg u = either false u.acts _ (Ran (record u { proto = number_of form.Uint1 arg })) (Raised u.acts) (none_added false u.acts) (none_added false u.acts)
dispatch_adds w op.Frame arg u = none_added false u.acts
dispatch_adds w op.PersId arg u = get_adds w true u.acts (Persist (Line (payload form.Line arg))) u (loud (Persist (Line (payload form.Line arg)))) (none_added true u.acts)
dispatch_adds w op.BinPersId arg u =
    pop_adds true u.acts 1 u (λ vs q. get w (Persist (Given (item 0 vs))) q) (none_added true u.acts) (λ vs q x. get_adds w true u.acts (Persist (Given (item 0 vs))) q (loud (Persist (Given (item 0 vs)))) x)
dispatch_adds w op.String arg u = either false u.acts (is_quoted (payload form.Quoted arg)) (load_literal (kind.LegacyLine (payload form.Quoted arg)) u) (Raised u.acts) (none_added false u.acts) (none_added false u.acts)
dispatch_adds w op.ByteArray8 arg u = make_adds false u.acts PyByteArray (Plain (kind.Bytes (payload form.Bytes8 arg)) ∷ []) u (none_added false u.acts)
dispatch_adds w op.NextBuffer arg u = get_adds w true u.acts (NextBuffer u.buffers) (record u { buffers = u.buffers + 1 }) (loud (NextBuffer u.buffers)) (none_added true u.acts)
dispatch_adds w op.ReadOnlyBuffer arg u = top_adds false u.acts u (λ v. viewed w v u) (none_added false u.acts) (λ v. view w false v u)
dispatch_adds w op.Tuple arg u = mark_adds false u.acts u (λ items q. make PyTuple items q) (none_added false u.acts) (λ items q x. make_adds false u.acts PyTuple items q x)
dispatch_adds w op.EmptyTuple arg u = make_adds false u.acts PyTuple [] u (none_added false u.acts)
dispatch_adds w op.Tuple1 arg u = pop_adds false u.acts 1 u (λ items q. make PyTuple items q) (none_added false u.acts) (λ items q x. make_adds false u.acts PyTuple items q x)
dispatch_adds w op.Tuple2 arg u = pop_adds false u.acts 2 u (λ items q. make PyTuple items q) (none_added false u.acts) (λ items q x. make_adds false u.acts PyTuple items q x)
dispatch_adds w op.Tuple3 arg u = pop_adds false u.acts 3 u (λ items q. make PyTuple items q) (none_added false u.acts) (λ items q x. make_adds false u.acts PyTuple items q x)
dispatch_adds w op.EmptyList arg u = make_adds false u.acts PyList [] u (none_added false u.acts)
dispatch_adds w op.EmptyDict arg u = make_adds false u.acts PyDict [] u (none_added false u.acts)
dispatch_adds w op.EmptySet arg u = make_adds false u.acts PySet [] u (none_added false u.acts)
dispatch_adds w op.FrozenSet arg u =
    mark_adds false u.acts u (λ items q. ask w Method q (λ v r. make PyFrozenSet items r)) (none_added false u.acts)
    (λ items q x. ask_adds w false u.acts Method q (λ v r. make PyFrozenSet items r) (λ e. refl) x (λ v r y. make_adds false u.acts PyFrozenSet items r y))
dispatch_adds w op.List arg u = mark_adds false u.acts u (λ items q. make PyList items q) (none_added false u.acts) (λ items q x. make_adds false u.acts PyList items q x)
dispatch_adds w op.Dict arg u =
    mark_adds false u.acts u (λ items q. ask w Method q (λ v r. if length items % 2 == 0 then make PyDict items r else Raised r.acts)) (none_added false u.acts)
    (λ items q x. ask_adds w false u.acts Method q (λ v r. if length items % 2 == 0 then make PyDict items r else Raised r.acts) (λ e. refl) x
    (λ v r y. either false u.acts (length items % 2 == 0) (make PyDict items r) (Raised r.acts) (make_adds false u.acts PyDict items r y) y))
dispatch_adds w op.Inst arg u =
    ask_adds w true u.acts (Find u.proto (Line (first_text arg)) (Line (second_text arg))) u (λ found p. pop_mark p (λ items q. get w (Instance None items) q)) (loud (Find u.proto (Line (first_text arg)) (Line (second_text arg)))) (none_added true u.acts)
    (λ v p x. mark_adds true u.acts p (λ items q. get w (Instance None items) q) x (λ items q y. get_adds w true u.acts (Instance None items) q (loud (Instance None items)) y))
dispatch_adds w op.Obj arg u = mark_adds true u.acts u (λ items q. instantiated w items q) (none_added true u.acts) (λ items q x. instance_adds w u.acts items q x)
dispatch_adds w op.NewObj arg u =
    pop_adds true u.acts 2 u (λ vs q. if_able w (can_call (item 0 vs) (item 1 vs)) q (get w (New (item 0 vs) (item 1 vs)) q)) (none_added true u.acts)
    (λ vs q x. able_adds w true u.acts (can_call (item 0 vs) (item 1 vs)) q (get w (New (item 0 vs) (item 1 vs)) q) x (get_adds w true u.acts (New (item 0 vs) (item 1 vs)) q (loud (New (item 0 vs) (item 1 vs))) x))
dispatch_adds w op.NewObjEx arg u =
    pop_adds true u.acts 3 u (λ vs q. if_able w (can_call_with w u.acts (item 0 vs) (item 1 vs) (item 2 vs)) q (get w (NewEx (item 0 vs) (item 1 vs) (item 2 vs)) q)) (none_added true u.acts)
    (λ vs q x. able_adds w true u.acts (can_call_with w u.acts (item 0 vs) (item 1 vs) (item 2 vs)) q (get w (NewEx (item 0 vs) (item 1 vs) (item 2 vs)) q) x
    (get_adds w true u.acts (NewEx (item 0 vs) (item 1 vs) (item 2 vs)) q (loud (NewEx (item 0 vs) (item 1 vs) (item 2 vs))) x))
dispatch_adds w op.Global arg u =
    get_adds w true u.acts (Find u.proto (Line (first_text arg)) (Line (second_text arg))) u (loud (Find u.proto (Line (first_text arg)) (Line (second_text arg)))) (none_added true u.acts)
dispatch_adds w op.StackGlobal arg u =
    pop_adds true u.acts 2 u (λ vs q. if is_str w (item 1 vs)
    then (if is_str w (item 0 vs) then get w (Find q.proto (Given (item 0 vs)) (Given (item 1 vs))) q else Raised q.acts) else Raised q.acts) (none_added true u.acts)
    (λ vs q x. either true u.acts (is_str w (item 1 vs)) (if is_str w (item 0 vs) then get w (Find q.proto (Given (item 0 vs)) (Given (item 1 vs))) q else Raised q.acts) (Raised q.acts)
    (either true u.acts (is_str w (item 0 vs)) (get w (Find q.proto (Given (item 0 vs)) (Given (item 1 vs))) q) (Raised q.acts)
    (get_adds w true u.acts (Find q.proto (Given (item 0 vs)) (Given (item 1 vs))) q (loud (Find q.proto (Given (item 0 vs)) (Given (item 1 vs)))) x) x) x)
dispatch_adds w op.Ext1 arg u = get_adds w true u.acts (Extension (integer_of form.Uint1 arg)) u (loud (Extension (integer_of form.Uint1 arg))) (none_added true u.acts)
dispatch_adds w op.Ext2 arg u = get_adds w true u.acts (Extension (integer_of form.Uint2 arg)) u (loud (Extension (integer_of form.Uint2 arg))) (none_added true u.acts)
dispatch_adds w op.Ext4 arg u = get_adds w true u.acts (Extension (integer_of form.Int4 arg)) u (loud (Extension (integer_of form.Int4 arg))) (none_added true u.acts)
dispatch_adds w op.Reduce arg u =
    pop_adds true u.acts 2 u (λ vs q. if_able w (can_call (item 0 vs) (item 1 vs)) q (get w (Call (item 0 vs) (item 1 vs)) q)) (none_added true u.acts)
    (λ vs q x. able_adds w true u.acts (can_call (item 0 vs) (item 1 vs)) q (get w (Call (item 0 vs) (item 1 vs)) q) x (get_adds w true u.acts (Call (item 0 vs) (item 1 vs)) q (loud (Call (item 0 vs) (item 1 vs))) x))
dispatch_adds w op.Pop arg u =
    either false u.acts (nat_lt 0 (length u.stack)) (tell w Method (record u { stack = take (length u.stack - 1) u.stack })) (load_pop_mark w u)
    (tell_adds w false u.acts Method (record u { stack = take (length u.stack - 1) u.stack }) (λ e. refl) (none_added false u.acts)) (marked w false u)
dispatch_adds w op.PopMark arg u = marked w false u
dispatch_adds w op.Dup arg u = top_adds false u.acts u (λ v. Ran (append v u)) (none_added false u.acts) (λ v. none_added false u.acts)
dispatch_adds w op.Get arg u = int_adds false (int_key (payload form.Decimal arg)) u (λ key. load_get key u) (λ key. get_key false key u)
dispatch_adds w op.BinGet arg u = get_key false (number_of form.Uint1 arg) u
dispatch_adds w op.LongBinGet arg u = get_key false (number_of form.Uint4 arg) u
dispatch_adds w op.Put arg u = int_adds false (int_key (payload form.Decimal arg)) u (λ key. load_put w key u) (λ key. put_key w false key u)
dispatch_adds w op.BinPut arg u = put_key w false (number_of form.Uint1 arg) u
dispatch_adds w op.LongBinPut arg u = put_key w false (number_of form.Uint4 arg) u
dispatch_adds w op.Memoize arg u = put_key w false (length u.memo) u
dispatch_adds w op.Append arg u = pop_adds true u.acts 1 u (λ vs q. on_top q (λ target. fills w filling.Append target vs q)) (none_added true u.acts) (λ vs q x. on_target w u.acts filling.Append vs q x)
dispatch_adds w op.Appends arg u = mark_adds true u.acts u (λ vs q. on_top q (λ target. fills w filling.Append target vs q)) (none_added true u.acts) (λ vs q x. on_target w u.acts filling.Append vs q x)
dispatch_adds w op.SetItem arg u = pop_adds true u.acts 2 u (λ vs q. on_top q (λ target. fills w filling.SetItem target vs q)) (none_added true u.acts) (λ vs q x. on_target w u.acts filling.SetItem vs q x)
dispatch_adds w op.SetItems arg u =
    mark_adds true u.acts u (λ items q. on_top q (λ target. fill_pairs w target items q)) (none_added true u.acts)
    (λ items q x. top_adds true u.acts q (λ target. fill_pairs w target items q) x (λ target. pairs_adds w u.acts target items q x))
dispatch_adds w op.AddItems arg u = mark_adds true u.acts u (λ vs q. on_top q (λ target. fills w filling.Add target vs q)) (none_added true u.acts) (λ vs q x. on_target w u.acts filling.Add vs q x)
dispatch_adds w op.Build arg u =
    pop_adds true u.acts 1 u (λ vs q. on_top q (λ target. tell w (SetState target (item 0 vs)) q)) (none_added true u.acts)
    (λ vs q x. top_adds true u.acts q (λ target. tell w (SetState target (item 0 vs)) q) x (λ target. tell_adds w true u.acts (SetState target (item 0 vs)) q (loud (SetState target (item 0 vs))) x))
dispatch_adds w op.Mark arg u = none_added false u.acts
dispatch_adds w op.Stop arg u = pop_adds false u.acts 1 u (λ vs q. Stopped (item 0 vs) q) (none_added false u.acts) (λ vs q x. x)
dispatch_adds w o arg u = none_added (may_act o) u.acts

-- ---- an item

keyed_adds : (w : World) (r : Row) (u : Unpickler) → StepAdds false u.acts (load_keyed w r u)
keyed_adds w (row.Get key) u = get_key false key u
keyed_adds w (row.Put key) u = put_key w false key u
keyed_adds w _ u = none_added false u.acts

as_adds : (w : World) (r : Row) (o : Opcode) (arg : List ℕ) (u : Unpickler) → StepAdds (may_act o) u.acts (dispatch_as w r o arg u)
as_adds w r op.Frame arg u = keyed_adds w r u
as_adds w r o arg u = dispatch_adds w o arg u

taken_adds : (w : World) (t : Taken) (u : Unpickler) → StepAdds (may_act t.op.opcode) u.acts (load_taken w t u)
taken_adds w t u = either (may_act t.op.opcode) u.acts (w.fails u t.op) (Raised u.acts) (dispatch_as w t.row t.op.opcode t.op.arg u) (none_added (may_act t.op.opcode) u.acts) (as_adds w t.row t.op.opcode t.op.arg u)

loaded_adds : (may : Bool) (old : List Act) (x : Step) → StepAdds may old x → Adds may old (acts_of (loaded x))
loaded_adds may old (Ran u) s = s
loaded_adds may old (Stopped v u) s = s
loaded_adds may old (Raised acts) s = s

again_acts : (p : Pickles) (u : Unpickler) → (again p u).acts ≡ u.acts
again_acts pickles.OneMemo u = refl
again_acts pickles.First u = refl
again_acts pickles.All u = refl

-- what an item adds to what is loaded
pub more_adds : (w : World) (p : Pickles) (t : Taken) (l : Loaded) → Adds (may_act t.op.opcode) (acts_of l) (acts_of (load_more w p t l))
more_adds w p t (Going u) = loaded_adds (may_act t.op.opcode) u.acts (load_taken w t u) (taken_adds w t u)
more_adds w p t (Ended v u) = subst (λ (acts : List Act). Adds (may_act t.op.opcode) acts (acts_of (loaded (load_taken w t (again p u))))) (again_acts p u) (loaded_adds (may_act t.op.opcode) (again p u).acts (load_taken w t (again p u)) (taken_adds w t (again p u)))
more_adds w p t (Failed acts) = none_added (may_act t.op.opcode) acts
