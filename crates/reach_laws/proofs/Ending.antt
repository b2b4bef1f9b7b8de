-- What each opcode does at which loaders end that reached nothing: it raises, and no act reaches something.
use Rattle.std.proofs.Common.{◌≡◌, ℕ, ◌+◌, ◌-◌, Bool, true, false, List, [], ◌∷◌, take, drop, Some, None, refl, sym, ap, subst, ◌∙◌}
use Rattle.std.specs.Prelude.{All, ◌&&◌, ◌||◌, not, if◌then◌else◌, nat_le, length}
use Rattle.std.proofs.lemmas.List.Elements.{All-head, All-take, All-drop}
use Rattle.pickle_ops.specs.declared.opcode.Opcode.{Opcode}
use Rattle.pickle_ops.specs.declared.opcode.Opcode.TheVariants as op
use Rattle.pickle_ops.specs.declared.form.Form.TheVariants as form
use Rattle.pickle_ops.specs.Argument.{integer_of, payload, first_text, second_text}
use Rattle.pickle_loader.specs.Environment.{Value, is_elsewhere, Line, Given, Act, Make, Find, Extension, Call, New, NewEx, Instance, SetState, Fill, Persist, NextBuffer, View, Method, Reply, Raises, Answers, Unpickler, World}
use Rattle.pickle_loader.specs.Unpickler.{Step, Ran, Stopped, Raised, answered, ask, get, item, pop, to_mark, pop_mark, iterates, has_keys, can_call, can_call_with, if_able, instantiated, is_str, append, load_stack_global, load_reduce, load_newobj, load_newobj_ex, load_binpersid}
use Rattle.pickle_loader.specs.Dispatch.{dispatch}
use Rattle.pickle_reach.specs.declared.granted.Granted.{Granted}
use Rattle.pickle_reach.specs.Names.{lines_import}
use Rattle.pickle_reach.specs.Item.{opcode_reaches, opcode_ends, is_unread}
use Rattle.reach_laws.specs.Reached.{value_names, is_refused, act_reaches, NoneReaches, IsGranted}
use Rattle.reach_laws.proofs.Tame.{Tame, AreBelow, own_only, no_name, item_tame, IsTame, act_more}

-- it raised, and no act reaches something
abbrev pub Ends : Granted → Step → Type 0
Ends g (Ran q) = ⊥
Ends g (Stopped v q) = ⊥
Ends g (Raised acts) = NoneReaches g acts

either_ends : (g : Granted) (b : Bool) (x y : Step) → Ends g x → Ends g y → Ends g (if b then x else y)
either_ends g true x y s t = s
either_ends g false x y s t = t

-- ---- what is refused

refused_not : (g : Granted) (a : Act) → is_refused g a ≡ true → act_reaches g a ≡ false
refused_not g (Make ty items) e = refl
refused_not g (Find proto module_name member_name) e = ap not e
refused_not g (Extension code) e = ap not e
refused_not g (Call function arguments) e = let two : false ≡ true = e in absurd cc
refused_not g (New cls arguments) e = let two : false ≡ true = e in absurd cc
refused_not g (NewEx cls arguments keywords) e = let two : false ≡ true = e in absurd cc
refused_not g (Instance cls arguments) e = let two : false ≡ true = e in absurd cc
refused_not g (SetState target state) e = let two : false ≡ true = e in absurd cc
refused_not g (Fill how target items) e = let two : false ≡ true = e in absurd cc
refused_not g (Persist identity) e = ap not e
refused_not g (NextBuffer number) e = ap not e
refused_not g (View value) e = refl
refused_not g Method e = refl

refused : (w : World) (g : Granted) (named : Bool) (a : Act) (u : Unpickler) (go : Value → Unpickler → Step) → IsGranted g w → is_refused g a ≡ true → IsTame g named u → Ends g (ask w a u go)
refused w g named a u go keeps e t =
    subst (λ (r : Reply). Ends g (answered r a u go)) (sym (keeps.refuses u.acts a e)) (act_more g u.acts a (refused_not g a e) t.acts)

-- ---- what cannot be called

unable : (w : World) (g : Granted) (named able : Bool) (u : Unpickler) (step : Step) → able ≡ false → IsTame g named u → Ends g (if_able w able u step)
unable w g named true u step e t = let two : true ≡ false = e in absurd cc
unable w g named false u step e t = by (w.reply u.acts Method)
  where
    by : (r : Reply) → Ends g (answered r Method u (λ v q. Raised q.acts))
    by Raises = act_more g u.acts Method refl t.acts
    by (Answers ty) = act_more g u.acts Method refl t.acts

no_call : (named : Bool) (function arguments : Value) → Tame named function → can_call function arguments ≡ false
no_call named function arguments h = ap (λ (b : Bool). b && iterates arguments) (own_only named function h)

no_call_with : (w : World) (acts : List Act) (named : Bool) (function arguments keywords : Value) → Tame named function → can_call_with w acts function arguments keywords ≡ false
no_call_with w acts named function arguments keywords h = ap (λ (b : Bool). b && has_keys w acts keywords) (no_call named function arguments h)

-- ---- what is taken off the stack

pop_ends : (g : Granted) (named : Bool) (n : ℕ) (u : Unpickler) (go : List Value → Unpickler → Step) → IsTame g named u → ((vs : List Value) (q : Unpickler) → All (Tame named) vs → IsTame g named q → Ends g (go vs q)) → Ends g (pop n u go)
pop_ends g named n u go t next =
    let q : Unpickler = record u { stack = take (length u.stack - n) u.stack } in
    let kept : IsTame g named q = record { stack = All-take (Tame named) (length u.stack - n) u.stack t.stack; below = t.below; memo = t.memo; acts = t.acts } in
    either_ends g (nat_le n (length u.stack)) (go (drop (length u.stack - n) u.stack) q) (Raised u.acts) (next (drop (length u.stack - n) u.stack) q (All-drop (Tame named) (length u.stack - n) u.stack t.stack) kept) t.acts

mark_ends : (g : Granted) (named : Bool) (ms : List (List Value)) (u : Unpickler) (go : List Value → Unpickler → Step) → AreBelow named ms → IsTame g named u
    → ((vs : List Value) (q : Unpickler) → All (Tame named) vs → IsTame g named q → Ends g (go vs q)) → Ends g (to_mark ms u go)
mark_ends g named [] u go below t next = t.acts
mark_ends g named (s ∷ ms) u go below t next = next u.stack (record u { stack = s; metastack = ms }) t.stack (record { stack = below.0; below = below.1; memo = t.memo; acts = t.acts })

instance_ends : (w : World) (g : Granted) (named : Bool) (items : List Value) (u : Unpickler) → All (Tame named) items → IsTame g named u → Ends g (instantiated w items u)
instance_ends w g named [] u all t = t.acts
instance_ends w g named (cls ∷ args) u all t = unable w g named (is_elsewhere cls) u (get w (Instance (Some cls) args) u) (own_only named cls (All-head (Tame named) cls args all)) t

-- ---- each opcode

global_ends : (w : World) (g : Granted) (named : Bool) (arg : List ℕ) (u : Unpickler) (go : Value → Unpickler → Step) → IsGranted g w → lines_import (first_text arg) (second_text arg) ≡ false → IsTame g named u → Ends g (ask w (Find u.proto (Line (first_text arg)) (Line (second_text arg))) u go)
global_ends w g named arg u go keeps none t = refused w g named (Find u.proto (Line (first_text arg)) (Line (second_text arg))) u go keeps (ap not none) t

-- what is found goes onto the stack
abbrev pushes : Value → Unpickler → Step
pushes v q = Ran (append v q)

found_in_texts : World → List Value → Unpickler → Step
found_in_texts w vs q =
    if is_str w (item 1 vs) then (if is_str w (item 0 vs) then get w (Find q.proto (Given (item 0 vs)) (Given (item 1 vs))) q else Raised q.acts) else Raised q.acts

-- of two values that are no such names none is imported
neither : (v m : Value) → Tame false v → Tame false m → (value_names v || value_names m) ≡ false
neither v m one other = ap (λ (b : Bool). b || value_names m) (no_name v one) ∙ no_name m other

texts_end : (w : World) (g : Granted) (vs : List Value) (q : Unpickler) → IsGranted g w → All (Tame false) vs → IsTame g false q → Ends g (found_in_texts w vs q)
unfolding found_in_texts
texts_end w g vs q keeps all h =
    let a : Act = Find q.proto (Given (item 0 vs)) (Given (item 1 vs)) in
    either_ends g (is_str w (item 1 vs)) (if is_str w (item 0 vs) then get w a q else Raised q.acts) (Raised q.acts)
    (either_ends g (is_str w (item 0 vs)) (get w a q) (Raised q.acts) (refused w g false a q pushes keeps (ap not (neither (item 0 vs) (item 1 vs) (item_tame false 0 vs all) (item_tame false 1 vs all))) h) h.acts) h.acts

stack_global_ends : (w : World) (g : Granted) (u : Unpickler) → IsGranted g w → IsTame g false u → Ends g (load_stack_global w u)
unfolding found_in_texts
stack_global_ends w g u keeps t = pop_ends g false 2 u (found_in_texts w) t (λ vs q all h. texts_end w g vs q keeps all h)

reduce_ends : (w : World) (g : Granted) (named : Bool) (u : Unpickler) → IsTame g named u → Ends g (load_reduce w u)
reduce_ends w g named u t =
    pop_ends g named 2 u (λ vs q. if_able w (can_call (item 0 vs) (item 1 vs)) q (get w (Call (item 0 vs) (item 1 vs)) q)) t
    (λ vs q all h. unable w g named (can_call (item 0 vs) (item 1 vs)) q (get w (Call (item 0 vs) (item 1 vs)) q) (no_call named (item 0 vs) (item 1 vs) (item_tame named 0 vs all)) h)

newobj_ends : (w : World) (g : Granted) (named : Bool) (u : Unpickler) → IsTame g named u → Ends g (load_newobj w u)
newobj_ends w g named u t =
    pop_ends g named 2 u (λ vs q. if_able w (can_call (item 0 vs) (item 1 vs)) q (get w (New (item 0 vs) (item 1 vs)) q)) t
    (λ vs q all h. unable w g named (can_call (item 0 vs) (item 1 vs)) q (get w (New (item 0 vs) (item 1 vs)) q) (no_call named (item 0 vs) (item 1 vs) (item_tame named 0 vs all)) h)

newobj_ex_ends : (w : World) (g : Granted) (named : Bool) (u : Unpickler) → IsTame g named u → Ends g (load_newobj_ex w u)
newobj_ex_ends w g named u t =
    pop_ends g named 3 u (λ vs q. if_able w (can_call_with w u.acts (item 0 vs) (item 1 vs) (item 2 vs)) q (get w (NewEx (item 0 vs) (item 1 vs) (item 2 vs)) q)) t
    (λ vs q all h. unable w g named (can_call_with w u.acts (item 0 vs) (item 1 vs) (item 2 vs)) q (get w (NewEx (item 0 vs) (item 1 vs) (item 2 vs)) q) (no_call_with w u.acts named (item 0 vs) (item 1 vs) (item 2 vs) (item_tame named 0 vs all)) h)

binpersid_ends : (w : World) (g : Granted) (named : Bool) (u : Unpickler) → IsGranted g w → g.persistent ≡ false → IsTame g named u → Ends g (load_binpersid w u)
binpersid_ends w g named u keeps none t =
    pop_ends g named 1 u (λ vs q. get w (Persist (Given (item 0 vs))) q) t (λ vs q all h. refused w g named (Persist (Given (item 0 vs))) q pushes keeps (ap not none) h)

pub opcode_ends_tame : (w : World) (g : Granted) (named : Bool) (o : Opcode) (arg : List ℕ) (u : Unpickler) → IsGranted g w → opcode_reaches g named o arg ≡ false → opcode_ends o arg ≡ true → is_unread o arg ≡ false → IsTame g named u → Ends g (dispatch w o arg u)
opcode_ends_tame w g named op.Global arg u keeps none ends read t = global_ends w g named arg u pushes keeps none t
opcode_ends_tame w g named op.Inst arg u keeps none ends read t = global_ends w g named arg u (λ found p. pop_mark p (λ items q. get w (Instance None items) q)) keeps none t
opcode_ends_tame w g named op.StackGlobal arg u keeps none ends read t = stack_global_ends w g u keeps (subst (λ (b : Bool). IsTame g b u) none t)
opcode_ends_tame w g named op.Ext1 arg u keeps none ends read t = refused w g named (Extension (integer_of form.Uint1 arg)) u pushes keeps (ap not none) t
opcode_ends_tame w g named op.Ext2 arg u keeps none ends read t = refused w g named (Extension (integer_of form.Uint2 arg)) u pushes keeps (ap not none) t
opcode_ends_tame w g named op.Ext4 arg u keeps none ends read t = refused w g named (Extension (integer_of form.Int4 arg)) u pushes keeps (ap not none) t
opcode_ends_tame w g named op.PersId arg u keeps none ends read t = refused w g named (Persist (Line (payload form.Line arg))) u pushes keeps (ap not none) t
opcode_ends_tame w g named op.BinPersId arg u keeps none ends read t = binpersid_ends w g named u keeps none t
opcode_ends_tame w g named op.NextBuffer arg u keeps none ends read t =
    refused w g named (NextBuffer u.buffers) (record u { buffers = u.buffers + 1 }) pushes keeps (ap not none) (record { stack = t.stack; below = t.below; memo = t.memo; acts = t.acts })
opcode_ends_tame w g named op.Reduce arg u keeps none ends read t = reduce_ends w g named u t
opcode_ends_tame w g named op.NewObj arg u keeps none ends read t = newobj_ends w g named u t
opcode_ends_tame w g named op.NewObjEx arg u keeps none ends read t = newobj_ex_ends w g named u t
opcode_ends_tame w g named op.Obj arg u keeps none ends read t = mark_ends g named u.metastack u (λ items q. instantiated w items q) t.below t (λ items q all h. instance_ends w g named items q all h)
opcode_ends_tame w g named o arg u keeps none ends read t = let two : true ≡ false = sym ends ∙ read in absurd cc
