-- One step of the unpickler in C is one of the unpickler in Python.
use Rattle.std.proofs.Common.{◌≡◌, ℕ, ◌+◌, ◌-◌, Bool, true, false, List, [], ◌∷◌, ◌++◌, length, take, drop, Option, Some, None, refl, sym, ap, subst, ◌∙◌}
use Rattle.std.specs.Prelude.{ℤ, pos, int_lt, nat_le, ◌&&◌, ◌==◌, ◌%◌, if◌then◌else◌}
use Rattle.std.specs.Map.{lookup}
use Rattle.std.specs.Ordering.{nat_cmp}
use Rattle.std.specs.BTreeMap.{insert_entry, is_at}
use Rattle.pickle_ops.specs.declared.opcode.Opcode.{Opcode}
use Rattle.pickle_ops.specs.declared.opcode.Opcode.TheVariants as op
use Rattle.pickle_ops.specs.declared.form.Form.TheVariants as form
use Rattle.pickle_ops.specs.declared.kind.Kind.{Kind}
use Rattle.pickle_ops.specs.declared.kind.Kind.TheVariants as kind
use Rattle.pickle_ops.specs.declared.row.Filling.{Filling}
use Rattle.pickle_ops.specs.declared.row.Filling.TheVariants as filling
use Rattle.pickle_ops.specs.Table.{form_of}
use Rattle.pickle_ops.specs.Shape.{text_of, value_fault}
use Rattle.pickle_ops.specs.Argument.{number_of, integer_of, first_text, second_text}
use Rattle.pickle_loader.specs.Environment.{PyType, PyStr, PyTuple, PyList, PyDict, PySet, PyFrozenSet, PyByteArray, PyMemoryView, PyOther, Value, Plain, Own, Foreign, is_elsewhere, Line, Given, Act, Make, Find, Extension, Call, New, NewEx, Instance, SetState, Fill, Persist, View, Method, Reply, Raises, Answers, Unpickler, World}
use Rattle.pickle_loader.specs.Unpickler as py
use Rattle.pickle_loader.specs.Unpickler.{Step, Ran, Stopped, Raised, item, is_str, is_string, has_keys, has_memory, iterates, can_call, can_call_with}
use Rattle.pickle_loader.specs.Dispatch as loop
use Rattle.pickle_loader.specs.FlatStack.{Flat, Popped, fence, flat_push, flat_pop, flat_top, flat_mark, flat_cut, flat_load_pop, above, AreFenced, IsOneStack, PopsAs, LooksAs, CutsAs, DropsAs}
use Rattle.pickle_loader.specs.CUnpickler as inc
use Rattle.pickle_loader.specs.CUnpickler.{CUnpickler, CStep, CRan, CStopped, CRaised, is_tuple, is_dict, are_call, are_call_with, are_pairs, seen}
use Rattle.pickle_loader.specs.CLoad.{only_if, asked, raises, as_in_c}
use Rattle.pickle_loader.proofs.FlatStacks.{one_stack}
use Rattle.pickle_loader.proofs.Keys.{plain_key, plain_int, quoted_text}

-- ---- the same step

abbrev pub Fenced : CUnpickler → Type 0
Fenced u = AreFenced u.stack.marks (length u.stack.cells)

-- what the step in C comes to is what this one comes to, and marks are within the stack
abbrev pub Same : CStep → Step → Type 0
Same (CRan q) x = Fenced q × (Ran (seen q) ≡ x)
Same (CStopped v q) x = Fenced q × (Stopped v (seen q) ≡ x)
Same (CRaised acts) x = Raised acts ≡ x

pub same_is : (a : CStep) (x y : Step) → x ≡ y → Same a x → Same a y
same_is a x y e = subst (λ (z : Step). Same a z) e

one : (u : CUnpickler) → Fenced u → IsOneStack u.stack (seen u)
one u f = record { fenced = f; stack = refl; metastack = refl }

-- with another stack
same_stack : (u : CUnpickler) (f : Flat) (vs : List Value) (ms : List (List Value)) → IsOneStack f (record (seen u) { stack = vs; metastack = ms }) → record (seen u) { stack = vs; metastack = ms } ≡ seen (record u { stack = f })
same_stack u f vs ms is = ap (λ (l : List Value). record (seen u) { stack = l; metastack = ms }) is.stack ∙ ap (λ (r : List (List Value)). record (seen u) { stack = above f; metastack = r }) is.metastack

-- ---- what is taken off the stack

-- both raise; or both go on with the same values, and what is left is the same
abbrev Takes : CUnpickler → Option Popped → ((List Value → Unpickler → Step) → Step) → Type 0
Takes u None take = (to : List Value → Unpickler → Step) → take to ≡ Raised u.acts
Takes u (Some x) take = Fenced (record u { stack = x.rest }) × ((to : List Value → Unpickler → Step) → take to ≡ to x.items (seen (record u { stack = x.rest })))

pop_by : (n : ℕ) (u : CUnpickler) (x : Option Popped) → PopsAs n (seen u) x → Takes u x (py.pop n (seen u))
pop_by n u None pops = pops
pop_by n u (Some x) pops = (pops.0.fenced, λ to. pops.1 to ∙ ap (to x.items) (same_stack u x.rest (take (length (seen u).stack - n) (seen u).stack) (seen u).metastack pops.0))

pop_takes : (n : ℕ) (u : CUnpickler) → Fenced u → Takes u (flat_pop n u.stack) (py.pop n (seen u))
pop_takes n u f = pop_by n u (flat_pop n u.stack) (one_stack.pops u.stack (seen u) n (one u f))

cut_by : (u : CUnpickler) (x : Option Popped) → CutsAs (seen u) x → Takes u x (py.pop_mark (seen u))
cut_by u None cuts = cuts
cut_by u (Some x) (vs, ms, is, cuts) = (is.fenced, λ to. cuts to ∙ ap (to x.items) (same_stack u x.rest vs ms is))

cut_takes : (u : CUnpickler) → Fenced u → Takes u (flat_cut u.stack) (py.pop_mark (seen u))
cut_takes u f = cut_by u (flat_cut u.stack) (one_stack.cuts u.stack (seen u) (one u f))

takes : (u : CUnpickler) (x : Option Popped) (take : (List Value → Unpickler → Step) → Step) (go : List Value → CUnpickler → CStep) (to : List Value → Unpickler → Step) → Takes u x take
    → ((vs : List Value) (q : CUnpickler) → Fenced q → Same (go vs q) (to vs (seen q))) → Same (inc.popped x u go) (take to)
takes u None take go to t all = sym (t to)
takes u (Some x) take go to t all = same_is (go x.items (record u { stack = x.rest })) (to x.items (seen (record u { stack = x.rest }))) (take to) (sym (t.1 to)) (all x.items (record u { stack = x.rest }) t.0)

either : (b : Bool) (x : Step) (acts : List Act) → x ≡ Raised acts → Raised acts ≡ (if b then Raised acts else x)
either true x acts e = refl
either false x acts e = sym e

-- what is asked of it first
checks : (u : CUnpickler) (x : Option Popped) (take : (List Value → Unpickler → Step) → Step) (good : List Value → Bool) (go : List Value → CUnpickler → CStep) (to : List Value → Unpickler → Step) → Takes u x take
    → ((vs : List Value) (q : CUnpickler) → good vs ≡ true → Fenced q → Same (go vs q) (to vs (seen q)))
    → Same (inc.popped x u (λ vs q. inc.only_if (good vs) q (go vs q))) (if raises (take (λ vs q. only_if (good vs) q)) then Raised u.acts else take to)
checks u None take good go to t all = either (raises (take (λ vs q. only_if (good vs) q))) (take to) u.acts (t to)
checks u (Some x) take good go to t all =
    let q : CUnpickler = record u { stack = x.rest } in
    same_is (inc.only_if (good x.items) q (go x.items q)) (if raises (only_if (good x.items) (seen q)) then Raised u.acts else take to) (if raises (take (λ vs q. only_if (good vs) q)) then Raised u.acts else take to)
    (ap (λ (z : Step). if raises z then Raised u.acts else take to) (sym (t.1 (λ vs q. only_if (good vs) q)))) (by (good x.items) refl)
  where
    by : (b : Bool) → good x.items ≡ b → Same (inc.only_if b (record u { stack = x.rest }) (go x.items (record u { stack = x.rest }))) (if raises (only_if b (seen (record u { stack = x.rest }))) then Raised u.acts else take to)
    by true is = same_is (go x.items (record u { stack = x.rest })) (to x.items (seen (record u { stack = x.rest }))) (take to) (sym (t.1 to)) (all x.items (record u { stack = x.rest }) is t.0)
    by false is = refl

pops : (n : ℕ) (u : CUnpickler) (go : List Value → CUnpickler → CStep) (to : List Value → Unpickler → Step) → Fenced u → ((vs : List Value) (q : CUnpickler) → Fenced q → Same (go vs q) (to vs (seen q))) → Same (inc.pop n u go) (py.pop n (seen u) to)
pops n u go to f all = takes u (flat_pop n u.stack) (py.pop n (seen u)) go to (pop_takes n u f) all

cuts : (u : CUnpickler) (go : List Value → CUnpickler → CStep) (to : List Value → Unpickler → Step) → Fenced u → ((vs : List Value) (q : CUnpickler) → Fenced q → Same (go vs q) (to vs (seen q))) → Same (inc.cut u go) (py.pop_mark (seen u) to)
cuts u go to f all = takes u (flat_cut u.stack) (py.pop_mark (seen u)) go to (cut_takes u f) all

looked : (u : CUnpickler) (x : Option Value) (go : Value → CStep) (to : Value → Step) → LooksAs (seen u) x → ((v : Value) → Same (go v) (to v)) → Same (inc.looked x u go) (py.on_top (seen u) to)
looked u None go to looks all = sym (looks to)
looked u (Some v) go to looks all = same_is (go v) (to v) (py.on_top (seen u) to) (sym (looks to)) (all v)

tops : (u : CUnpickler) (go : Value → CStep) (to : Value → Step) → Fenced u → ((v : Value) → Same (go v) (to v)) → Same (inc.on_top u go) (py.on_top (seen u) to)
tops u go to f all = looked u (flat_top u.stack) go to (one_stack.looks u.stack (seen u) (one u f)) all

-- ---- what is asked and put on

pushed : (v : Value) (u : CUnpickler) → Fenced u → Same (CRan (inc.push v u)) (Ran (py.append v (seen u)))
pushed v u f =
    let is : IsOneStack (flat_push v u.stack) (py.append v (seen u)) = one_stack.pushes u.stack (seen u) v (one u f) in
    (is.fenced, ap Ran (sym (same_stack u (flat_push v u.stack) ((seen u).stack ++ v ∷ []) (seen u).metastack is)))

answered : (r : Reply) (a : Act) (u : CUnpickler) (go : Value → CUnpickler → CStep) (to : Value → Unpickler → Step) → Fenced u → ((v : Value) (q : CUnpickler) → Fenced q → Same (go v q) (to v (seen q))) → Same (inc.answered r a u go) (py.answered r a (seen u) to)
answered Raises a u go to f all = refl
answered (Answers t) a u go to f all = all (Foreign t (length u.acts)) (inc.acted a u) f

asks : (w : World) (a : Act) (u : CUnpickler) (go : Value → CUnpickler → CStep) (to : Value → Unpickler → Step) → Fenced u → ((v : Value) (q : CUnpickler) → Fenced q → Same (go v q) (to v (seen q))) → Same (inc.ask w a u go) (py.ask (as_in_c w) a (seen u) to)
asks w a u go to f all = answered (w.reply u.acts a) a u go to f all

gets : (w : World) (a : Act) (u : CUnpickler) → Fenced u → Same (inc.get w a u) (py.get (as_in_c w) a (seen u))
gets w a u f = asks w a u (λ v q. CRan (inc.push v q)) (λ v q. Ran (py.append v q)) f (λ v q g. pushed v q g)

tells : (w : World) (a : Act) (u : CUnpickler) → Fenced u → Same (inc.tell w a u) (py.tell (as_in_c w) a (seen u))
tells w a u f = asks w a u (λ v q. CRan q) (λ v q. Ran q) f (λ v q g. (g, refl))

makes : (t : PyType) (items : List Value) (u : CUnpickler) → Fenced u → Same (inc.make t items u) (py.make t items (seen u))
makes t items u f = pushed (Own t (length u.acts)) (inc.acted (Make t items) u) f

-- ---- functions that ask first

both_true : (a b : Bool) → (a && b) ≡ true → (a ≡ true) × (b ≡ true)
both_true true b e = (refl, e)
both_true false b e = absurd cc

and_true : (a b : Bool) → a ≡ true → b ≡ true → (a && b) ≡ true
and_true true b e f = f
and_true false b e f = absurd cc

tuple_iterates : (v : Value) → is_tuple v ≡ true → iterates v ≡ true
tuple_iterates (Plain k) e = absurd cc
tuple_iterates (Own t n) e = refl
tuple_iterates (Foreign t n) e = refl

dict_keyed : (w : World) (acts : List Act) (v : Value) → is_dict w acts v ≡ true → has_keys (as_in_c w) acts v ≡ true
dict_keyed w acts (Own PyDict n) e = refl
dict_keyed w acts (Foreign PyDict n) e = e
dict_keyed w acts (Foreign PyOther n) e = e
dict_keyed w acts _ e = absurd cc

able : (vs : List Value) → are_call vs ≡ true → can_call (item 0 vs) (item 1 vs) ≡ true
able vs e =
    let both = both_true (is_elsewhere (item 0 vs)) (is_tuple (item 1 vs)) e in
    and_true (is_elsewhere (item 0 vs)) (iterates (item 1 vs)) both.0 (tuple_iterates (item 1 vs) both.1)

able_with : (w : World) (acts : List Act) (vs : List Value) → are_call_with w acts vs ≡ true → can_call_with (as_in_c w) acts (item 0 vs) (item 1 vs) (item 2 vs) ≡ true
able_with w acts vs e =
    let both = both_true (are_call vs) (is_dict w acts (item 2 vs)) e in
    and_true (can_call (item 0 vs) (item 1 vs)) (has_keys (as_in_c w) acts (item 2 vs)) (able vs both.0) (dict_keyed w acts (item 2 vs) both.1)

gets_able : (w : World) (a : Act) (b : Bool) (u : CUnpickler) → b ≡ true → Fenced u → Same (inc.get w a u) (py.if_able (as_in_c w) b (seen u) (py.get (as_in_c w) a (seen u)))
gets_able w a true u e f = gets w a u f
gets_able w a false u e f = absurd cc

calls : (w : World) (act : List Value → Act) (u : CUnpickler) → Fenced u
    → Same (inc.pop 2 u (λ vs q. inc.only_if (are_call vs) q (inc.get w (act vs) q)))
    (if raises (py.pop 2 (seen u) (λ vs q. only_if (are_call vs) q)) then Raised u.acts else py.pop 2 (seen u) (λ vs q. py.if_able (as_in_c w) (can_call (item 0 vs) (item 1 vs)) q (py.get (as_in_c w) (act vs) q)))
calls w act u f =
    checks u (flat_pop 2 u.stack) (py.pop 2 (seen u)) are_call (λ vs q. inc.get w (act vs) q) (λ vs q. py.if_able (as_in_c w) (can_call (item 0 vs) (item 1 vs)) q (py.get (as_in_c w) (act vs) q)) (pop_takes 2 u f)
    (λ vs q good g. gets_able w (act vs) (can_call (item 0 vs) (item 1 vs)) q (able vs good) g)

calls_with : (w : World) (u : CUnpickler) → Fenced u
    → Same (inc.load_newobj_ex w u) (if raises (py.pop 3 (seen u) (λ vs q. only_if (are_call_with w u.acts vs) q)) then Raised u.acts else py.load_newobj_ex (as_in_c w) (seen u))
calls_with w u f =
    checks u (flat_pop 3 u.stack) (py.pop 3 (seen u)) (are_call_with w u.acts) (λ vs q. inc.get w (NewEx (item 0 vs) (item 1 vs) (item 2 vs)) q)
    (λ vs q. py.if_able (as_in_c w) (can_call_with (as_in_c w) u.acts (item 0 vs) (item 1 vs) (item 2 vs)) q (py.get (as_in_c w) (NewEx (item 0 vs) (item 1 vs) (item 2 vs)) q)) (pop_takes 3 u f)
    (λ vs q good g. gets_able w (NewEx (item 0 vs) (item 1 vs) (item 2 vs)) (can_call_with (as_in_c w) u.acts (item 0 vs) (item 1 vs) (item 2 vs)) q (able_with w u.acts vs good) g)

instantiates : (w : World) (items : List Value) (u : CUnpickler) → is_elsewhere (item 0 items) ≡ true → Fenced u → Same (inc.instantiated w items u) (py.instantiated (as_in_c w) items (seen u))
instantiates w [] u good f = refl
instantiates w (v ∷ vs) u good f = gets_able w (Instance (Some v) vs) (is_elsewhere v) u good f

objs : (w : World) (u : CUnpickler) → Fenced u
    → Same (inc.load_obj w u) (if raises (py.pop_mark (seen u) (λ items q. only_if (is_elsewhere (item 0 items)) q)) then Raised u.acts else py.load_obj (as_in_c w) (seen u))
objs w u f =
    checks u (flat_cut u.stack) (py.pop_mark (seen u)) (λ items. is_elsewhere (item 0 items)) (λ items q. inc.instantiated w items q) (λ items q. py.instantiated (as_in_c w) items q) (cut_takes u f)
    (λ vs q good g. instantiates w vs q good g)

dicts : (w : World) (u : CUnpickler) → Fenced u
    → Same (inc.load_dict w u) (if raises (py.pop_mark (seen u) (λ items q. only_if (are_pairs items) q)) then Raised u.acts else py.load_dict (as_in_c w) (seen u))
dicts w u f =
    checks u (flat_cut u.stack) (py.pop_mark (seen u)) are_pairs (λ items q. inc.ask w Method q (λ v r. inc.make PyDict items r))
    (λ items q. py.ask (as_in_c w) Method q (λ v r. if length items % 2 == 0 then py.make PyDict items r else Raised r.acts)) (cut_takes u f)
    (λ vs q good g. asks w Method q (λ v r. inc.make PyDict vs r) (λ v r. if length vs % 2 == 0 then py.make PyDict vs r else Raised r.acts) g (λ v r h. even vs r (length vs % 2 == 0) good h))
  where
    even : (vs : List Value) (r : CUnpickler) (b : Bool) → b ≡ true → Fenced r → Same (inc.make PyDict vs r) (if b then py.make PyDict vs (seen r) else Raised r.acts)
    even vs r true e h = makes PyDict vs r h
    even vs r false e h = absurd cc

extends : (w : World) (code : ℤ) (b : Bool) (u : CUnpickler) → Fenced u → Same (inc.only_if b u (inc.get w (Extension code) u)) (if raises (only_if b (seen u)) then Raised u.acts else py.get (as_in_c w) (Extension code) (seen u))
extends w code true u f = gets w (Extension code) u f
extends w code false u f = refl

-- INST finds its mark first
inst_by : (w : World) (first second : List ℕ) (u : CUnpickler) (x : Option Popped) → Fenced u → Takes u x (py.pop_mark (seen u)) → ((a : Act) → Takes (inc.acted a u) x (py.pop_mark (seen (inc.acted a u))))
    → Same (inc.popped x u (λ items q. inc.ask w (Find q.proto (Line first) (Line second)) q (λ found r. inc.get w (Instance None items) r)))
    (if raises (py.pop_mark (seen u) (λ items q. Ran q)) then Raised u.acts else py.load_inst (as_in_c w) first second (seen u))
inst_by w first second u None f t more = ap (λ (z : Step). if raises z then Raised u.acts else py.load_inst (as_in_c w) first second (seen u)) (sym (t (λ items q. Ran q)))
inst_by w first second u (Some x) f t more =
    same_is (inc.ask w a q (λ found r. inc.get w (Instance None x.items) r)) (py.load_inst (as_in_c w) first second (seen u)) (if raises (py.pop_mark (seen u) (λ items q. Ran q)) then Raised u.acts else py.load_inst (as_in_c w) first second (seen u))
    (ap (λ (z : Step). if raises z then Raised u.acts else py.load_inst (as_in_c w) first second (seen u)) (sym (t.1 (λ items q. Ran q))))
    (by (w.reply u.acts a))
  where
    a : Act
    a = Find u.proto (Line first) (Line second)

    q : CUnpickler
    q = record u { stack = x.rest }

    by : (r : Reply) → Same (inc.answered r a q (λ found r. inc.get w (Instance None x.items) r)) (py.answered r a (seen u) (λ found r. py.pop_mark r (λ items s. py.get (as_in_c w) (Instance None items) s)))
    by Raises = refl
    by (Answers y) =
        takes (inc.acted a u) (Some x) (py.pop_mark (seen (inc.acted a u))) (λ items s. inc.get w (Instance None items) s) (λ items s. py.get (as_in_c w) (Instance None items) s) (more a) (λ vs s g. gets w (Instance None vs) s g)

insts : (w : World) (first second : List ℕ) (u : CUnpickler) → Fenced u → Same (inc.load_inst w first second u) (if raises (py.pop_mark (seen u) (λ items q. Ran q)) then Raised u.acts else py.load_inst (as_in_c w) first second (seen u))
insts w first second u f = inst_by w first second u (flat_cut u.stack) f (cut_takes u f) (λ a. cut_takes (inc.acted a u) f)

-- ---- other functions

protos : (b : Bool) (n : ℕ) (u : CUnpickler) → Fenced u → Same (if b then CRan (record u { proto = n }) else CRaised u.acts) (if b then Ran (record (seen u) { proto = n }) else Raised u.acts)
protos true n u f = (f, refl)
protos false n u f = refl

-- what is a text is the same
string_same : (w : World) (k : Kind) → is_string w k ≡ is_string (as_in_c w) k
string_same w (kind.Text bytes) = refl
string_same w (kind.LegacyString bytes) = refl
string_same w (kind.LegacyLine bytes) = refl
string_same w _ = refl

text_same : (w : World) (v : Value) → is_str w v ≡ is_str (as_in_c w) v
text_same w (Plain k) = string_same w k
text_same w (Own t n) = refl
text_same w (Foreign PyStr n) = refl
text_same w (Foreign _ n) = refl

names_by : (w : World) (a : Act) (b c : Bool) (u : CUnpickler) → Fenced u → Same (inc.only_if b u (inc.only_if c u (inc.get w a u))) (if b then (if c then py.get (as_in_c w) a (seen u) else Raised u.acts) else Raised u.acts)
names_by w a true true u f = gets w a u f
names_by w a true false u f = refl
names_by w a false c u f = refl

names : (w : World) (a : Act) (vs : List Value) (u : CUnpickler) → Fenced u
    → Same (inc.only_if (is_str w (item 1 vs)) u (inc.only_if (is_str w (item 0 vs)) u (inc.get w a u)))
    (if is_str (as_in_c w) (item 1 vs) then (if is_str (as_in_c w) (item 0 vs) then py.get (as_in_c w) a (seen u) else Raised u.acts) else Raised u.acts)
names w a vs u f =
    same_is (inc.only_if (is_str w (item 1 vs)) u (inc.only_if (is_str w (item 0 vs)) u (inc.get w a u)))
    (if is_str w (item 1 vs) then (if is_str w (item 0 vs) then py.get (as_in_c w) a (seen u) else Raised u.acts) else Raised u.acts)
    (if is_str (as_in_c w) (item 1 vs) then (if is_str (as_in_c w) (item 0 vs) then py.get (as_in_c w) a (seen u) else Raised u.acts) else Raised u.acts)
    (ap (λ (b : Bool). if b then (if is_str w (item 0 vs) then py.get (as_in_c w) a (seen u) else Raised u.acts) else Raised u.acts) (text_same w (item 1 vs))
    ∙ ap (λ (b : Bool). if is_str (as_in_c w) (item 1 vs) then (if b then py.get (as_in_c w) a (seen u) else Raised u.acts) else Raised u.acts) (text_same w (item 0 vs)))
    (names_by w a (is_str w (item 1 vs)) (is_str w (item 0 vs)) u f)

dropped : (w : World) (u : CUnpickler) (x : Option Flat) → DropsAs (as_in_c w) (seen u) x → Same (inc.dropped w x u) (py.load_pop (as_in_c w) (seen u))
dropped w u None drops = sym drops
dropped w u (Some f) (vs, ms, is, drops) =
    same_is (inc.tell w Method (record u { stack = f })) (py.tell (as_in_c w) Method (seen (record u { stack = f }))) (py.load_pop (as_in_c w) (seen u))
    (sym (drops ∙ ap (py.tell (as_in_c w) Method) (same_stack u f vs ms is))) (tells w Method (record u { stack = f }) is.fenced)

found : (x : Option Value) (u : CUnpickler) → Fenced u → Same (inc.got x u) (py.got x (seen u))
found None u f = refl
found (Some v) u f = pushed v u f

puts : (w : World) (key : ℕ) (u : CUnpickler) → Fenced u → Same (inc.load_put w key u) (py.load_put (as_in_c w) key (seen u))
puts w key u f =
    tops u (λ v. inc.tell w Method (record u { memo = insert_entry nat_cmp u.memo key v })) (λ v. py.tell (as_in_c w) Method (record (seen u) { memo = insert_entry nat_cmp u.memo key v })) f
    (λ v. tells w Method (record u { memo = insert_entry nat_cmp u.memo key v }) f)

marks : (u : CUnpickler) → Fenced u → Same (inc.load_mark u) (py.load_mark (seen u))
marks u f =
    let is = one_stack.marks u.stack (seen u) (one u f) in
    (is.fenced, ap Ran (sym (same_stack u (flat_mark u.stack) [] ((seen u).stack ∷ (seen u).metastack) is)))

-- ---- views

-- the top is exchanged
exchanged : (n : ℕ) (b : Bool) (u : CUnpickler) → IsOneStack (record u.stack { cells = take (length u.stack.cells - 1) u.stack.cells }) (record (seen u) { stack = take (length (seen u).stack - 1) (seen u).stack }) → Fenced u
    → Same (inc.replaced b n u) (py.replaced b n (seen u))
exchanged n true u low f = (f, refl)
exchanged n false u low f =
    let v : Value = Own PyMemoryView n in
    let rest : Flat = record u.stack { cells = take (length u.stack.cells - 1) u.stack.cells } in
    let is = one_stack.pushes rest (record (seen u) { stack = take (length (seen u).stack - 1) (seen u).stack }) v low in
    (is.fenced, ap Ran (sym (same_stack u (flat_push v rest) (take (length (seen u).stack - 1) (seen u).stack ++ v ∷ []) (seen u).metastack is)))

Lower : CUnpickler → Type 0
Lower u = IsOneStack (record u.stack { cells = take (length u.stack.cells - 1) u.stack.cells }) (record (seen u) { stack = take (length (seen u).stack - 1) (seen u).stack })

-- it is of the stack alone
lower_acted : (a : Act) (u : CUnpickler) → Lower u → Lower (inc.acted a u)
unfolding Lower
lower_acted a u low = record { fenced = low.fenced; stack = low.stack; metastack = low.metastack }

views_own : (t : PyType) (u : CUnpickler) → Lower u → Fenced u → Same (inc.viewed_own t u) (py.viewed_own t (seen u))
unfolding Lower
views_own PyByteArray u low f = exchanged (length u.acts) false (inc.acted (Make PyMemoryView []) u) (lower_acted (Make PyMemoryView []) u low) f
views_own PyMemoryView u low f = (f, refl)
views_own _ u low f = refl

views_string : (b : Bool) (u : CUnpickler) → Fenced u → Same (inc.only_if b u (CRan u)) (py.viewed_string b (seen u))
views_string true u f = (f, refl)
views_string false u f = refl

views_plain : (w : World) (k : Kind) (u : CUnpickler) → Fenced u → Same (inc.viewed_plain w k u) (py.viewed_plain (as_in_c w) k (seen u))
views_plain w (kind.Bytes bytes) u f = (f, refl)
views_plain w (kind.LegacyString bytes) u f = views_string w.strings_are_bytes u f
views_plain w (kind.LegacyLine bytes) u f = views_string w.strings_are_bytes u f
views_plain w _ u f = refl

views_foreign : (w : World) (t : PyType) (n : ℕ) (b : Bool) (u : CUnpickler) → Lower u → Fenced u
    → Same (if b then inc.ask w (View (Foreign t n)) u (λ v q. inc.replaced (w.readonly u.acts (Foreign t n)) (length u.acts) q) else CRaised u.acts)
    (if b then py.ask (as_in_c w) (View (Foreign t n)) (seen u) (λ v q. py.replaced (w.readonly u.acts (Foreign t n)) (length u.acts) q) else Raised u.acts)
unfolding Lower
views_foreign w t n true u low f = by (w.reply u.acts (View (Foreign t n)))
  where
    by : (r : Reply) → Same (inc.answered r (View (Foreign t n)) u (λ v q. inc.replaced (w.readonly u.acts (Foreign t n)) (length u.acts) q)) (py.answered r (View (Foreign t n)) (seen u) (λ v q. py.replaced (w.readonly u.acts (Foreign t n)) (length u.acts) q))
    by Raises = refl
    by (Answers x) = exchanged (length u.acts) (w.readonly u.acts (Foreign t n)) (inc.acted (View (Foreign t n)) u) (lower_acted (View (Foreign t n)) u low) f
views_foreign w t n false u low f = refl

views : (w : World) (v : Value) (u : CUnpickler) → Lower u → Fenced u → Same (inc.viewed w v u) (py.viewed (as_in_c w) v (seen u))
views w (Plain k) u low f = views_plain w k u f
views w (Own t n) u low f = views_own t u low f
views w (Foreign t n) u low f = views_foreign w t n (has_memory t) u low f

-- what is looked at could be popped
views_by : (w : World) (u : CUnpickler) (b : Bool) → Fenced u → LooksAs (seen u) (if b then Some (item (length u.stack.cells - 1) u.stack.cells) else None)
    → PopsAs 1 (seen u) (if b then Some (record { items = drop (length u.stack.cells - 1) u.stack.cells; rest = record u.stack { cells = take (length u.stack.cells - 1) u.stack.cells } }) else None)
    → Same (inc.looked (if b then Some (item (length u.stack.cells - 1) u.stack.cells) else None) u (λ v. inc.viewed w v u)) (py.on_top (seen u) (λ v. py.viewed (as_in_c w) v (seen u)))
unfolding Lower
views_by w u true f looks pops =
    let v : Value = item (length u.stack.cells - 1) u.stack.cells in
    same_is (inc.viewed w v u) (py.viewed (as_in_c w) v (seen u)) (py.on_top (seen u) (λ v. py.viewed (as_in_c w) v (seen u))) (sym (looks (λ v. py.viewed (as_in_c w) v (seen u)))) (views w v u pops.0 f)
views_by w u false f looks pops = sym (looks (λ v. py.viewed (as_in_c w) v (seen u)))

readonly : (w : World) (u : CUnpickler) → Fenced u → Same (inc.load_readonly_buffer w u) (py.load_readonly_buffer (as_in_c w) (seen u))
readonly w u f = views_by w u (nat_le (fence u.stack.marks + 1) (length u.stack.cells)) f (one_stack.looks u.stack (seen u) (one u f)) (one_stack.pops u.stack (seen u) 1 (one u f))

-- ---- fills

puts_in : (how : Filling) (target : Value) (items : List Value) (u : CUnpickler) → Fenced u → Same (inc.put_in how target items u) (py.put_in how target items (seen u))
puts_in how target items u f = (f, refl)

puts_by : (w : World) (how : Filling) (target : Value) (items : List Value) (u : CUnpickler) → Fenced u → Same (inc.put_by w how target items u) (py.put_by (as_in_c w) how target items (seen u))
puts_by w how target items u f = asks w Method u (λ v q. inc.put_in how target items q) (λ v q. py.put_in how target items q) f (λ v q g. puts_in how target items q g)

fills_own : (w : World) (how : Filling) (t : PyType) (target : Value) (items : List Value) (u : CUnpickler) → Fenced u → Same (inc.fill_own w how t target items u) (py.fill_own (as_in_c w) how t target items (seen u))
fills_own w filling.Append PyList target items u f = puts_in filling.Append target items u f
fills_own w filling.Append PyByteArray target items u f = puts_by w filling.Append target items u f
fills_own w filling.SetItem PyDict target items u f = puts_by w filling.SetItem target items u f
fills_own w filling.SetItem PyList target items u f = puts_by w filling.SetItem target items u f
fills_own w filling.SetItem PyByteArray target items u f = puts_by w filling.SetItem target items u f
fills_own w filling.Add PySet target items u f = puts_by w filling.Add target items u f
fills_own w _ _ target items u f = refl

fills : (w : World) (how : Filling) (target : Value) (items : List Value) (u : CUnpickler) → Fenced u → Same (inc.fills w how target items u) (py.fills (as_in_c w) how target items (seen u))
fills w how (Plain k) [] u f = (f, refl)
fills w how (Own t n) [] u f = (f, refl)
fills w how (Foreign t n) [] u f = (f, refl)
fills w how (Plain k) (v ∷ vs) u f = refl
fills w how (Own t n) (v ∷ vs) u f = fills_own w how t (Own t n) (v ∷ vs) u f
fills w how (Foreign t n) (v ∷ vs) u f = tells w (Fill how (Foreign t n) (v ∷ vs)) u f

into_top : (w : World) (how : Filling) (items : List Value) (u : CUnpickler) → Fenced u → Same (inc.on_top u (λ target. inc.fills w how target items u)) (py.on_top (seen u) (λ target. py.fills (as_in_c w) how target items (seen u)))
into_top w how items u f = tops u (λ target. inc.fills w how target items u) (λ target. py.fills (as_in_c w) how target items (seen u)) f (λ target. fills w how target items u f)

pops_into : (w : World) (n : ℕ) (how : Filling) (u : CUnpickler) → Fenced u
    → Same (inc.pop n u (λ vs q. inc.on_top q (λ target. inc.fills w how target vs q))) (py.pop n (seen u) (λ vs q. py.on_top q (λ target. py.fills (as_in_c w) how target vs q)))
pops_into w n how u f = pops n u (λ vs q. inc.on_top q (λ target. inc.fills w how target vs q)) (λ vs q. py.on_top q (λ target. py.fills (as_in_c w) how target vs q)) f (λ vs q g. into_top w how vs q g)

cuts_into : (w : World) (how : Filling) (u : CUnpickler) → Fenced u
    → Same (inc.cut u (λ items q. inc.on_top q (λ target. inc.fills w how target items q))) (py.pop_mark (seen u) (λ items q. py.on_top q (λ target. py.fills (as_in_c w) how target items q)))
cuts_into w how u f = cuts u (λ items q. inc.on_top q (λ target. inc.fills w how target items q)) (λ items q. py.on_top q (λ target. py.fills (as_in_c w) how target items q)) f (λ vs q g. into_top w how vs q g)

pairs_into : (w : World) (target : Value) (items : List Value) (u : CUnpickler) (b : Bool) → b ≡ true → Fenced u
    → Same (inc.fills w filling.SetItem target items u)
    (if b then py.fills (as_in_c w) filling.SetItem target items (seen u) else py.then_raises (py.fills (as_in_c w) filling.SetItem target (take (length items - 1) items) (seen u)))
pairs_into w target items u true e f = fills w filling.SetItem target items u f
pairs_into w target items u false e f = absurd cc

setitems : (w : World) (u : CUnpickler) → Fenced u
    → Same (inc.load_setitems w u) (if raises (py.pop_mark (seen u) (λ items q. only_if (are_pairs items) q)) then Raised u.acts else py.load_setitems (as_in_c w) (seen u))
setitems w u f =
    checks u (flat_cut u.stack) (py.pop_mark (seen u)) are_pairs (λ items q. inc.on_top q (λ target. inc.fills w filling.SetItem target items q)) (λ items q. py.on_top q (λ target. py.fill_pairs (as_in_c w) target items q)) (cut_takes u f)
    (λ items q good g. tops q (λ target. inc.fills w filling.SetItem target items q) (λ target. py.fill_pairs (as_in_c w) target items (seen q)) g (λ target. pairs_into w target items q (length items % 2 == 0) good g))

builds : (w : World) (u : CUnpickler) → Fenced u → Same (inc.load_build w u) (py.load_build (as_in_c w) (seen u))
builds w u f =
    pops 1 u (λ vs q. inc.on_top q (λ target. inc.tell w (SetState target (item 0 vs)) q)) (λ vs q. py.on_top q (λ target. py.tell (as_in_c w) (SetState target (item 0 vs)) q)) f
    (λ vs q g. tops q (λ target. inc.tell w (SetState target (item 0 vs)) q) (λ target. py.tell (as_in_c w) (SetState target (item 0 vs)) (seen q)) g (λ target. tells w (SetState target (item 0 vs)) q g))

-- ---- opcodes

tuples : (n : ℕ) (u : CUnpickler) → Fenced u → Same (inc.load_counted_tuple n u) (py.load_tuple_of n (seen u))
tuples n u f = pops n u (λ items q. inc.make PyTuple items q) (λ items q. py.make PyTuple items q) f (λ vs q g. makes PyTuple vs q g)

gathers : (t : PyType) (u : CUnpickler) → Fenced u → Same (inc.cut u (λ items q. inc.make t items q)) (py.pop_mark (seen u) (λ items q. py.make t items q))
gathers t u f = cuts u (λ items q. inc.make t items q) (λ items q. py.make t items q) f (λ vs q g. makes t vs q g)

freezes : (w : World) (u : CUnpickler) → Fenced u → Same (inc.load_frozenset w u) (py.load_frozenset (as_in_c w) (seen u))
freezes w u f =
    cuts u (λ items q. inc.ask w Method q (λ v r. inc.make PyFrozenSet items r)) (λ items q. py.ask (as_in_c w) Method q (λ v r. py.make PyFrozenSet items r)) f
    (λ vs q g. asks w Method q (λ v r. inc.make PyFrozenSet vs r) (λ v r. py.make PyFrozenSet vs r) g (λ v r h. makes PyFrozenSet vs r h))

-- what the function of an opcode does, where what it asks first is so
pub dispatched : (w : World) (o : Opcode) (arg : List ℕ) (u : CUnpickler) → value_fault (form_of o) arg ≡ None → Fenced u → Same (inc.dispatch w o arg u) (if raises (asked w o arg (seen u)) then Raised u.acts else loop.dispatch (as_in_c w) o arg (seen u))
dispatched w op.Proto arg u v f = protos (nat_le (number_of form.Uint1 arg) 5) (number_of form.Uint1 arg) u f
dispatched w op.Frame arg u v f = (f, refl)
dispatched w op.PersId arg u v f = gets w _ u f
dispatched w op.BinPersId arg u v f = pops 1 u (λ vs q. inc.get w (Persist (Given (item 0 vs))) q) (λ vs q. py.get (as_in_c w) (Persist (Given (item 0 vs))) q) f (λ vs q g. gets w (Persist (Given (item 0 vs))) q g)
dispatched w op.ByteArray8 arg u v f = makes PyByteArray _ u f
dispatched w op.NextBuffer arg u v f = gets w _ (record u { buffers = u.buffers + 1 }) f
dispatched w op.ReadOnlyBuffer arg u v f = readonly w u f
dispatched w op.Tuple arg u v f = gathers PyTuple u f
dispatched w op.EmptyTuple arg u v f = makes PyTuple [] u f
dispatched w op.Tuple1 arg u v f = tuples 1 u f
dispatched w op.Tuple2 arg u v f = tuples 2 u f
dispatched w op.Tuple3 arg u v f = tuples 3 u f
dispatched w op.EmptyList arg u v f = makes PyList [] u f
dispatched w op.EmptyDict arg u v f = makes PyDict [] u f
dispatched w op.EmptySet arg u v f = makes PySet [] u f
dispatched w op.FrozenSet arg u v f = freezes w u f
dispatched w op.List arg u v f = gathers PyList u f
dispatched w op.Dict arg u v f = dicts w u f
dispatched w op.Inst arg u v f = insts w (first_text arg) (second_text arg) u f
dispatched w op.Obj arg u v f = objs w u f
dispatched w op.NewObj arg u v f = calls w (λ vs. New (item 0 vs) (item 1 vs)) u f
dispatched w op.NewObjEx arg u v f = calls_with w u f
dispatched w op.Global arg u v f = gets w _ u f
dispatched w op.StackGlobal arg u v f =
    pops 2 u (λ vs q. inc.only_if (is_str w (item 1 vs)) q (inc.only_if (is_str w (item 0 vs)) q (inc.get w (Find q.proto (Given (item 0 vs)) (Given (item 1 vs))) q)))
    (λ vs q. if is_str (as_in_c w) (item 1 vs) then (if is_str (as_in_c w) (item 0 vs) then py.get (as_in_c w) (Find q.proto (Given (item 0 vs)) (Given (item 1 vs))) q else Raised q.acts) else Raised q.acts) f
    (λ vs q g. names w (Find q.proto (Given (item 0 vs)) (Given (item 1 vs))) vs q g)
dispatched w op.Ext1 arg u v f = extends w (integer_of form.Uint1 arg) (int_lt (pos 0) (integer_of form.Uint1 arg)) u f
dispatched w op.Ext2 arg u v f = extends w (integer_of form.Uint2 arg) (int_lt (pos 0) (integer_of form.Uint2 arg)) u f
dispatched w op.Ext4 arg u v f = extends w (integer_of form.Int4 arg) (int_lt (pos 0) (integer_of form.Int4 arg)) u f
dispatched w op.Reduce arg u v f = calls w (λ vs. Call (item 0 vs) (item 1 vs)) u f
dispatched w op.Pop arg u v f = dropped w u (flat_load_pop u.stack) (one_stack.drops (as_in_c w) u.stack (seen u) (one u f))
dispatched w op.PopMark arg u v f = cuts u (λ items q. inc.tell w Method q) (λ items q. py.tell (as_in_c w) Method q) f (λ vs q g. tells w Method q g)
dispatched w op.Dup arg u v f = tops u (λ v. CRan (inc.push v u)) (λ v. Ran (py.append v (seen u))) f (λ v. pushed v u f)
dispatched w op.Get arg u v f =
    subst (λ (x : Option ℕ). Same (inc.with_key x u (λ key. inc.load_get key u)) (loop.with_int (loop.int_key (text_of arg)) (seen u) (λ key. py.load_get key (seen u)))) (sym (plain_key arg v))
    (subst (λ (x : Option ℕ). Same (inc.load_get (number_of form.Decimal arg) u) (loop.with_int x (seen u) (λ key. py.load_get key (seen u)))) (sym (plain_int arg v))
    (found (lookup (is_at (nat_cmp (number_of form.Decimal arg))) u.memo) u f))
dispatched w op.BinGet arg u v f = found _ u f
dispatched w op.LongBinGet arg u v f = found _ u f
dispatched w op.Put arg u v f =
    subst (λ (x : Option ℕ). Same (inc.with_key x u (λ key. inc.load_put w key u)) (loop.with_int (loop.int_key (text_of arg)) (seen u) (λ key. py.load_put (as_in_c w) key (seen u)))) (sym (plain_key arg v))
    (subst (λ (x : Option ℕ). Same (inc.load_put w (number_of form.Decimal arg) u) (loop.with_int x (seen u) (λ key. py.load_put (as_in_c w) key (seen u)))) (sym (plain_int arg v))
    (puts w (number_of form.Decimal arg) u f))
dispatched w op.String arg u v f =
    let k : Kind = kind.LegacyLine (text_of arg) in
    subst (λ (b : Bool). Same (if b then inc.load_literal k u else CRaised u.acts) (if b then py.load_literal k (seen u) else Raised u.acts)) (sym (quoted_text arg v)) (pushed (Plain k) u f)
dispatched w op.BinPut arg u v f = puts w (number_of form.Uint1 arg) u f
dispatched w op.LongBinPut arg u v f = puts w (number_of form.Uint4 arg) u f
dispatched w op.Memoize arg u v f = puts w (length u.memo) u f
dispatched w op.Append arg u v f = pops_into w 1 filling.Append u f
dispatched w op.Appends arg u v f = cuts_into w filling.Append u f
dispatched w op.SetItem arg u v f = pops_into w 2 filling.SetItem u f
dispatched w op.SetItems arg u v f = setitems w u f
dispatched w op.AddItems arg u v f = cuts_into w filling.Add u f
dispatched w op.Build arg u v f = builds w u f
dispatched w op.Mark arg u v f = marks u f
dispatched w op.Stop arg u v f = pops 1 u (λ vs q. CStopped (item 0 vs) q) (λ vs q. Stopped (item 0 vs) q) f (λ vs q g. (g, refl))
dispatched w _ arg u v f = pushed _ u f

-- GET and PUT of a key
pub gets_key : (key : ℕ) (u : CUnpickler) → Fenced u → Same (inc.load_get key u) (py.load_get key (seen u))
gets_key key u f = found (lookup (is_at (nat_cmp key)) u.memo) u f

pub puts_key : (w : World) (key : ℕ) (u : CUnpickler) → Fenced u → Same (inc.load_put w key u) (py.load_put (as_in_c w) key (seen u))
puts_key w key u f = puts w key u f
