-- The acts of an item that is allowed are permitted.
use Rattle.std.proofs.Common.{◌≡◌, ℕ, zero, suc, ◌<◌, Bool, true, false, cond, List, [], ◌∷◌, ◌++◌, length, map, take, drop, Option, Some, None, refl, sym, ap, ap₂, subst, ◌∙◌, inl, inr, arith}
use Rattle.std.specs.Prelude.{◌&&◌, ◌||◌, not, slice_get, nat_lt, if◌then◌else◌}
use Rattle.std.specs.Option.{option_map_or}
use Rattle.std.proofs.lemmas.Bool.{cases_lt}
use Rattle.pickle_ops.specs.declared.opcode.Opcode.{Opcode}
use Rattle.pickle_ops.specs.declared.opcode.Opcode.TheVariants as op
use Rattle.pickle_ops.specs.declared.kind.Kind.{Kind}
use Rattle.pickle_ops.specs.declared.kind.Kind.TheVariants as kind
use Rattle.pickle_ops.specs.declared.class.Demand.TheVariants as demand
use Rattle.pickle_ops.specs.declared.row.Row.{Row}
use Rattle.pickle_ops.specs.declared.row.Row.TheVariants as row
use Rattle.pickle_ops.specs.declared.row.Filling.{Filling}
use Rattle.pickle_ops.specs.declared.row.Filling.TheVariants as filling
use Rattle.pickle_ops.specs.Spelling.{Operation}
use Rattle.pickle_ops.specs.Object.{Object}
use Rattle.pickle_ops.specs.Row.{row_of, row_of_opcode, kind_of, values_of}
use Rattle.pickle_doc.specs.Document.{Contents}
use Rattle.pickle_doc.specs.Place.{ops_of, item_at}
use Rattle.pickle_machine.specs.State.{State, start}
use Rattle.pickle_machine.specs.Move.{deep, last_of, without, cut, push, changes_of, object_meets, fresh, next, next_of}
use Rattle.pickle_machine.specs.Run.{run}
use Rattle.pickle_machine.proofs.HeapGrowth.{fresh_heap}
use Rattle.pickle_calls.specs.declared.event.Event.{Event}
use Rattle.pickle_calls.specs.declared.event.Event.TheVariants as event
use Rattle.pickle_calls.specs.declared.event.Before.{Before}
use Rattle.pickle_calls.specs.Event.{before_of, event_of, made_event, made_as, is_shown, top_of, taken_count, filled_count, touches, filled_event}
use Rattle.pickle_calls.specs.Calls.{or_here}
use Rattle.pickle_calls.proofs.Steps.{some_same, get_pushed, Same, Grown, after_changes}
use Rattle.calls_laws.proofs.Exact.{HeapOf, Stays, Pushes, Alters}
use Rattle.pickle_form.specs.Run.{is_proto}
use Rattle.pickle_loader.specs.Environment.{Value, is_elsewhere, Name, Line, Given, Act, Find, Extension, Call, New, NewEx, Instance, SetState, Fill, Persist, NextBuffer}
use Rattle.pickle_loader.specs.Unpickler.{item}
use Rattle.pickle_loader.specs.Listed.{making, taken, objects_in, acts_listed, listed_on, listed_at, listed, protocol_at}
use Rattle.pickle_loader.specs.ByFrames.{IsAct}
use Rattle.pickle_loader.proofs.Pushes.{listed_stays}
use Rattle.pickle_loader.proofs.Still.{move_to}
use Rattle.pickle_allow.specs.declared.list.Use.TheVariants as use_of
use Rattle.pickle_allow.specs.declared.list.Entry.{Entry}
use Rattle.pickle_allow.specs.Allow.{Source, may_find, may_use}
use Rattle.pickle_allow.specs.Source.{line_text, literal_text, source_at}
use Rattle.pickle_allow.specs.Arguments.{may_be_given, may_be_set}
use Rattle.pickle_gate.specs.Gate.{protocol_of, sources, is_of_ready, may_be_state, may_change, Past, past_at, may_make, may_happen, is_allowed_on, is_allowed, first_forbidden}
use Rattle.gate_laws.specs.Permitted.{name_text, value_source, permits}
use Rattle.gate_laws.proofs.Walk.{both, in_either, one_of, sources_by}
use Rattle.gate_laws.proofs.Agreeing.{Agrees, Reads, ReadsParts, use_agrees, name_found, find_given, callee_agrees}

-- ---- the acts of an event

one_act : (list : List Entry) (from : List (Option Source)) (a b : Act) → permits list from b ≡ true → IsAct a (b ∷ []) → permits list from a ≡ true
one_act list from a b e h = ap (permits list from) (one_of a b h) ∙ e

or_true : (a b : Bool) → b ≡ true → (a || b) ≡ true
or_true true b e = refl
or_true false b e = e

fill_permits : (list : List Entry) (V : ℕ → Value) (from : List (Option Source)) (acts : List Act) (how : Filling) (target : ℕ) (items : List Value) (b : Bool) (a : Act) → Agrees V from acts → may_use list use_of.Fill (source_at from target) ≡ true
    → IsAct a (if b then Fill how (V target) items ∷ [] else []) → permits list (sources_by [] acts) a ≡ true
fill_permits list V from acts how target items true a h e is =
    one_act list (sources_by [] acts) a (Fill how (V target) items)
    (or_true (not (is_elsewhere (V target))) (may_use list use_of.Fill (value_source (sources_by [] acts) (V target))) (use_agrees list use_of.Fill V from acts h target e)) is
fill_permits list V from acts how target items false a h e is = absurd is

-- the texts of the parts of a new object are read as their values are
abbrev pub ReadsMade : (ℕ → Value) → List Object → Option Event → Type 0
ReadsMade V heap None = Unit {0}
ReadsMade V heap (Some (event.Made id)) = (o : Object) → slice_get heap id ≡ Some o → (names : o.kind ≡ kind.StackGlobal) → ReadsParts V heap o.parts
ReadsMade V heap (Some (event.State value target)) = Unit {0}
ReadsMade V heap (Some (event.Filled how n target)) = Unit {0}

making_permits : (list : List Entry) (V : ℕ → Value) (proto : ℕ) (heap : List Object) (from : List (Option Source)) (acts : List Act) (k : Kind) (parts : List ℕ) (a : Act) → Agrees V from acts → ((k ≡ kind.StackGlobal) → ReadsParts V heap parts)
    → may_make list proto heap from k parts ≡ true → IsAct a (making proto k (map V parts)) → permits list (sources_by [] acts) a ≡ true
making_permits list V proto heap from acts kind.StackGlobal parts a h reads e is =
    one_act list (sources_by [] acts) a (Find proto (Given (item 0 (map V parts))) (Given (item 1 (map V parts)))) (find_given list V heap proto parts (reads refl) e) is
making_permits list V proto heap from acts (kind.Global names) parts a h reads e is =
    one_act list (sources_by [] acts) a (Find proto (Line names.first) (Line names.second)) (ap (may_find list) (name_found proto (line_text names.first) (line_text names.second)) ∙ e) is
making_permits list V proto heap from acts (kind.Ext n) parts a h reads e is = one_act list (sources_by [] acts) a (Extension n) e is
making_permits list V proto heap from acts (kind.Inst names) parts a h reads e is = absurd cc
making_permits list V proto heap from acts kind.Call parts a h reads e is =
    one_act list (sources_by [] acts) a (Call (item 0 (map V parts)) (item 1 (map V parts))) (callee_agrees list use_of.Call V from acts parts h e) is
making_permits list V proto heap from acts kind.New parts a h reads e is =
    one_act list (sources_by [] acts) a (New (item 0 (map V parts)) (item 1 (map V parts))) (callee_agrees list use_of.New V from acts parts h e) is
making_permits list V proto heap from acts kind.NewEx parts a h reads e is =
    one_act list (sources_by [] acts) a (NewEx (item 0 (map V parts)) (item 1 (map V parts)) (item 2 (map V parts))) (callee_agrees list use_of.New V from acts parts h e) is
making_permits list V proto heap from acts kind.Obj parts a h reads e is =
    one_act list (sources_by [] acts) a (Instance (Some (item 0 (map V parts))) (drop 1 (map V parts))) (callee_agrees list use_of.Call V from acts parts h e) is
making_permits list V proto heap from acts (kind.PersistentLine line) parts a h reads e is = one_act list (sources_by [] acts) a (Persist (Line line)) e is
making_permits list V proto heap from acts kind.Persistent parts a h reads e is = one_act list (sources_by [] acts) a (Persist (Given (item 0 (map V parts)))) e is
making_permits list V proto heap from acts (kind.Buffer n) parts a h reads e is = one_act list (sources_by [] acts) a (NextBuffer n) e is
making_permits list V proto heap from acts _ parts a h reads e is = absurd is

happens_permits : (list : List Entry) (V : ℕ → Value) (proto : ℕ) (from : List (Option Source)) (past : Past) (acts : List Act) (s t : State) (x : Option Event) (a : Act) → Agrees V from acts → ReadsMade V t.heap x
    → may_happen list proto t.heap from past x ≡ true → IsAct a (acts_listed V proto s t x) → permits list (sources_by [] acts) a ≡ true
happens_permits list V proto from past acts s t None a h reads e is = absurd is
happens_permits list V proto from past acts s t (Some (event.Made id)) a h reads e is = go (slice_get t.heap id) refl e is
  where
    go : (y : Option Object) → slice_get t.heap id ≡ y → option_map_or (λ (o : Object). may_make list proto t.heap from o.kind o.parts && (may_be_given list proto t.heap o.kind o.parts && not (is_of_ready past.had o.kind o.parts))) y true ≡ true → IsAct a (option_map_or (λ (o : Object). making proto o.kind (map V o.parts)) y []) → permits list (sources_by [] acts) a ≡ true
    go None at f g = absurd g
    go (Some o) at f g =
        making_permits list V proto t.heap from acts o.kind o.parts a h (reads o at)
        (both (may_make list proto t.heap from o.kind o.parts) (may_be_given list proto t.heap o.kind o.parts && not (is_of_ready past.had o.kind o.parts)) f).0 g
happens_permits list V proto from past acts s t (Some (event.State value target)) a h reads e is =
    one_act list (sources_by [] acts) a (SetState (V target) (V value))
    (use_agrees list use_of.State V from acts h target (both (may_use list use_of.State (source_at from target)) (may_be_set list proto t.heap value target && (may_be_state past.named t.heap value && may_change past target)) e).0) is
happens_permits list V proto from past acts s t (Some (event.Filled how n target)) a h reads e is =
    fill_permits list V from acts how target (map V (take (objects_in how n) (taken s t))) (nat_lt 0 n) a h (both (may_use list use_of.Fill (source_at from target)) (may_change past target) e).0 is

-- ---- what becomes of the heap

view_heap : (b : Bool) (s u : State) (x : Object) → u.heap ≡ s.heap ++ x ∷ [] → HeapOf row.ReadOnly s (cond b s u)
view_heap true s u x e = Stays refl
view_heap false s u x e = Pushes x e refl

pop_heap : (b : Bool) (s t u : State) → t.heap ≡ s.heap → u.heap ≡ s.heap → HeapOf row.Pop s (cond b t u)
pop_heap true s t u e f = Stays e
pop_heap false s t u e f = Stays f

heap_of : (r : Row) (k : Kind) (place : ℕ) (s : State) → HeapOf r s (next_of r k place s)
heap_of (row.Extension n) k place s = Pushes _ refl refl
heap_of row.Push k place s = Pushes _ refl refl
heap_of row.Buffer k place s = Pushes _ refl refl
heap_of row.ReadOnly k place s = view_heap (object_meets demand.ReadOnly s (deep 0 s.top)) s (push kind.ReadOnly (last_of 1 s) (without 1 s)) _ refl
heap_of (row.Take t) k place s = Pushes _ refl refl
heap_of (row.Cut c) k place s = Pushes _ refl refl
heap_of (row.Change f) k place s = Alters (deep 0 (without (values_of f) s).top) (changes_of f (last_of (values_of f) s)) refl
heap_of (row.CutChange f) k place s = Alters (deep 0 (cut s).top) (changes_of f s.top) refl
heap_of row.Pop k place s = pop_heap (nat_lt 0 (length s.top)) s (without 1 s) (cut s) refl refl
heap_of _ k place s = Stays refl

-- an object was there, of the same kind, or is the new one
data Kept (s : State) (id : ℕ) (o : Object) : Type 0 where
  Old : (x : Object) → slice_get s.heap id ≡ Some x → o.kind ≡ x.kind → Kept s id o
  Fresh : id ≡ length s.heap → Kept s id o

kept : (r : Row) (s t : State) (id : ℕ) (o : Object) → HeapOf r s t → slice_get t.heap id ≡ Some o → Kept s id o
kept r s t id o (Stays e) there = Old o (ap (λ (l : List Object). slice_get l id) (sym e) ∙ there) refl
kept r s t id o (Pushes x e made) there = elim (get_pushed s.heap x id o (ap (λ (l : List Object). slice_get l id) (sym e) ∙ there)) [
  | inl old ↦ Old o old refl
  | inr new ↦ Fresh new.0
]
kept r s t id o (Alters j more e) there = elim (after_changes s.heap j more id o (ap (λ (l : List Object). slice_get l id) (sym e) ∙ there)) [
  | Same same ↦ Old o same refl
  | Grown old here at is ↦ Old old (ap (slice_get s.heap) here ∙ at) (ap (λ (y : Object). y.kind) is)
]

-- a text is no new object where that is a global of the stack
no_text : (k : Kind) (x : List ℕ) → k ≡ kind.StackGlobal → literal_text k ≡ Some x → ⊥
no_text k x e f = let no : None ≡ Some x = sym (ap literal_text e) ∙ f in absurd cc

text_kept : (V : ℕ → Value) (s : State) (heap : List Object) (made id : ℕ) (o : Object) (x : List ℕ) → made ≡ length s.heap → slice_get heap made ≡ Some o → o.kind ≡ kind.StackGlobal
    → ((i : ℕ) (p : Object) → slice_get heap i ≡ Some p → Kept s i p) → Reads V s.heap → (y : Option Object) → slice_get heap id ≡ y → option_map_or (λ (p : Object). literal_text p.kind) y None ≡ Some x → name_text (Given (V id)) ≡ Some x
text_kept V s heap made id o x last at names keeps reads None is e = absurd cc
text_kept V s heap made id o x last at names keeps reads (Some p) is e = elim (keeps id p is) [
  | Old q old same ↦ reads id x (ap (λ (z : Option Object). option_map_or (λ (b : Object). literal_text b.kind) z None) old ∙ ap literal_text (sym same) ∙ e)
  | Fresh new ↦
      let here : slice_get heap id ≡ Some o = ap (slice_get heap) (new ∙ sym last) ∙ at in
      let one : p ≡ o = some_same (slice_get heap id) p o is here in
      absurd (no_text o.kind x names (ap (λ (z : Object). literal_text z.kind) (sym one) ∙ e))
]

-- ---- an item

-- an act is one of an item before n
pub record ItemOf (V : ℕ → Value) (d : Contents) (n : ℕ) (a : Act) : Type 0 where
  pub place : ℕ
  pub less : place < n
  pub code : Operation
  pub before : State
  pub after : State
  pub there : item_at d place ≡ Some code
  pub runs : run (start d.many) (ops_of d) place ≡ Some before
  pub runs_on : run (start d.many) (ops_of d) (suc place) ≡ Some after
  pub acts : IsAct a (acts_listed V (protocol_at (ops_of d) place) (fresh before) after (event_of (row_of code) (before_of (fresh before)) after))

item_on : (V : ℕ → Value) (d : Contents) (n k : ℕ) (a : Act) (x : Option Operation) (y z : Option State) → k < n → item_at d k ≡ x → run (start d.many) (ops_of d) k ≡ y → run (start d.many) (ops_of d) (suc k) ≡ z
    → IsAct a (listed_on V (protocol_at (ops_of d) k) x y z) → ItemOf V d n a
item_on V d n k a (Some o) (Some s) (Some t) less there runs on is = record { place = k; less = less; code = o; before = s; after = t; there = there; runs = runs; runs_on = on; acts = is }
item_on V d n k a (Some o) (Some s) None less there runs on is = absurd is
item_on V d n k a (Some o) None z less there runs on is = absurd is
item_on V d n k a None y z less there runs on is = absurd is

later : (V : ℕ → Value) (d : Contents) (n : ℕ) (a : Act) → ItemOf V d n a → ItemOf V d (suc n) a
later V d n a i = record { place = i.place; less = omega (arith, i.less); code = i.code; before = i.before; after = i.after; there = i.there; runs = i.runs; runs_on = i.runs_on; acts = i.acts }

pub item_of : (V : ℕ → Value) (d : Contents) (n : ℕ) (a : Act) → IsAct a (listed V d.many (ops_of d) n) → ItemOf V d n a
unfolding listed listed_at
item_of V d zero a h = absurd h
item_of V d (suc n) a h = elim (in_either a (listed V d.many (ops_of d) n) (listed_at V d.many (ops_of d) n) h) [
  | inl front ↦ later V d n a (item_of V d n a front)
  | inr back ↦ item_on V d (suc n) n a (item_at d n) (run (start d.many) (ops_of d) n) (run (start d.many) (ops_of d) (suc n)) (omega arith) refl refl refl back
]

-- PROTO lists nothing
proto_makes : (o : Opcode) (arg : List ℕ) (k : Kind) (place : ℕ) (s t : State) (b : Before) → is_proto o ≡ true → ((next_of (row_of_opcode o arg) k place s).heap ≡ s.heap) × (event_of (row_of_opcode o arg) b t ≡ made_event t.heap b.next)
proto_makes op.Proto arg k place s t b e = (refl, refl)
proto_makes _ arg k place s t b e = absurd cc

pub no_proto : (V : ℕ → Value) (d : Contents) (n : ℕ) (a : Act) (i : ItemOf V d n a) → is_proto i.code.opcode ≡ false
no_proto V d n a i = go (is_proto i.code.opcode) refl
  where
    go : (b : Bool) → is_proto i.code.opcode ≡ b → is_proto i.code.opcode ≡ false
    go false e = e
    go true e =
        let m = move_to (start d.many) (ops_of d) i.place i.after i.runs_on in
        let same_op : m.item ≡ i.code = some_same (item_at d i.place) m.item i.code m.there i.there in
        let same_state : m.before ≡ i.before = some_same (run (start d.many) (ops_of d) i.place) m.before i.before m.reached i.runs in
        let leads : next i.code i.place i.before ≡ i.after = ap₂ (λ (x : Operation) (y : State). next x i.place y) (sym same_op) (sym same_state) ∙ m.leads in
        let p = proto_makes i.code.opcode i.code.arg (kind_of i.code) i.place (fresh i.before) i.after (before_of (fresh i.before)) e in
        let heap : i.after.heap ≡ (fresh i.before).heap = ap (λ (x : State). x.heap) (sym leads) ∙ p.0 in
        let none : acts_listed V (protocol_at (ops_of d) i.place) (fresh i.before) i.after (event_of (row_of i.code) (before_of (fresh i.before)) i.after) ≡ [] =
        ap (acts_listed V (protocol_at (ops_of d) i.place) (fresh i.before) i.after) p.1 ∙ listed_stays V (protocol_at (ops_of d) i.place) (fresh i.before) i.after (fresh i.before).heap heap in
        absurd (subst (λ (l : List Act). IsAct a l) none i.acts)

-- ---- what is allowed

here_none : (x : Option ℕ) (b : Bool) (k : ℕ) → or_here x (not b) k ≡ None → (x ≡ None) × (b ≡ true)
here_none (Some j) b k e = absurd cc
here_none None true k e = (refl, refl)
here_none None false k e = absurd cc

pub all_allowed : (list : List Entry) (d : Contents) (n : ℕ) → first_forbidden list d n ≡ None → (k : ℕ) → k < n → is_allowed list d k ≡ true
unfolding first_forbidden
all_allowed list d zero e k less = absurd (omega (arith, less))
all_allowed list d (suc n) e k less =
    let two = here_none (first_forbidden list d n) (is_allowed list d n) n e in
    elim (cases_lt k n) [
      | inl before ↦ all_allowed list d n two.0 k before
      | inr far ↦ let same : k ≡ n = omega (arith, less, far) in ap (is_allowed list d) same ∙ two.1
    ]

-- the event of an item that is allowed may happen
may_event : (list : List Entry) (V : ℕ → Value) (d : Contents) (n : ℕ) (a : Act) (i : ItemOf V d n a) → is_allowed list d i.place ≡ true
    → may_happen list (protocol_of d) i.after.heap (sources d i.place) (past_at d i.place) (event_of (row_of i.code) (before_of (fresh i.before)) i.after) ≡ true
unfolding is_allowed
may_event list V d n a i e =
    sym (ap (λ (x : Option Operation). is_allowed_on list (protocol_of d) (sources d i.place) (past_at d i.place) x (run (start d.many) (ops_of d) i.place) (run (start d.many) (ops_of d) (suc i.place))) i.there
    ∙ ap (λ (y : Option State). is_allowed_on list (protocol_of d) (sources d i.place) (past_at d i.place) (Some i.code) y (run (start d.many) (ops_of d) (suc i.place))) i.runs
    ∙ ap (λ (z : Option State). is_allowed_on list (protocol_of d) (sources d i.place) (past_at d i.place) (Some i.code) (Some i.before) z) i.runs_on)
    ∙ e

-- the number of the object that an event makes
if_never : (x : Bool) (f : Filling) (n target id : ℕ) → (if x then Some (event.Filled f n target) else None) ≡ Some (event.Made id) → ⊥
if_never true f n target id e = absurd cc
if_never false f n target id e = absurd cc

fill_never : (f : Filling) (b : Before) (t : State) (id : ℕ) → filled_event f b t ≡ Some (event.Made id) → ⊥
fill_never filling.Build b t id e = absurd cc
fill_never filling.Append b t id e = if_never (touches filling.Append (filled_count filling.Append (taken_count b t)) t.heap (top_of t)) filling.Append (filled_count filling.Append (taken_count b t)) (top_of t) id e
fill_never filling.SetItem b t id e = if_never (touches filling.SetItem (filled_count filling.SetItem (taken_count b t)) t.heap (top_of t)) filling.SetItem (filled_count filling.SetItem (taken_count b t)) (top_of t) id e
fill_never filling.Add b t id e = if_never (touches filling.Add (filled_count filling.Add (taken_count b t)) t.heap (top_of t)) filling.Add (filled_count filling.Add (taken_count b t)) (top_of t) id e

shown_only : (x : Bool) (n id : ℕ) → (if x then Some (event.Made n) else None) ≡ Some (event.Made id) → id ≡ n
shown_only true n id e = cc
shown_only false n id e = absurd cc

made_only : (heap : List Object) (n : ℕ) (y : Option Object) (id : ℕ) → made_as heap n y ≡ Some (event.Made id) → id ≡ n
made_only heap n None id e = absurd cc
made_only heap n (Some o) id e = shown_only (is_shown heap o) n id e

made_next : (r : Row) (b : Before) (t : State) (id : ℕ) → event_of r b t ≡ Some (event.Made id) → id ≡ b.next
made_next (row.Change f) b t id e = absurd (fill_never f b t id e)
made_next (row.CutChange f) b t id e = absurd (fill_never f b t id e)
made_next _ b t id e = made_only t.heap b.next (slice_get t.heap b.next) id e

reads_made : (V : ℕ → Value) (r : Row) (s t : State) (x : Option Event) → event_of r (before_of s) t ≡ x → HeapOf r s t → Reads V s.heap → ReadsMade V t.heap x
reads_made V r s t None is h reads = tt
reads_made V r s t (Some (event.Made id)) is h reads =
    λ o at names i part x there text. text_kept V s t.heap id part o x (made_next r (before_of s) t id is) at names (λ j p e. kept r s t j p h e) reads (slice_get t.heap part) refl text
reads_made V r s t (Some (event.State value target)) is h reads = tt
reads_made V r s t (Some (event.Filled how n target)) is h reads = tt

-- an act of an item that is allowed is permitted, where what objects come of agrees, and texts are read, behind any acts
pub item_permits : (list : List Entry) (V : ℕ → Value) (d : Contents) (n : ℕ) (a : Act) (acts : List Act) (i : ItemOf V d n a) → protocol_at (ops_of d) i.place ≡ protocol_of d → is_allowed list d i.place ≡ true
    → Agrees V (sources d i.place) acts → Reads V i.before.heap → permits list (sources_by [] acts) a ≡ true
item_permits list V d n a acts i proto e h reads =
    let m = move_to (start d.many) (ops_of d) i.place i.after i.runs_on in
    let same_op : m.item ≡ i.code = some_same (item_at d i.place) m.item i.code m.there i.there in
    let same_state : m.before ≡ i.before = some_same (run (start d.many) (ops_of d) i.place) m.before i.before m.reached i.runs in
    let leads : next i.code i.place i.before ≡ i.after = ap₂ (λ (x : Operation) (y : State). next x i.place y) (sym same_op) (sym same_state) ∙ m.leads in
    let heap : HeapOf (row_of i.code) (fresh i.before) i.after = subst (λ (t : State). HeapOf (row_of i.code) (fresh i.before) t) leads (heap_of (row_of i.code) (kind_of i.code) i.place (fresh i.before)) in
    let x : Option Event = event_of (row_of i.code) (before_of (fresh i.before)) i.after in
    let fresh_reads : Reads V (fresh i.before).heap = subst (λ (l : List Object). Reads V l) (sym (fresh_heap i.before)) reads in
    happens_permits list V (protocol_of d) (sources d i.place) (past_at d i.place) acts (fresh i.before) i.after x a h (reads_made V (row_of i.code) (fresh i.before) i.after x refl heap fresh_reads) (may_event list V d n a i e)
    (subst (λ (p : ℕ). IsAct a (acts_listed V p (fresh i.before) i.after x)) proto i.acts)

-- what finds something does so by the protocol of its item
find_made : (V : ℕ → Value) (proto p : ℕ) (m n : Name) (k : Kind) (vs : List Value) → IsAct (Find p m n) (making proto k vs) → p ≡ proto
find_made V proto p m n (kind.Global names) vs h = let e : Find p m n ≡ Find proto (Line names.first) (Line names.second) = one_of _ _ h in cc
find_made V proto p m n kind.StackGlobal vs h = let e : Find p m n ≡ Find proto (Given (item 0 vs)) (Given (item 1 vs)) = one_of _ _ h in cc
find_made V proto p m n (kind.Inst names) vs (inl e) = cc
find_made V proto p m n (kind.Inst names) vs (inr h) = let e : Find p m n ≡ Instance None vs = one_of _ _ h in absurd cc
find_made V proto p m n (kind.Ext c) vs h = let e : Find p m n ≡ Extension c = one_of _ _ h in absurd cc
find_made V proto p m n kind.Call vs h = let e : Find p m n ≡ Call (item 0 vs) (item 1 vs) = one_of _ _ h in absurd cc
find_made V proto p m n kind.New vs h = let e : Find p m n ≡ New (item 0 vs) (item 1 vs) = one_of _ _ h in absurd cc
find_made V proto p m n kind.NewEx vs h = let e : Find p m n ≡ NewEx (item 0 vs) (item 1 vs) (item 2 vs) = one_of _ _ h in absurd cc
find_made V proto p m n kind.Obj vs h = let e : Find p m n ≡ Instance (Some (item 0 vs)) (drop 1 vs) = one_of _ _ h in absurd cc
find_made V proto p m n (kind.PersistentLine line) vs h = let e : Find p m n ≡ Persist (Line line) = one_of _ _ h in absurd cc
find_made V proto p m n kind.Persistent vs h = let e : Find p m n ≡ Persist (Given (item 0 vs)) = one_of _ _ h in absurd cc
find_made V proto p m n (kind.Buffer c) vs h = let e : Find p m n ≡ NextBuffer c = one_of _ _ h in absurd cc
find_made V proto p m n _ vs h = absurd h

fill_finds : (p : ℕ) (m n : Name) (b : Bool) (how : Filling) (v : Value) (items : List Value) (proto : ℕ) → IsAct (Find p m n) (if b then Fill how v items ∷ [] else []) → p ≡ proto
fill_finds p m n true how v items proto h = let e : Find p m n ≡ Fill how v items = one_of _ _ h in absurd cc
fill_finds p m n false how v items proto h = absurd h

finds_by : (V : ℕ → Value) (proto p : ℕ) (m n : Name) (s t : State) (x : Option Event) → IsAct (Find p m n) (acts_listed V proto s t x) → p ≡ proto
finds_by V proto p m n s t None h = absurd h
finds_by V proto p m n s t (Some (event.Made id)) h = go (slice_get t.heap id) h
  where
    go : (y : Option Object) → IsAct (Find p m n) (option_map_or (λ (o : Object). making proto o.kind (map V o.parts)) y []) → p ≡ proto
    go None g = absurd g
    go (Some o) g = find_made V proto p m n o.kind (map V o.parts) g
finds_by V proto p m n s t (Some (event.State value target)) h = let e : Find p m n ≡ SetState (V target) (V value) = one_of _ _ h in absurd cc
finds_by V proto p m n s t (Some (event.Filled how c target)) h = fill_finds p m n (nat_lt 0 c) how (V target) _ proto h

pub item_finds : (V : ℕ → Value) (d : Contents) (c p : ℕ) (m n : Name) (i : ItemOf V d c (Find p m n)) → p ≡ protocol_at (ops_of d) i.place
item_finds V d c p m n i = finds_by V (protocol_at (ops_of d) i.place) p m n (fresh i.before) i.after (event_of (row_of i.code) (before_of (fresh i.before)) i.after) i.acts
