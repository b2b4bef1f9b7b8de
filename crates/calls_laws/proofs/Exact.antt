-- Exactly when an item has a line.
use Rattle.std.proofs.Common.{◌≡◌, ◌≢◌, ◌⊎◌, ℕ, Bool, true, false, cond, List, [], ◌∷◌, ◌++◌, length, Option, Some, None, refl, sym, ap, subst, ◌∙◌, inl, inr, arith}
use Rattle.std.specs.Prelude.{slice_get, nat_lt, ◌||◌, if◌then◌else◌}
use Rattle.std.proofs.lemmas.Option.{slice_get_within}
use Rattle.pickle_ops.specs.declared.opcode.Opcode.{Opcode}
use Rattle.pickle_ops.specs.declared.opcode.Opcode.TheVariants as op
use Rattle.pickle_ops.specs.declared.kind.Kind.{Kind}
use Rattle.pickle_ops.specs.declared.kind.Kind.TheVariants as kind
use Rattle.pickle_ops.specs.declared.class.Demand.TheVariants as demand
use Rattle.pickle_ops.specs.declared.row.Row.{Row}
use Rattle.pickle_ops.specs.declared.row.Row.TheVariants as row
use Rattle.pickle_ops.specs.declared.row.Filling.{Filling}
use Rattle.pickle_ops.specs.declared.row.Filling.TheVariants as filling
use Rattle.pickle_ops.specs.declared.object.Change.{Change}
use Rattle.pickle_ops.specs.Spelling.{Operation}
use Rattle.pickle_ops.specs.Object.{Object}
use Rattle.pickle_ops.specs.Kind.{is_opaque}
use Rattle.pickle_ops.specs.Row.{row_of, row_of_opcode, kind_of, values_of}
use Rattle.pickle_doc.specs.Document.{Contents}
use Rattle.pickle_doc.specs.Place.{item_at, offset_of}
use Rattle.pickle_doc.proofs.Lists.{get-within}
use Rattle.pickle_machine.specs.State.{State}
use Rattle.pickle_machine.specs.Loader.{loose_at}
use Rattle.pickle_machine.specs.Move.{deep, last_of, without, cut, push, changed, changes_of, object_meets, fresh, next_of}
use Rattle.pickle_machine.proofs.HeapGrowth.{fresh_heap}
use Rattle.pickle_calls.specs.declared.event.Before.{Before}
use Rattle.pickle_calls.specs.declared.event.Event.{Event}
use Rattle.pickle_calls.specs.declared.event.Event.TheVariants as event
use Rattle.pickle_calls.specs.Event.{before_of, event_of, made_event, made_as, is_view, top_of, taken_count}
use Rattle.pickle_io.specs.Holes.{in_file}
use Rattle.pickle_calls.specs.Manner.{Manner}
use Rattle.pickle_calls.specs.CallsLine.{event_line, line_of}
use Rattle.pickle_calls.specs.Telling.{for_people}
use Rattle.pickle_calls.specs.Calls.{CountedText, naming_at, entry_at}
use Rattle.calls_laws.specs.CallsLaws.{IsStep, Makes, Changes, IsShown, LineExactly, row_adds}
use Rattle.pickle_calls.proofs.Steps.{some_same, get_pushed, Same, Grown, after_changes}
use Rattle.pickle_calls.proofs.Walking.{entry_is}
use Rattle.calls_laws.proofs.Reaches.{long, moves_at, no_line_no_reach, only_shown}

-- ---- what a row does to the heap

-- it stays; or gets an object more, which the event is of; or objects of it get changes
pub data HeapOf (r : Row) (s t : State) : Type 0 where
  Stays : t.heap ≡ s.heap → HeapOf r s t
  Pushes : (x : Object) → t.heap ≡ s.heap ++ x ∷ [] → event_of r (before_of s) t ≡ made_event t.heap (length s.heap) → HeapOf r s t
  Alters : (j : ℕ) (more : List Change) → t.heap ≡ changed s.heap j more → HeapOf r s t

view_heap : (b : Bool) (s u : State) (x : Object) → u.heap ≡ s.heap ++ x ∷ [] → HeapOf row.ReadOnly s (cond b s u)
view_heap true s u x e = Stays refl
view_heap false s u x e = Pushes x e refl

pop_heap : (b : Bool) (s t u : State) → t.heap ≡ s.heap → u.heap ≡ s.heap → HeapOf row.Pop s (cond b t u)
pop_heap true s t u e f = Stays e
pop_heap false s t u e f = Stays f

heap_of : (r : Row) (k : Kind) (place : ℕ) (s : State) → HeapOf r s (next_of r k place s)
heap_of (row.Extension n) k place s = Pushes _ refl refl
heap_of row.Push k place s = Pushes _ refl refl
heap_of row.Buffer k place s = Pushes _ refl refl
heap_of row.ReadOnly k place s = view_heap (object_meets demand.ReadOnly s (deep 0 s.top)) s (push kind.ReadOnly (last_of 1 s) (without 1 s)) _ refl
heap_of (row.Take t) k place s = Pushes _ refl refl
heap_of (row.Cut c) k place s = Pushes _ refl refl
heap_of (row.Change f) k place s = Alters (deep 0 (without (values_of f) s).top) (changes_of f (last_of (values_of f) s)) refl
heap_of (row.CutChange f) k place s = Alters (deep 0 (cut s).top) (changes_of f s.top) refl
heap_of row.Pop k place s = pop_heap (nat_lt 0 (length s.top)) s (without 1 s) (cut s) refl refl
heap_of _ k place s = Stays refl

-- ---- a new object

-- there is one only where the row makes it
pub pushed_by : (r : Row) (s t : State) (id : ℕ) (o : Object) → HeapOf r s t → slice_get t.heap id ≡ Some o → slice_get s.heap id ≡ None → (id ≡ length s.heap) × (event_of r (before_of s) t ≡ made_event t.heap (length s.heap))
pushed_by r s t id o (Stays e) there none = let no : None ≡ Some o = sym none ∙ ap (λ (l : List Object). slice_get l id) (sym e) ∙ there in absurd cc
pushed_by r s t id o (Pushes x e made) there none = elim (get_pushed s.heap x id o (ap (λ (l : List Object). slice_get l id) (sym e) ∙ there)) [
  | inl old ↦ let no : None ≡ Some o = sym none ∙ old in absurd cc
  | inr new ↦ (new.0, made)
]
pushed_by r s t id o (Alters j more e) there none = elim (after_changes s.heap j more id o (ap (λ (l : List Object). slice_get l id) (sym e) ∙ there)) [
  | Same is ↦ let no : None ≡ Some o = sym none ∙ is in absurd cc
  | Grown old at was is ↦ let no : None ≡ Some old = sym none ∙ ap (slice_get s.heap) at ∙ was in absurd cc
]

-- the event of an object that is shown
pub made_here : (heap : List Object) (id : ℕ) (o : Object) → slice_get heap id ≡ Some o → (is_opaque o.kind || is_view heap o) ≡ true → made_event heap id ≡ Some (event.Made id)
made_here heap id o there shown = ap (made_as heap id) there ∙ ap (λ (b : Bool). if b then Some (event.Made id) else None) shown

pub or_true : (a b : Bool) → (a ≡ true) ⊎ (b ≡ true) → (a || b) ≡ true
or_true true b h = refl
or_true false b h = elim h [
  | inl wrong ↦ absurd cc
  | inr right ↦ right
]

-- the kind of an object stays
kind_stays : (r : Row) (s t : State) (id : ℕ) (old new : Object) → HeapOf r s t → slice_get s.heap id ≡ Some old → slice_get t.heap id ≡ Some new → new.kind ≡ old.kind
kind_stays r s t id old new (Stays e) before after = let same : new ≡ old = some_same (slice_get s.heap id) new old (ap (λ (l : List Object). slice_get l id) (sym e) ∙ after) before in ap (λ (o : Object). o.kind) same
kind_stays r s t id old new (Pushes x e made) before after =
    let at : slice_get t.heap id ≡ Some old = ap (λ (l : List Object). slice_get l id) e ∙ get-within s.heap (x ∷ []) id (slice_get_within s.heap id old before) ∙ before in
    ap (λ (o : Object). o.kind) (some_same (slice_get t.heap id) new old after at)
kind_stays r s t id old new (Alters j more e) before after = elim (after_changes s.heap j more id new (ap (λ (l : List Object). slice_get l id) (sym e) ∙ after)) [
  | Same is ↦ ap (λ (o : Object). o.kind) (some_same (slice_get s.heap id) new old is before)
  | Grown was_there at was is ↦
      let same : was_there ≡ old = some_same (slice_get s.heap id) was_there old (ap (slice_get s.heap) at ∙ was) before in
      ap (λ (o : Object). o.kind) is ∙ ap (λ (o : Object). o.kind) same
]

-- ---- items

abbrev pub item_event : Operation → State → State → Option Event
item_event o s t = event_of (row_of o) (before_of (fresh s)) t

-- the item of a step
pub item_of_step : (d : Contents) (k : ℕ) (s t : State) → IsStep d k s t → (o : Operation) × (item_at d k ≡ Some o) × HeapOf (row_of o) (fresh s) t
item_of_step d k s t step =
    let m = moves_at d k s t step in
    (m.item, m.there, subst (λ (x : State). HeapOf (row_of m.item) (fresh s) x) m.leads (heap_of (row_of m.item) (kind_of m.item) k (fresh s)))

a_line : (how : Manner) (d : Contents) (k : ℕ) (o : Operation) (s t : State) (e : Event) → item_at d k ≡ Some o → IsStep d k s t → item_event o s t ≡ Some e → (entry_at how d k).text ≢ []
a_line how d k o s t e there step is = λ none.
    let text : (entry_at how d k).text ≡ line_of (in_file how.holes (offset_of d k)) (naming_at how.detail d k) t.heap (item_event o s t) = ap (λ (x : CountedText). x.text) (entry_is for_people how d k o s t there step.before step.after) in
    let here : event_line (in_file how.holes (offset_of d k)) (naming_at how.detail d k) t.heap e ≡ [] = ap (line_of (in_file how.holes (offset_of d k)) (naming_at how.detail d k) t.heap) (sym is) ∙ sym text ∙ none in
    absurd (omega (arith, long (in_file how.holes (offset_of d k)) (naming_at how.detail d k) t.heap e, ap length here))

build_event : (o : Operation) (s t : State) → o.opcode ≡ op.Build → (e : Event) × (item_event o s t ≡ Some e)
build_event o s t is = (_, ap (λ (x : Opcode). event_of (row_of_opcode x o.arg) (before_of (fresh s)) t) is)

makes_line : (how : Manner) (d : Contents) (k : ℕ) (s t : State) → IsStep d k s t → Makes s t → (entry_at how d k).text ≢ []
makes_line how d k s t step m =
    let i = item_of_step d k s t step in
    let made = pushed_by (row_of i.0) (fresh s) t m.id m.object i.2 m.there (ap (λ (l : List Object). slice_get l m.id) (fresh_heap s) ∙ m.fresh) in
    let here : slice_get t.heap (length (fresh s).heap) ≡ Some m.object = ap (slice_get t.heap) (sym made.0) ∙ m.there in
    a_line how d k i.0 s t (event.Made (length (fresh s).heap)) i.1 step (made.1 ∙ made_here t.heap (length (fresh s).heap) m.object here (or_true (is_opaque m.object.kind) (is_view t.heap m.object) m.shown))

changes_line : (how : Manner) (d : Contents) (k : ℕ) (s t : State) → IsStep d k s t → Changes s t → (entry_at how d k).text ≢ []
changes_line how d k s t step c = λ none.
    let i = item_of_step d k s t step in
    let kinds : c.new.kind ≡ c.old.kind = kind_stays (row_of i.0) (fresh s) t c.id c.old c.new i.2 (ap (λ (l : List Object). slice_get l c.id) (fresh_heap s) ∙ c.before) c.after in
    let same : slice_get s.heap c.id ≡ Some c.new = no_line_no_reach how d k s t step none c.id c.new c.after (ap is_opaque kinds ∙ c.opaque) in
    let equal : c.old ≡ c.new = some_same (slice_get s.heap c.id) c.old c.new c.before same in
    absurd (omega (arith, c.more, ap (λ (o : Object). length o.changes) equal))

-- what is told has an event
added : (f : Filling) (n : ℕ) (t : State) → loose_at t.heap (top_of t) ≡ true → (e : Event) × ((if loose_at t.heap (top_of t) then Some (event.Filled f n (top_of t)) else None) ≡ Some e)
added f n t o = (event.Filled f n (top_of t), ap (λ (c : Bool). if c then Some (event.Filled f n (top_of t)) else None) o)

-- what appends or adds to an opaque object, or to a view of one, has an event
adds_event : (r : Row) (b : Before) (t : State) → row_adds r ≡ true → loose_at t.heap (top_of t) ≡ true → (e : Event) × (event_of r b t ≡ Some e)
adds_event (row.Change filling.Append) b t a o = added filling.Append (taken_count b t) t o
adds_event (row.Change filling.Add) b t a o = added filling.Add (taken_count b t) t o
adds_event (row.CutChange filling.Append) b t a o = added filling.Append (taken_count b t) t o
adds_event (row.CutChange filling.Add) b t a o = added filling.Add (taken_count b t) t o
adds_event _ b t a o = absurd cc

shown_line : (how : Manner) (d : Contents) (k : ℕ) (s t : State) → IsStep d k s t → IsShown d k s t → (entry_at how d k).text ≢ []
shown_line how d k s t step shown = elim shown [
  | inl makes ↦ makes_line how d k s t step makes
  | inr rest ↦ (elim rest [
    | inl changes ↦ changes_line how d k s t step changes
    | inr more ↦ (elim more [
      | inl adds ↦ let e = adds_event (row_of adds.0) (before_of (fresh s)) t adds.2 adds.3 in a_line how d k adds.0 s t e.0 adds.1 step e.1
      | inr build ↦ let e = build_event build.0 s t build.2 in a_line how d k build.0 s t e.0 build.1 step e.1
    ])
  ])
]

pub line_exactly : LineExactly
line_exactly how d k s t step = (λ some. only_shown how d k s t step some, λ shown. shown_line how d k s t step shown)
