-- A row leaves every number naming an object.
use Rattle.std.proofs.Common.{◌≡◌, ℕ, ◌+◌, ◌-◌, ◌<◌, ◌≤◌, Bool, true, false, cond, List, [], ◌∷◌, ◌++◌, length, set, suc, zero, Option, Some, None, refl, sym, subst, arith}
use Rattle.std.proofs.lemmas.List.Elements.{All-nil, All-cons, All-head, All-tail, All-get_or, All-append, All-push, All-set, All-weaker, All-take, All-drop, All-map}
use Rattle.std.proofs.lemmas.Map.Views.{All-values-insert_entry, IfSome-lookup_from_All}
use Rattle.std.specs.Prelude.{IfSome}
use Rattle.std.specs.Option.{option_map_or, is_some, unwrap_or}
use Rattle.std.specs.List.{All, slice_get}
use Rattle.std.specs.Ordering.{nat_cmp}
use Rattle.std.specs.BTreeMap.{is_at}
use Rattle.pickle_ops.specs.declared.kind.Kind.{Kind}
use Rattle.pickle_ops.specs.declared.kind.Kind.TheVariants as kind
use Rattle.pickle_ops.specs.declared.object.Change.{Change}
use Rattle.pickle_ops.specs.declared.object.Change.TheVariants as change
use Rattle.pickle_ops.specs.declared.row.Row.{Row}
use Rattle.pickle_ops.specs.declared.row.Row.TheVariants as row
use Rattle.pickle_ops.specs.declared.row.Filling.{Filling}
use Rattle.pickle_ops.specs.declared.row.Filling.TheVariants as filling
use Rattle.pickle_ops.specs.Object.{Object}
use Rattle.pickle_ops.specs.Row.{count_of, values_of, change_of}
use Rattle.pickle_machine.specs.declared.refusal.Refusal.TheVariants as refusal
use Rattle.pickle_machine.specs.State.{Marked, Left, State, start}
use Rattle.pickle_machine.specs.Move.{deep, put, memo_at, change_top, changes_of, pairs_of, refusal_of, next_of, begun, fresh, changed, push, last_of, without, cut, put_on, under, deeper}
use Rattle.pickle_machine.specs.Loader.{cleared}
use Rattle.pickle_machine.specs.Names.{AreNames, AreNaming, named_by, IsNaming, IsNamingBehind, NamesAll}
use Rattle.pickle_machine.proofs.Leading.{good_of, deep_of}
use Rattle.pickle_machine.proofs.HeapGrowth.{changed_length, push_length}

-- ---- more objects

more_names : (a b : ℕ) → a ≤ b → (ids : List ℕ) → AreNames a ids → AreNames b ids
more_names a b le ids h = All-weaker (λ id. id < a) (λ id. id < b) (λ id l. omega (arith, l)) ids h

more_naming : (a b : ℕ) → a ≤ b → (o : Object) → IsNaming a o → IsNaming b o
more_naming a b le o h = record {
  parts = more_names a b le o.parts h.parts;
  changes = All-weaker (λ c. AreNames a (named_by c)) (λ c. AreNames b (named_by c)) (λ c l. more_names a b le (named_by c) l) o.changes h.changes;
}

more_sections : (a b : ℕ) → a ≤ b → (ms : List Marked) → AreNaming a ms → AreNaming b ms
more_sections a b le ms h = All-weaker (λ m. AreNames a m.section) (λ m. AreNames b m.section) (λ m l. more_names a b le m.section l) ms h

more_behind : (a b : ℕ) → a ≤ b → (l : Left) → IsNamingBehind a l → IsNamingBehind b l
more_behind a b le l h = record { top = more_names a b le l.top h.top; marked = more_sections a b le l.marked h.marked }

-- ---- each shape

pub start_names : (many : Bool) → NamesAll (start many)
start_names many = record {
  heap = All-nil (λ o. IsNaming 0 o);
  top = All-nil (λ id. id < 0);
  marked = All-nil (λ m. AreNames 0 m.section);
  memo = All-nil (λ id. id < 0);
  results = All-nil (λ id. id < 0);
  left = All-nil (λ l. IsNamingBehind 0 l);
}

-- the top section has other objects
top_names : (ids : List ℕ) (s : State) → AreNames (length s.heap) ids → NamesAll s → NamesAll (record s { top = ids })
top_names ids s t i = record { heap = i.heap; top = t; marked = i.marked; memo = i.memo; results = i.results; left = i.left }

without_names : (n : ℕ) (s : State) → NamesAll s → NamesAll (without n s)
without_names n s i = top_names (without n s).top s (All-take (λ id. id < length s.heap) (length s.top - n) s.top i.top) i

last_names : (n : ℕ) (s : State) → NamesAll s → AreNames (length s.heap) (last_of n s)
last_names n s i = All-drop (λ id. id < length s.heap) (length s.top - n) s.top i.top

pub put_on_names : (id : ℕ) (s : State) → id < length s.heap → NamesAll s → NamesAll (put_on id s)
put_on_names id s h i = top_names (put_on id s).top s (All-push (λ id. id < length s.heap) s.top id i.top h) i

under_names : (n : ℕ) (ms : List Marked) → All (λ m. AreNames n m.section) ms → AreNames n (under ms)
under_names n [] h = All-nil (λ id. id < n)
under_names n (m ∷ ms) h = All-head (λ m. AreNames n m.section) m ms h

deeper_names : (n : ℕ) (ms : List Marked) → All (λ m. AreNames n m.section) ms → All (λ m. AreNames n m.section) (deeper ms)
deeper_names n [] h = h
deeper_names n (m ∷ ms) h = All-tail (λ m. AreNames n m.section) m ms h

cut_names : (s : State) → NamesAll s → NamesAll (cut s)
cut_names s i = record {
  heap = i.heap;
  top = under_names (length s.heap) s.marked i.marked;
  marked = deeper_names (length s.heap) s.marked i.marked;
  memo = i.memo;
  results = i.results;
  left = i.left;
}

mark_names : (place : ℕ) (s : State) → NamesAll s → NamesAll (record s { top = []; marked = record { section = s.top; place = place } ∷ s.marked })
mark_names place s i = record {
  heap = i.heap;
  top = All-nil (λ id. id < length s.heap);
  marked = All-cons (λ m. AreNames (length s.heap) m.section) (record { section = s.top; place = place }) s.marked i.top i.marked;
  memo = i.memo;
  results = i.results;
  left = i.left;
}

push_names : (k : Kind) (parts : List ℕ) (s : State) → AreNames (length s.heap) parts → NamesAll s → NamesAll (push k parts s)
push_names k parts s p i =
    let o : Object = record { kind = k; parts = parts; changes = [] } in
    let n : ℕ = length s.heap in
    let m : ℕ = length (s.heap ++ o ∷ []) in
    let long : m ≡ n + 1 = push_length k parts s in
    let le : n ≤ m = omega (arith, long) in
    let new : IsNaming m o = record { parts = more_names n m le parts p; changes = All-nil (λ c. AreNames m (named_by c)) } in
    record {
      heap = All-push (λ o. IsNaming m o) s.heap o (All-weaker (λ o. IsNaming n o) (λ o. IsNaming m o) (λ o h. more_naming n m le o h) s.heap i.heap) new;
      top = All-push (λ id. id < m) s.top n (more_names n m le s.top i.top) (omega (arith, long));
      marked = All-weaker (λ x. AreNames n x.section) (λ x. AreNames m x.section) (λ x h. more_names n m le x.section h) s.marked i.marked;
      memo = more_names n m le _ i.memo;
      results = more_names n m le s.results i.results;
      left = All-weaker (λ l. IsNamingBehind n l) (λ l. IsNamingBehind m l) (λ l h. more_behind n m le l h) s.left i.left;
    }

buffer_names : (n : ℕ) (s : State) → NamesAll s → NamesAll (record s { buffers = n })
buffer_names n s i = record { heap = i.heap; top = i.top; marked = i.marked; memo = i.memo; results = i.results; left = i.left }

results_names : (id : ℕ) (stopped : Bool) (s : State) → id < length s.heap → NamesAll s → NamesAll (record s { results = s.results ++ id ∷ []; stopped = stopped })
results_names id stopped s h i = record { heap = i.heap; top = i.top; marked = i.marked; memo = i.memo; results = All-push (λ id. id < length s.heap) s.results id i.results h; left = i.left }

put_names : (key : ℕ) (s : State) → deep 0 s.top < length s.heap → NamesAll s → NamesAll (put key s)
put_names key s h i = record { heap = i.heap; top = i.top; marked = i.marked; memo = All-values-insert_entry nat_cmp key (deep 0 s.top) (λ id. id < length s.heap) s.memo i.memo h; results = i.results; left = i.left }

-- ---- changes

-- a heap of as many objects
heap_names : (s : State) (h : List Object) → length h ≡ length s.heap → All (λ o. IsNaming (length s.heap) o) h → NamesAll s → NamesAll (record s { heap = h })
heap_names s h e a i = record {
  heap = subst (λ (n : ℕ). All (λ o. IsNaming n o) h) (sym e) a;
  top = subst (λ (n : ℕ). AreNames n s.top) (sym e) i.top;
  marked = subst (λ (n : ℕ). All (λ (m : Marked). AreNames n m.section) s.marked) (sym e) i.marked;
  memo = more_names (length s.heap) (length h) (omega (arith, e)) _ i.memo;
  results = subst (λ (n : ℕ). AreNames n s.results) (sym e) i.results;
  left = subst (λ (n : ℕ). All (λ l. IsNamingBehind n l) s.left) (sym e) i.left;
}

found_names : (n : ℕ) (heap : List Object) (id : ℕ) (o : Object) → slice_get heap id ≡ Some o → All (λ o. IsNaming n o) heap → IsNaming n o
found_names n [] id o e h = absurd cc
found_names n (y ∷ ys) zero o e h = let same : y ≡ o = cc in subst (λ (o : Object). IsNaming n o) same (All-head (λ o. IsNaming n o) y ys h)
found_names n (y ∷ ys) (suc id) o e h = found_names n ys id o e (All-tail (λ o. IsNaming n o) y ys h)

changed_by : (n : ℕ) (heap : List Object) (id : ℕ) (more : List Change) (g : Option Object) → slice_get heap id ≡ g → All (λ c. AreNames n (named_by c)) more → All (λ o. IsNaming n o) heap
    → All (λ o. IsNaming n o) (option_map_or (λ (o : Object). set heap id (record o { changes = o.changes ++ more })) g heap)
changed_by n heap id more None e c h = h
changed_by n heap id more (Some o) e c h =
    let old : IsNaming n o = found_names n heap id o e h in
    let new : IsNaming n (record o { changes = o.changes ++ more }) = record { parts = old.parts; changes = All-append (λ c. AreNames n (named_by c)) o.changes more old.changes c } in
    All-set (λ o. IsNaming n o) heap id (record o { changes = o.changes ++ more }) new h

change_names : (more : List Change) (s : State) → All (λ c. AreNames (length s.heap) (named_by c)) more → NamesAll s → NamesAll (change_top more s)
change_names more s c i =
    let id : ℕ = deep 0 s.top in
    heap_names s (changed s.heap id more) (changed_length s.heap id more (slice_get s.heap id)) (changed_by (length s.heap) s.heap id more (slice_get s.heap id) refl c i.heap) i

one_name : (n id : ℕ) → id < n → AreNames n (id ∷ [])
one_name n id h = All-cons (λ id. id < n) id [] h (All-nil (λ id. id < n))

pairs_names : (n : ℕ) (ids : List ℕ) → AreNames n ids → All (λ c. AreNames n (named_by c)) (pairs_of ids)
pairs_names n [] h = All-nil (λ c. AreNames n (named_by c))
pairs_names n (k ∷ []) h = All-nil (λ c. AreNames n (named_by c))
pairs_names n (k ∷ v ∷ ids) h =
    let rest : AreNames n (v ∷ ids) = All-tail (λ id. id < n) k (v ∷ ids) h in
    let pair : AreNames n (k ∷ v ∷ []) = All-cons (λ id. id < n) k (v ∷ []) (All-head (λ id. id < n) k (v ∷ ids) h) (one_name n v (All-head (λ id. id < n) v ids rest)) in
    All-cons (λ c. AreNames n (named_by c)) (change.SetItem k v) (pairs_of ids) pair (pairs_names n ids (All-tail (λ id. id < n) v ids rest))

changes_names : (f : Filling) (n : ℕ) (ids : List ℕ) → AreNames n ids → All (λ c. AreNames n (named_by c)) (changes_of f ids)
changes_names filling.Append n ids h = All-map (λ c. AreNames n (named_by c)) (change_of filling.Append) ids (All-weaker (λ id. id < n) (λ id. AreNames n (id ∷ [])) (λ id l. one_name n id l) ids h)
changes_names filling.SetItem n ids h = pairs_names n ids h
changes_names filling.Add n ids h = All-map (λ c. AreNames n (named_by c)) (change_of filling.Add) ids (All-weaker (λ id. id < n) (λ id. AreNames n (id ∷ [])) (λ id l. one_name n id l) ids h)
changes_names filling.Build n ids h = All-map (λ c. AreNames n (named_by c)) (change_of filling.Build) ids (All-weaker (λ id. id < n) (λ id. AreNames n (id ∷ [])) (λ id l. one_name n id l) ids h)

-- ---- each row

deep_name : (s : State) → 1 ≤ length s.top → NamesAll s → deep 0 s.top < length s.heap
deep_name s h i = All-get_or (λ id. id < length s.heap) s.top (length s.top - 1 - 0) 0 (omega (arith, h)) i.top

found_name : (n : ℕ) (g : Option ℕ) → is_some g ≡ true → IfSome g (λ id. id < n) → unwrap_or g 0 < n
found_name n None s h = absurd cc
found_name n (Some id) s h = h

pick_names : (b : Bool) (s t : State) → NamesAll s → NamesAll t → NamesAll (cond b s t)
pick_names true s t h g = h
pick_names false s t h g = g

pub names_next : (r : Row) (k : Kind) (place : ℕ) (s : State) → refusal_of r s ≡ None → NamesAll s → NamesAll (next_of r k place s)
names_next row.Nothing k place s e i = i
names_next (row.Protocol n) k place s e i = i
names_next (row.Extension n) k place s e i = push_names k [] s (All-nil (λ id. id < length s.heap)) i
names_next row.Push k place s e i = push_names k [] s (All-nil (λ id. id < length s.heap)) i
names_next row.Buffer k place s e i =
    buffer_names (s.buffers + 1) (push (kind.Buffer s.buffers) [] s) (push_names (kind.Buffer s.buffers) [] s (All-nil (λ id. id < length s.heap)) i)
names_next row.ReadOnly k place s e i =
    pick_names _ s (push kind.ReadOnly (last_of 1 s) (without 1 s)) i (push_names kind.ReadOnly (last_of 1 s) (without 1 s) (last_names 1 s i) (without_names 1 s i))
names_next (row.Take t) k place s e i = push_names k (last_of (count_of t) s) (without (count_of t) s) (last_names (count_of t) s i) (without_names (count_of t) s i)
names_next (row.Cut c) k place s e i = push_names k s.top (cut s) i.top (cut_names s i)
names_next (row.Change f) k place s e i =
    change_names (changes_of f (last_of (values_of f) s)) (without (values_of f) s) (changes_names f (length s.heap) (last_of (values_of f) s) (last_names (values_of f) s i)) (without_names (values_of f) s i)
names_next (row.CutChange f) k place s e i = change_names (changes_of f s.top) (cut s) (changes_names f (length s.heap) s.top i.top) (cut_names s i)
names_next row.Pop k place s e i = pick_names _ (without 1 s) (cut s) (without_names 1 s i) (cut_names s i)
names_next row.PopMark k place s e i = cut_names s i
names_next row.Dup k place s e i = put_on_names (deep 0 s.top) s (deep_name s (deep_of 1 s.top None e) i) i
names_next row.Mark k place s e i = mark_names place s i
names_next (row.Get key) k place s e i =
    let found : is_some (memo_at key s) ≡ true = good_of _ (refusal.NoMemoEntry key) None e in
    put_on_names (unwrap_or (memo_at key s) 0) s (found_name (length s.heap) (memo_at key s) found (IfSome-lookup_from_All (λ id. id < length s.heap) (is_at (nat_cmp key)) s.memo i.memo)) i
names_next (row.Put key) k place s e i = put_names key s (deep_name s (deep_of 1 s.top None e) i) i
names_next row.Memoize k place s e i = put_names (length s.memo) s (deep_name s (deep_of 1 s.top None e) i) i
names_next row.Stop k place s e i = results_names (deep 0 s.top) s.many (without 1 s) (deep_name s (deep_of 1 s.top None e) i) (without_names 1 s i)

-- ---- a further pickle

begun_names : (s : State) → NamesAll s → NamesAll (begun s)
begun_names s i = record {
  heap = i.heap;
  top = All-nil (λ id. id < length s.heap);
  marked = All-nil (λ m. AreNames (length s.heap) m.section);
  memo = All-nil (λ id. id < length s.heap);
  results = i.results;
  left = All-cons (λ l. IsNamingBehind (length s.heap) l) (record { top = s.top; marked = s.marked }) s.left (record { top = i.top; marked = i.marked }) i.left;
}

-- the stack and the results are dropped
pub cleared_names : (s : State) → NamesAll s → NamesAll (cleared s)
cleared_names s i = record {
  heap = i.heap;
  top = All-nil (λ id. id < length s.heap);
  marked = All-nil (λ m. AreNames (length s.heap) m.section);
  memo = i.memo;
  results = All-nil (λ id. id < length s.heap);
  left = i.left;
}

-- a step, also a first one
pub step_names : (r : Row) (k : Kind) (place : ℕ) (s : State) → refusal_of r (fresh s) ≡ None → NamesAll s → NamesAll (next_of r k place (fresh s))
step_names r k place s e i = names_next r k place (fresh s) e (pick_names s.stopped (begun s) s (begun_names s i) i)
