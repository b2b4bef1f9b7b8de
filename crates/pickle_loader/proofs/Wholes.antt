-- Moves keep a state whole.
use Rattle.std.proofs.Common.{◌≡◌, ℕ, zero, suc, ◌+◌, ◌-◌, ◌<◌, ◌≤◌, Bool, true, false, cond, List, [], ◌∷◌, ◌++◌, length, take, get_or, Option, Some, None, refl, sym, ap, subst, ◌∙◌, inl, inr, arith}
use Rattle.std.proofs.lemmas.Option.{slice_get_within}
use Rattle.std.specs.Prelude.{slice_get, slice_set, is_some, nat_le, nat_lt, ◌||◌, drop}
use Rattle.std.specs.Option.{option_map_or, unwrap_or}
use Rattle.std.specs.Map.{lookup}
use Rattle.std.specs.Ordering.{nat_cmp, match_ordering}
use Rattle.std.specs.declared.cmp.Ordering.{Ordering}
use Rattle.std.specs.declared.cmp.Ordering.TheVariants.{Less, Equal, Greater}
use Rattle.std.specs.BTreeMap.{insert_entry, is_at}
use Rattle.pickle_doc.proofs.Lists.{get-within}
use Rattle.pickle_ops.specs.declared.kind.Kind.{Kind}
use Rattle.pickle_ops.specs.declared.kind.Kind.TheVariants as kind
use Rattle.pickle_ops.specs.declared.class.Demand.TheVariants as demand
use Rattle.pickle_ops.specs.declared.object.Change.{Change}
use Rattle.pickle_ops.specs.declared.opcode.Opcode.{Opcode}
use Rattle.pickle_ops.specs.declared.opcode.Opcode.TheVariants as op
use Rattle.pickle_ops.specs.declared.row.Row.{Row}
use Rattle.pickle_ops.specs.declared.row.Row.TheVariants as row
use Rattle.pickle_ops.specs.Object.{Object}
use Rattle.pickle_ops.specs.Kind.{meets}
use Rattle.pickle_ops.specs.Row.{count_of, values_of, kind_of_opcode}
use Rattle.pickle_machine.specs.declared.refusal.Refusal.{Refusal}
use Rattle.pickle_machine.specs.declared.refusal.Refusal.TheVariants as refusal
use Rattle.pickle_machine.specs.State.{Marked, State, start}
use Rattle.pickle_machine.specs.Move.{deep, last_of, without, under, deeper, cut, put_on, push, changed, change_top, changes_of, put, memo_at, unless, object_meets, if_viewable, refusal_of, next_of, begun, fresh}
use Rattle.pickle_machine.specs.Loader.{cleared}
use Rattle.pickle_machine.proofs.HeapGrowth.{changed_length, push_length}
use Rattle.pickle_calls.proofs.Steps.{is_there, get_pushed, Same, Grown, after_changes}
use Rattle.pickle_loader.specs.Whole.{AreThere, AreMarked, AreKept, IsSeen, IsWhole}
use Rattle.pickle_loader.proofs.Images.{within_le}
use Rattle.pickle_loader.proofs.Methods.{passes}

-- ---- lists of objects

there_more : (n m : ℕ) (ids : List ℕ) → n ≤ m → AreThere n ids → AreThere m ids
there_more n m [] h all = tt
there_more n m (id ∷ ids) h all = (omega (arith, all.0, h), there_more n m ids h all.1)

there_append : (n : ℕ) (xs ys : List ℕ) → AreThere n xs → AreThere n ys → AreThere n (xs ++ ys)
there_append n [] ys all more = more
there_append n (x ∷ xs) ys all more = (all.0, there_append n xs ys all.1 more)

there_take : (n k : ℕ) (xs : List ℕ) → AreThere n xs → AreThere n (take k xs)
there_take n zero xs all = tt
there_take n (suc k) [] all = tt
there_take n (suc k) (x ∷ xs) all = (all.0, there_take n k xs all.1)

there_at : (n i : ℕ) (xs : List ℕ) → AreThere n xs → i < length xs → get_or xs i 0 < n
there_at n i [] all h = absurd (omega (arith, h))
there_at n zero (x ∷ xs) all h = all.0
there_at n (suc i) (x ∷ xs) all h = there_at n i xs all.1 (omega (arith, h))

-- the object at a depth
pub there_deep : (n i : ℕ) (xs : List ℕ) → AreThere n xs → i < length xs → deep i xs < n
there_deep n i xs all h = there_at n (length xs - 1 - i) xs all (omega (arith, h))

pub there_first : (n : ℕ) (xs : List ℕ) → AreThere n xs → 0 < length xs → get_or xs 0 0 < n
there_first n xs all h = there_at n 0 xs all h

marked_more : (n m : ℕ) (ms : List Marked) → n ≤ m → AreMarked n ms → AreMarked m ms
marked_more n m [] h all = tt
marked_more n m (x ∷ ms) h all = (there_more n m x.section h all.0, marked_more n m ms h all.1)

pub there_under : (n : ℕ) (ms : List Marked) → AreMarked n ms → AreThere n (under ms)
there_under n [] all = tt
there_under n (m ∷ ms) all = all.0

marked_deeper : (n : ℕ) (ms : List Marked) → AreMarked n ms → AreMarked n (deeper ms)
marked_deeper n [] all = tt
marked_deeper n (m ∷ ms) all = all.1

kept_more : (n m : ℕ) (es : List (ℕ × ℕ)) → n ≤ m → AreKept n es → AreKept m es
kept_more n m [] h all = tt
kept_more n m (e ∷ es) h all = (omega (arith, all.0, h), kept_more n m es h all.1)

kept_by : (n : ℕ) (o : Ordering) (e : ℕ × ℕ) (es rest : List (ℕ × ℕ)) (key id : ℕ) → id < n → (e.1 < n) → AreKept n es → AreKept n rest → AreKept n (match_ordering o ((key, id) ∷ e ∷ es) ((e.0, id) ∷ es) (e ∷ rest))
kept_by n Less e es rest key id h first all more = (h, (first, all))
kept_by n Equal e es rest key id h first all more = (h, all)
kept_by n Greater e es rest key id h first all more = (first, more)

kept_insert : (n : ℕ) (es : List (ℕ × ℕ)) (key id : ℕ) → id < n → AreKept n es → AreKept n (insert_entry nat_cmp es key id)
kept_insert n [] key id h all = (h, tt)
kept_insert n (e ∷ es) key id h all = kept_by n (nat_cmp key e.0) e es (insert_entry nat_cmp es key id) key id h all.0 all.1 (kept_insert n es key id h all.1)

found_by : (n : ℕ) (b : Bool) (v : ℕ) (x : Option ℕ) → v < n → (is_some x ≡ true → unwrap_or x 0 < n) → is_some (cond b (Some v) x) ≡ true → unwrap_or (cond b (Some v) x) 0 < n
found_by n true v x h more e = h
found_by n false v x h more e = more e

found : (n : ℕ) (es : List (ℕ × ℕ)) (key : ℕ) → AreKept n es → is_some (lookup (is_at (nat_cmp key)) es) ≡ true → unwrap_or (lookup (is_at (nat_cmp key)) es) 0 < n
found n [] key all e = absurd cc
found n (x ∷ es) key all e = found_by n (is_at (nat_cmp key) x.0) x.1 (lookup (is_at (nat_cmp key)) es) all.0 (found n es key all.1) e

-- ---- what views are of

-- a kind that is no view
abbrev pub is_view_kind : Kind → Bool
is_view_kind kind.ReadOnly = true
is_view_kind _ = false

no_view_seen : (heap : List Object) (k : Kind) (parts : List ℕ) → is_view_kind k ≡ false → IsSeen heap k parts
no_view_seen heap kind.ReadOnly parts e = absurd cc
no_view_seen heap _ parts e = tt

-- where an object that is there stays of its kind
StaysOf : List Object → List Object → Type 0
StaysOf heap more = (p : ℕ) (x : Object) → slice_get heap p ≡ Some x → (z : Object) × (slice_get more p ≡ Some z) × (z.kind ≡ x.kind)

seen_stays : (heap more : List Object) (k : Kind) (parts : List ℕ) → StaysOf heap more → IsSeen heap k parts → IsSeen more k parts
unfolding StaysOf
seen_stays heap more kind.ReadOnly parts stays (p, x, at, there, can) =
    let z = stays p x there in
    (p, z.0, at, z.1, ap (meets demand.Writable) z.2 ∙ can)
seen_stays heap more _ parts stays seen = tt

stays_pushed : (heap : List Object) (y : Object) → StaysOf heap (heap ++ y ∷ [])
unfolding StaysOf
stays_pushed heap y p x e = (x, get-within heap (y ∷ []) p (slice_get_within heap p x e) ∙ e, refl)

one_object : (a b : Object) → Some a ≡ Some b → a.kind ≡ b.kind
one_object a b e = cc

stays_set : (heap : List Object) (j : ℕ) (y old : Object) → slice_get heap j ≡ Some old → y.kind ≡ old.kind → StaysOf heap (slice_set heap j y)
unfolding StaysOf
stays_set [] j y old e k p x f = absurd cc
stays_set (a ∷ heap) zero y old e k zero x f = (y, refl, k ∙ sym (one_object a old e) ∙ one_object a x f)
stays_set (a ∷ heap) zero y old e k (suc p) x f = (x, f, refl)
stays_set (a ∷ heap) (suc j) y old e k zero x f = (x, f, refl)
stays_set (a ∷ heap) (suc j) y old e k (suc p) x f = stays_set heap j y old e k p x f

stays_by : (heap : List Object) (j : ℕ) (more : List Change) (g : Option Object) → slice_get heap j ≡ g
    → StaysOf heap (option_map_or (λ (o : Object). slice_set heap j (record o { changes = o.changes ++ more })) g heap)
unfolding StaysOf
stays_by heap j more None e p x f = (x, f, refl)
stays_by heap j more (Some o) e p x f = stays_set heap j (record o { changes = o.changes ++ more }) o e refl p x f

stays_changed : (heap : List Object) (j : ℕ) (more : List Change) → StaysOf heap (changed heap j more)
stays_changed heap j more = stays_by heap j more (slice_get heap j) refl

-- ---- parts of moves

Views : List Object → Type 0
Views heap = (id : ℕ) (o : Object) → slice_get heap id ≡ Some o → IsSeen heap o.kind o.parts

views_pushed : (heap : List Object) (y : Object) → Views heap → IsSeen heap y.kind y.parts → Views (heap ++ y ∷ [])
unfolding Views
views_pushed heap y all new id o e = elim (get_pushed heap y id o e) [
  | inl old ↦ seen_stays heap (heap ++ y ∷ []) o.kind o.parts (stays_pushed heap y) (all id o old)
  | inr is ↦ seen_stays heap (heap ++ y ∷ []) o.kind o.parts (stays_pushed heap y) (subst (λ (z : Object). IsSeen heap z.kind z.parts) (sym is.1) new)
]

views_changed : (heap : List Object) (j : ℕ) (more : List Change) → Views heap → Views (changed heap j more)
unfolding Views
views_changed heap j more all id o e = elim (after_changes heap j more id o e) [
  | Same is ↦ seen_stays heap (changed heap j more) o.kind o.parts (stays_changed heap j more) (all id o is)
  | Grown old at was is ↦
      seen_stays heap (changed heap j more) o.kind o.parts (stays_changed heap j more)
      (subst (λ (z : Object). IsSeen heap z.kind z.parts) (sym is) (all id old (ap (slice_get heap) at ∙ was)))
]

pub whole_push : (k : Kind) (parts : List ℕ) (u : State) → IsWhole u → IsSeen u.heap k parts → IsWhole (push k parts u)
unfolding Views
whole_push k parts u whole seen =
    let size : length (push k parts u).heap ≡ length u.heap + 1 = push_length k parts u in
    let more : length u.heap ≤ length (push k parts u).heap = omega (arith, size) in
    let last : AreThere (length (push k parts u).heap) (length u.heap ∷ []) = (omega (arith, size), tt) in
    record {
      top = there_append (length (push k parts u).heap) u.top (length u.heap ∷ []) (there_more (length u.heap) (length (push k parts u).heap) u.top more whole.top) last;
      marked = marked_more (length u.heap) (length (push k parts u).heap) u.marked more whole.marked;
      memo = kept_more (length u.heap) (length (push k parts u).heap) u.memo more whole.memo;
      views = views_pushed u.heap (record { kind = k; parts = parts; changes = [] }) whole.views seen;
    }

pub whole_without : (n : ℕ) (s : State) → IsWhole s → IsWhole (without n s)
whole_without n s whole = record { top = there_take (length s.heap) (length s.top - n) s.top whole.top; marked = whole.marked; memo = whole.memo; views = whole.views }

pub whole_cut : (s : State) → IsWhole s → IsWhole (cut s)
whole_cut s whole = record { top = there_under (length s.heap) s.marked whole.marked; marked = marked_deeper (length s.heap) s.marked whole.marked; memo = whole.memo; views = whole.views }

whole_changed : (more : List Change) (u : State) → IsWhole u → IsWhole (change_top more u)
unfolding Views
whole_changed more u whole =
    let size : length (change_top more u).heap ≡ length u.heap = changed_length u.heap (deep 0 u.top) more (slice_get u.heap (deep 0 u.top)) in
    record {
      top = there_more (length u.heap) (length (change_top more u).heap) u.top (omega (arith, size)) whole.top;
      marked = marked_more (length u.heap) (length (change_top more u).heap) u.marked (omega (arith, size)) whole.marked;
      memo = kept_more (length u.heap) (length (change_top more u).heap) u.memo (omega (arith, size)) whole.memo;
      views = views_changed u.heap (deep 0 u.top) more whole.views;
    }

whole_put_on : (id : ℕ) (s : State) → IsWhole s → id < length s.heap → IsWhole (put_on id s)
whole_put_on id s whole h =
    record { top = there_append (length s.heap) s.top (id ∷ []) whole.top (h, tt); marked = whole.marked; memo = whole.memo; views = whole.views }

whole_put : (key : ℕ) (s : State) → IsWhole s → 0 < length s.top → IsWhole (put key s)
whole_put key s whole h =
    record { top = whole.top; marked = whole.marked; memo = kept_insert (length s.heap) s.memo key (deep 0 s.top) (there_deep (length s.heap) 0 s.top whole.top h) whole.memo; views = whole.views }

whole_either : (b : Bool) (s t : State) → IsWhole s → IsWhole t → IsWhole (cond b s t)
whole_either true s t x y = x
whole_either false s t x y = y

some_deep : (n : ℕ) (rest : Option Refusal) → unless (nat_le 1 n) refusal.Underflow rest ≡ None → 0 < n
some_deep n rest e = omega (arith, within_le 1 n (passes (nat_le 1 n) refusal.Underflow rest e).0)

-- ---- views

first_dropped : (xs : List ℕ) (m : ℕ) → m < length xs → slice_get (drop m xs) 0 ≡ Some (get_or xs m 0)
first_dropped [] m h = absurd (omega (arith, h))
first_dropped (x ∷ xs) zero h = refl
first_dropped (x ∷ xs) (suc m) h = first_dropped xs m (omega (arith, h))

pub top_of_last : (s : State) → 0 < length s.top → slice_get (last_of 1 s) 0 ≡ Some (deep 0 s.top)
top_of_last s h = first_dropped s.top (length s.top - 1) (omega (arith, h)) ∙ ap (λ (m : ℕ). Some (get_or s.top m 0)) (omega (arith, h))

one_or : (a b : Bool) → (a || b) ≡ true → a ≡ false → b ≡ true
one_or true b e f = absurd cc
one_or false b e f = e

viewed_by : (b : Bool) (s : State) → IsWhole s → object_meets demand.ReadOnly s (deep 0 s.top) ≡ b → refusal_of row.ReadOnly s ≡ None → IsWhole (cond b s (push kind.ReadOnly (last_of 1 s) (without 1 s)))
viewed_by true s whole is e = whole
viewed_by false s whole is e =
    let fine = passes (nat_le 1 (length s.top)) refusal.Underflow (if_viewable s (deep 0 s.top)) e in
    let can = passes (object_meets demand.ReadOnly s (deep 0 s.top) || object_meets demand.Writable s (deep 0 s.top)) (refusal.WrongKind (deep 0 s.top)) None fine.1 in
    let o = is_there (meets demand.Writable) s.heap (deep 0 s.top) (one_or _ _ can.0 is) in
    whole_push kind.ReadOnly (last_of 1 s) (without 1 s) (whole_without 1 s whole) (deep 0 s.top, o.0, top_of_last s (some_deep (length s.top) (if_viewable s (deep 0 s.top)) e), o.1, o.2)

-- ---- rows

pub whole_next : (r : Row) (k : Kind) (place : ℕ) (s : State) → IsWhole s → is_view_kind k ≡ false → refusal_of r s ≡ None → IsWhole (next_of r k place s)
whole_next row.Nothing k place s whole v e = whole
whole_next (row.Protocol n) k place s whole v e = whole
whole_next (row.Extension n) k place s whole v e = whole_push k [] s whole (no_view_seen s.heap k [] v)
whole_next row.Push k place s whole v e = whole_push k [] s whole (no_view_seen s.heap k [] v)
whole_next row.Buffer k place s whole v e =
    let pushed = whole_push (kind.Buffer s.buffers) [] s whole tt in
    record { top = pushed.top; marked = pushed.marked; memo = pushed.memo; views = pushed.views }
whole_next row.ReadOnly k place s whole v e = viewed_by (object_meets demand.ReadOnly s (deep 0 s.top)) s whole refl e
whole_next (row.Take t) k place s whole v e = whole_push k (last_of (count_of t) s) (without (count_of t) s) (whole_without (count_of t) s whole) (no_view_seen s.heap k (last_of (count_of t) s) v)
whole_next (row.Cut c) k place s whole v e = whole_push k s.top (cut s) (whole_cut s whole) (no_view_seen s.heap k s.top v)
whole_next (row.Change f) k place s whole v e = whole_changed (changes_of f (last_of (values_of f) s)) (without (values_of f) s) (whole_without (values_of f) s whole)
whole_next (row.CutChange f) k place s whole v e = whole_changed (changes_of f s.top) (cut s) (whole_cut s whole)
whole_next row.Pop k place s whole v e = whole_either (nat_lt 0 (length s.top)) (without 1 s) (cut s) (whole_without 1 s whole) (whole_cut s whole)
whole_next row.PopMark k place s whole v e = whole_cut s whole
whole_next row.Dup k place s whole v e = whole_put_on (deep 0 s.top) s whole (there_deep (length s.heap) 0 s.top whole.top (some_deep (length s.top) None e))
whole_next row.Mark k place s whole v e = record { top = tt; marked = (whole.top, whole.marked); memo = whole.memo; views = whole.views }
whole_next (row.Get key) k place s whole v e =
    whole_put_on (unwrap_or (memo_at key s) 0) s whole (found (length s.heap) s.memo key whole.memo (passes (is_some (memo_at key s)) (refusal.NoMemoEntry key) None e).0)
whole_next (row.Put key) k place s whole v e = whole_put key s whole (some_deep (length s.top) None e)
whole_next row.Memoize k place s whole v e = whole_put (length s.memo) s whole (some_deep (length s.top) None e)
whole_next row.Stop k place s whole v e = let less = whole_without 1 s whole in record { top = less.top; marked = less.marked; memo = less.memo; views = less.views }

-- ---- opcodes

-- no opcode of the table makes a view as its row
int_no_view : (a b : Bool) (text : List ℕ) → is_view_kind (cond a kind.False (cond b kind.True (kind.IntLine text))) ≡ false
int_no_view true b text = refl
int_no_view false true text = refl
int_no_view false false text = refl

pub no_view_kind : (o : Opcode) (arg : List ℕ) → is_view_kind (kind_of_opcode o arg) ≡ false
no_view_kind op.Int arg = int_no_view _ _ _
no_view_kind _ arg = refl

-- ---- beginnings

pub whole_start : (many : Bool) → IsWhole (start many)
whole_start many = record { top = tt; marked = tt; memo = tt; views = λ id o e. absurd cc }

pub whole_begun : (s : State) → IsWhole s → IsWhole (begun s)
whole_begun s whole = record { top = tt; marked = tt; memo = tt; views = whole.views }

pub whole_cleared : (s : State) → IsWhole s → IsWhole (cleared s)
whole_cleared s whole = record { top = tt; marked = tt; memo = whole.memo; views = whole.views }

fresh_by : (b : Bool) (s : State) → IsWhole s → IsWhole (cond b (begun s) s)
fresh_by true s whole = whole_begun s whole
fresh_by false s whole = whole

pub whole_fresh : (s : State) → IsWhole s → IsWhole (fresh s)
whole_fresh s whole = fresh_by s.stopped s whole
