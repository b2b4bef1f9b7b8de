-- What a move does to the heap.
use Rattle.std.proofs.Common.{◌≡◌, ℕ, ◌+◌, ◌≤◌, Bool, true, false, cond, ltb, List, [], ◌∷◌, ◌++◌, length, Option, Some, None, Ok, Err, refl, subst, length-append, arith}
use Rattle.std.specs.Prelude.{slice_get, slice_set}
use Rattle.std.specs.Option.{option_map_or}
use Rattle.std.proofs.Math.ListN.{length-set}
use Rattle.pickle_ops.specs.Spelling.{Operation}
use Rattle.pickle_ops.specs.declared.kind.Kind.{Kind}
use Rattle.pickle_ops.specs.declared.row.Row.{Row}
use Rattle.pickle_ops.specs.declared.row.Row.TheVariants as row
use Rattle.pickle_ops.specs.declared.object.Change.{Change}
use Rattle.pickle_ops.specs.declared.class.Demand.TheVariants as demand
use Rattle.pickle_ops.specs.Object.{Object}
use Rattle.pickle_ops.specs.Row.{values_of, row_of, kind_of}
use Rattle.pickle_machine.specs.declared.refusal.Refusal.{Refusal}
use Rattle.pickle_machine.specs.State.{State}
use Rattle.pickle_machine.specs.Move.{next_of, refusal_at, next, outcome, move, cut, without, changed, deep, object_meets, last_of as last_objects, change_top, changes_of, fresh}
use Rattle.pickle_machine.proofs.HeapGrowth.{fresh_heap}

one_more : (x : Object) (xs : List Object) → length (xs ++ x ∷ []) ≤ length xs + 1
one_more x xs = omega (arith, length-append xs (x ∷ []))

changed_length : (heap : List Object) (id : ℕ) (more : List Change) → length (changed heap id more) ≡ length heap
changed_length heap id more = go (slice_get heap id)
  where
    go : (o : Option Object) → length (option_map_or (λ (o : Object). slice_set heap id (record o { changes = o.changes ++ more })) o heap) ≡ length heap
    go None = refl
    go (Some o) = length-set heap id _

change_heap : (more : List Change) (s : State) → length (change_top more s).heap ≡ length s.heap
change_heap more s = changed_length s.heap (deep 0 s.top) more

by_either : (b : Bool) (s t u : State) → length t.heap ≤ length s.heap + 1 → length u.heap ≤ length s.heap + 1 → length (cond b t u).heap ≤ length s.heap + 1
by_either true s t u p q = p
by_either false s t u p q = q

next_heap : (r : Row) (k : Kind) (place : ℕ) (s : State) → length (next_of r k place s).heap ≤ length s.heap + 1
next_heap row.Nothing k place s = omega arith
next_heap (row.Protocol n) k place s = omega arith
next_heap (row.Extension n) k place s = one_more _ s.heap
next_heap row.Push k place s = one_more _ s.heap
next_heap row.Buffer k place s = one_more _ s.heap
next_heap row.ReadOnly k place s = by_either (object_meets demand.ReadOnly s (deep 0 s.top)) s s _ (omega arith) (one_more _ s.heap)
next_heap (row.Take t) k place s = one_more _ s.heap
next_heap (row.Cut c) k place s = one_more _ s.heap
next_heap (row.Change f) k place s = omega (arith, change_heap (changes_of f (last_objects (values_of f) s)) (without (values_of f) s))
next_heap (row.CutChange f) k place s = omega (arith, change_heap (changes_of f s.top) (cut s))
next_heap row.Pop k place s = by_either (ltb 0 (length s.top)) s (without 1 s) (cut s) (omega arith) (omega arith)
next_heap row.PopMark k place s = omega arith
next_heap row.Dup k place s = omega arith
next_heap row.Mark k place s = omega arith
next_heap (row.Get key) k place s = omega arith
next_heap (row.Put key) k place s = omega arith
next_heap row.Memoize k place s = omega arith
next_heap row.Stop k place s = omega arith

pub moved : (r : Option Refusal) (t u : State) → outcome r t ≡ Ok u → (r ≡ None) × (t ≡ u)
moved None t u e = (refl, cc)
moved (Some r) t u e = cc

pub move_heap : (o : Operation) (place : ℕ) (s t : State) → move o place s ≡ Ok t → length t.heap ≤ length s.heap + 1
move_heap o place s t e =
    let same = moved (refusal_at o s) (next o place s) t e in
    let grows : length (next o place s).heap ≤ length s.heap + 1 = subst (λ (h : List Object). length (next o place s).heap ≤ length h + 1) (fresh_heap s) (next_heap (row_of o) (kind_of o) place (fresh s)) in
    subst (λ (u : State). length u.heap ≤ length s.heap + 1) same.1 grows

pub refused_move : (o : Operation) (place : ℕ) (s : State) (r : Refusal) → refusal_at o s ≡ Some r → move o place s ≡ Err r
refused_move o place s r e = rw e refl
