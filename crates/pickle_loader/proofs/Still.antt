-- What a row leaves as it was.
use Rattle.std.proofs.Common.{◌≡◌, ◌⊎◌, ℕ, zero, suc, ◌≤◌, Bool, true, false, cond, List, [], ◌∷◌, length, Option, Some, None, refl, sym, ap, ◌∙◌, inl, inr, arith}
use Rattle.std.specs.Prelude.{slice_get, nat_lt, ◌&&◌}
use Rattle.std.specs.Result.{result_ok}
use Rattle.pickle_ops.specs.declared.opcode.Opcode.{Opcode}
use Rattle.pickle_ops.specs.declared.opcode.Opcode.TheVariants as op
use Rattle.pickle_ops.specs.declared.kind.Kind.{Kind}
use Rattle.pickle_ops.specs.declared.kind.Kind.TheVariants as kind
use Rattle.pickle_ops.specs.declared.class.Demand.TheVariants as demand
use Rattle.pickle_ops.specs.declared.row.Row.{Row}
use Rattle.pickle_ops.specs.declared.row.Row.TheVariants as row
use Rattle.pickle_ops.specs.Spelling.{Operation}
use Rattle.pickle_ops.specs.Row.{count_of, values_of, row_of, row_of_opcode, kind_of}
use Rattle.pickle_doc.specs.declared.item.Item.{Item}
use Rattle.pickle_doc.specs.DocUnit.{operations, is_stop}
use Rattle.pickle_doc.specs.Document.{OnlyLastStops}
use Rattle.pickle_machine.specs.declared.refusal.Refusal.{Refusal}
use Rattle.pickle_machine.specs.State.{State, start}
use Rattle.pickle_machine.specs.Move.{deep, changes_of, push, last_of, without, cut, next_of, next, begun, fresh, outcome, refusal_at, object_meets}
use Rattle.pickle_machine.proofs.HeapGrowth.{changed_length, push_length}
use Rattle.pickle_machine.specs.Run.{after, run}
use Rattle.pickle_text.proofs.Runs.{run_after}

pub record Still (s t : State) : Type 0 where
  pub many : t.many ≡ s.many
  pub stopped : t.stopped ≡ s.stopped
  pub results : t.results ≡ s.results

either_still : (b : Bool) (s t u : State) → Still s t → Still s u → Still s (cond b t u)
either_still true s t u x y = x
either_still false s t u x y = y

-- all rows but STOP
pub still : (r : Row) (k : Kind) (place : ℕ) (s : State) → (r ≡ row.Stop) ⊎ Still s (next_of r k place s)
still row.Stop k place s = inl refl
still row.ReadOnly k place s = inr (either_still (object_meets demand.ReadOnly s (deep 0 s.top)) s s (push kind.ReadOnly (last_of 1 s) (without 1 s)) (record { many = refl; stopped = refl; results = refl }) (record { many = refl; stopped = refl; results = refl }))
still row.Pop k place s = inr (either_still (nat_lt 0 (length s.top)) s (without 1 s) (cut s) (record { many = refl; stopped = refl; results = refl }) (record { many = refl; stopped = refl; results = refl }))
still _ k place s = inr (record { many = refl; stopped = refl; results = refl })

pub keeps_many : (r : Row) (k : Kind) (place : ℕ) (s : State) → (next_of r k place s).many ≡ s.many
keeps_many r k place s = elim (still r k place s) [
  | inl is ↦ ap (λ (x : Row). (next_of x k place s).many) is
  | inr same ↦ same.many
]

-- the heap never shrinks
pick_least : (b : Bool) (s t : State) (n : ℕ) → n ≤ length s.heap → n ≤ length t.heap → n ≤ length (cond b s t).heap
pick_least true s t n h g = h
pick_least false s t n h g = g

pub grows : (r : Row) (k : Kind) (place : ℕ) (s : State) → length s.heap ≤ length (next_of r k place s).heap
grows row.Nothing k place s = omega arith
grows (row.Protocol n) k place s = omega arith
grows (row.Extension n) k place s = omega (arith, push_length k [] s)
grows row.Push k place s = omega (arith, push_length k [] s)
grows row.Buffer k place s = omega (arith, push_length (kind.Buffer s.buffers) [] s)
grows row.ReadOnly k place s = pick_least _ s (push kind.ReadOnly (last_of 1 s) (without 1 s)) (length s.heap) (omega arith) (omega (arith, push_length kind.ReadOnly (last_of 1 s) (without 1 s)))
grows (row.Take t) k place s = omega (arith, push_length k (last_of (count_of t) s) (without (count_of t) s))
grows (row.Cut c) k place s = omega (arith, push_length k s.top (cut s))
grows (row.Change f) k place s =
    let id : ℕ = deep 0 (without (values_of f) s).top in
    omega (arith, changed_length s.heap id (changes_of f (last_of (values_of f) s)) (slice_get s.heap id))
grows (row.CutChange f) k place s =
    let id : ℕ = deep 0 (cut s).top in
    omega (arith, changed_length s.heap id (changes_of f s.top) (slice_get s.heap id))
grows row.Pop k place s = pick_least _ (without 1 s) (cut s) (length s.heap) (omega arith) (omega arith)
grows row.PopMark k place s = omega arith
grows row.Dup k place s = omega arith
grows row.Mark k place s = omega arith
grows (row.Get key) k place s = omega arith
grows (row.Put key) k place s = omega arith
grows row.Memoize k place s = omega arith
grows row.Stop k place s = omega arith

-- the state on which a move is taken
fresh_by : (b : Bool) (s : State) → s.stopped ≡ b → (cond b (begun s) s).stopped ≡ false
fresh_by true s e = refl
fresh_by false s e = e

pub fresh_running : (s : State) → (fresh s).stopped ≡ false
fresh_running s = fresh_by s.stopped s refl

many_by : (b : Bool) (s : State) → (cond b (begun s) s).many ≡ s.many
many_by true s = refl
many_by false s = refl

pub fresh_many : (s : State) → (fresh s).many ≡ s.many
fresh_many s = many_by s.stopped s

results_by : (b : Bool) (s : State) → (cond b (begun s) s).results ≡ s.results
results_by true s = refl
results_by false s = refl

pub fresh_results : (s : State) → (fresh s).results ≡ s.results
fresh_results s = results_by s.stopped s

pub fresh_same : (s : State) → s.stopped ≡ false → fresh s ≡ s
fresh_same s e = ap (λ (b : Bool). cond b (begun s) s) e

pub fresh_begun : (s : State) → s.stopped ≡ true → fresh s ≡ begun s
fresh_begun s e = ap (λ (b : Bool). cond b (begun s) s) e

-- ---- STOP

pub stop_only : (o : Opcode) (arg : List ℕ) → row_of_opcode o arg ≡ row.Stop → o ≡ op.Stop
stop_only op.Stop arg e = refl
stop_only _ arg e = cc

-- ---- steps

pub record IsMove (x : Option Operation) (n : ℕ) (y : Option State) (t : State) : Type 0 where
  pub item : Operation
  pub before : State
  pub there : x ≡ Some item
  pub reached : y ≡ Some before
  pub accepted : refusal_at item before ≡ None
  pub leads : next item n before ≡ t

by_outcome : (r : Option Refusal) (u t : State) → result_ok (outcome r u) ≡ Some t → (r ≡ None) × (u ≡ t)
by_outcome None u t e = (refl, cc)
by_outcome (Some r) u t e = absurd cc

is_move : (x : Option Operation) (n : ℕ) (y : Option State) (t : State) → after x n y ≡ Some t → IsMove x n y t
is_move None n y t e = absurd cc
is_move (Some o) n None t e = absurd cc
is_move (Some o) n (Some s) t e = let m = by_outcome (refusal_at o s) (next o n s) t e in record { item = o; before = s; there = refl; reached = refl; accepted = m.0; leads = m.1 }

pub move_to : (from : State) (ops : List Operation) (n : ℕ) (t : State) → run from ops (suc n) ≡ Some t → IsMove (slice_get ops n) n (run from ops n) t
move_to from ops n t e = is_move (slice_get ops n) n (run from ops n) t (run_after from ops n t e)

-- ---- with one pickle nothing stops before the last item

pub no_stop : (items : List Item) (k : ℕ) (o p : Operation) → OnlyLastStops false items → slice_get (operations items) k ≡ Some o → slice_get (operations items) (suc k) ≡ Some p → is_stop o.opcode ≡ false
no_stop [] k o p only e f = absurd cc
no_stop (i ∷ []) k o p only e f = absurd cc
no_stop (i ∷ j ∷ items) zero o p only e f = let same : i.op ≡ o = cc in both (is_stop o.opcode) (ap (λ (x : Operation). is_stop x.opcode && true) (sym same) ∙ only.0)
  where
    both : (b : Bool) → (b && true) ≡ false → b ≡ false
    both true e = e
    both false e = refl
no_stop (i ∷ j ∷ items) (suc k) o p only e f = no_stop (j ∷ items) k o p only.1 e f

stop_stops : (o : Opcode) → o ≡ op.Stop → is_stop o ≡ true
stop_stops o e = ap is_stop e

pub none_before : (items : List Item) (n : ℕ) (s : State) (p : Operation) → OnlyLastStops false items → run (start false) (operations items) n ≡ Some s → slice_get (operations items) n ≡ Some p → s.results ≡ []
unfolding run
none_before items zero s p only e f = let same : start false ≡ s = cc in ap (λ (x : State). x.results) (sym same)
none_before items (suc n) t p only e f =
    let m = move_to (start false) (operations items) n t e in
    let before : m.before.results ≡ [] = none_before items n m.before m.item only m.reached m.there in
    let no : is_stop m.item.opcode ≡ false = no_stop items n m.item p only m.there f in
    elim (still (row_of m.item) (kind_of m.item) n (fresh m.before)) [
      | inl stop ↦ let yes : is_stop m.item.opcode ≡ true = stop_stops m.item.opcode (stop_only m.item.opcode m.item.arg stop) in absurd cc
      | inr same ↦ ap (λ (x : State). x.results) (sym m.leads) ∙ same.results ∙ fresh_results m.before ∙ before
    ]
