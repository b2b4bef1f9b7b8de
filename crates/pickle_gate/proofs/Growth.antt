-- What a step makes: no object, or one, whose making is its event.
use Rattle.std.proofs.Common.{◌≡◌, ℕ, zero, suc, ◌+◌, ◌≤◌, Bool, true, false, List, [], ◌∷◌, length, drop, Option, Some, None, Ok, refl, sym, ap, subst, ◌∙◌, arith}
use Rattle.std.specs.Prelude.{slice_get, if◌then◌else◌, ◌||◌}
use Rattle.std.specs.Option.{option_map_or}
use Rattle.std.proofs.lemmas.Option.{slice_get_past}
use Rattle.pickle_ops.specs.Spelling.{Operation}
use Rattle.pickle_ops.specs.declared.kind.Kind.{Kind}
use Rattle.pickle_ops.specs.declared.kind.Kind.TheVariants as kind
use Rattle.pickle_ops.specs.declared.row.Row.{Row}
use Rattle.pickle_ops.specs.declared.row.Row.TheVariants as row
use Rattle.pickle_ops.specs.declared.row.Filling.{Filling}
use Rattle.pickle_ops.specs.declared.row.Filling.TheVariants as filling
use Rattle.pickle_ops.specs.declared.class.Demand.TheVariants as demand
use Rattle.pickle_ops.specs.Object.{Object}
use Rattle.pickle_ops.specs.Kind.{is_opaque}
use Rattle.pickle_ops.specs.Row.{count_of, values_of, row_of, kind_of}
use Rattle.pickle_machine.specs.declared.refusal.Refusal.{Refusal}
use Rattle.pickle_machine.specs.State.{State}
use Rattle.pickle_machine.specs.Move.{deep, changes_of, push, last_of, without, cut, object_meets, next_of, next, fresh, outcome, refusal_at, move}
use Rattle.pickle_machine.proofs.HeapGrowth.{changed_length, push_length, fresh_heap}
use Rattle.pickle_calls.specs.declared.event.Event.{Event}
use Rattle.pickle_calls.specs.declared.event.Event.TheVariants as event
use Rattle.pickle_calls.specs.declared.event.Before.{Before}
use Rattle.pickle_calls.specs.Event.{is_shown, is_view, made_as, made_event, before_of, top_of, taken_count, filled_count, touches, filled_event, event_of}
use Rattle.pickle_allow.specs.Allow.{Source}
use Rattle.pickle_allow.specs.Source.{source_of}
use Rattle.pickle_gate.specs.Kept.{event_source}

-- ---- how many objects there are behind a row

-- an event makes an object
abbrev pub is_making : Option Event → Bool
is_making None = false
is_making (Some (event.Made id)) = true
is_making (Some (event.State value target)) = false
is_making (Some (event.Filled how count target)) = false

-- there were this many objects, and these are there behind it
pub data Growth (r : Row) (b : Before) (n : ℕ) (t : State) : Type 0 where
  Same : length t.heap ≡ n → is_making (event_of r b t) ≡ false → Growth r b n t
  One : length t.heap ≡ n + 1 → event_of r b t ≡ made_event t.heap b.next → Growth r b n t

-- what is not there is not made
none_made : (heap : List Object) (n : ℕ) → n ≡ length heap → is_making (made_event heap n) ≡ false
none_made heap n e = ap (λ (x : Option Object). is_making (made_as heap n x)) (slice_get_past heap n (omega (arith, e)))

filled_makes : (b : Bool) (f : Filling) (n id : ℕ) → is_making (if b then Some (event.Filled f n id) else None) ≡ false
filled_makes true f n id = refl
filled_makes false f n id = refl

fill_makes : (f : Filling) (b : Before) (t : State) → is_making (filled_event f b t) ≡ false
fill_makes filling.Build b t = refl
fill_makes filling.Append b t = filled_makes (touches filling.Append (filled_count filling.Append (taken_count b t)) t.heap (top_of t)) filling.Append (filled_count filling.Append (taken_count b t)) (top_of t)
fill_makes filling.SetItem b t = filled_makes (touches filling.SetItem (filled_count filling.SetItem (taken_count b t)) t.heap (top_of t)) filling.SetItem (filled_count filling.SetItem (taken_count b t)) (top_of t)
fill_makes filling.Add b t = filled_makes (touches filling.Add (filled_count filling.Add (taken_count b t)) t.heap (top_of t)) filling.Add (filled_count filling.Add (taken_count b t)) (top_of t)

view_grows : (c : Bool) (b : Before) (s : State) → b.next ≡ length s.heap → Growth row.ReadOnly b (length s.heap) (if c then s else push kind.ReadOnly (last_of 1 s) (without 1 s))
view_grows true b s e = Same refl (none_made s.heap b.next e)
view_grows false b s e = One (push_length kind.ReadOnly (last_of 1 s) (without 1 s)) refl

pop_grows : (c : Bool) (b : Before) (s : State) → b.next ≡ length s.heap → Growth row.Pop b (length s.heap) (if c then without 1 s else cut s)
pop_grows true b s e = Same refl (none_made s.heap b.next e)
pop_grows false b s e = Same refl (none_made s.heap b.next e)

next_grows : (r : Row) (b : Before) (k : Kind) (place : ℕ) (s : State) → b.next ≡ length s.heap → Growth r b (length s.heap) (next_of r k place s)
next_grows row.Nothing b k place s e = Same refl (none_made s.heap b.next e)
next_grows (row.Protocol n) b k place s e = Same refl (none_made s.heap b.next e)
next_grows (row.Extension n) b k place s e = One (push_length k [] s) refl
next_grows row.Push b k place s e = One (push_length k [] s) refl
next_grows row.Buffer b k place s e = One (push_length (kind.Buffer s.buffers) [] s) refl
next_grows row.ReadOnly b k place s e = view_grows (object_meets demand.ReadOnly s (deep 0 s.top)) b s e
next_grows (row.Take t) b k place s e = One (push_length k (last_of (count_of t) s) (without (count_of t) s)) refl
next_grows (row.Cut c) b k place s e = One (push_length k s.top (cut s)) refl
next_grows (row.Change f) b k place s e =
    let id : ℕ = deep 0 (without (values_of f) s).top in
    Same (changed_length s.heap id (changes_of f (last_of (values_of f) s)) (slice_get s.heap id)) (fill_makes f b (next_of (row.Change f) k place s))
next_grows (row.CutChange f) b k place s e =
    let id : ℕ = deep 0 (cut s).top in
    Same (changed_length s.heap id (changes_of f s.top) (slice_get s.heap id)) (fill_makes f b (next_of (row.CutChange f) k place s))
next_grows row.Pop b k place s e = pop_grows _ b s e
next_grows row.PopMark b k place s e = Same refl (none_made s.heap b.next e)
next_grows row.Dup b k place s e = Same refl (none_made s.heap b.next e)
next_grows row.Mark b k place s e = Same refl (none_made s.heap b.next e)
next_grows (row.Get key) b k place s e = Same refl (none_made s.heap b.next e)
next_grows (row.Put key) b k place s e = Same refl (none_made s.heap b.next e)
next_grows row.Memoize b k place s e = Same refl (none_made s.heap b.next e)
next_grows row.Stop b k place s e = Same refl (none_made s.heap b.next e)

pub moved : (r : Option Refusal) (t u : State) → outcome r t ≡ Ok u → t ≡ u
moved None t u e = cc
moved (Some r) t u e = absurd cc

-- and behind a move
pub grows : (o : Operation) (place : ℕ) (s t : State) → move o place s ≡ Ok t → Growth (row_of o) (before_of s) (length s.heap) t
grows o place s t e =
    let fresh_grows : Growth (row_of o) (before_of s) (length s.heap) (next o place s) =
    subst (λ (h : List Object). Growth (row_of o) (before_of s) (length h) (next o place s)) (fresh_heap s) (next_grows (row_of o) (before_of s) (kind_of o) place (fresh s) (ap (λ (h : List Object). length h) (sym (fresh_heap s)))) in
    subst (λ (u : State). Growth (row_of o) (before_of s) (length s.heap) u) (moved (refusal_at o s) (next o place s) t e) fresh_grows

-- where there were no more than the items before it, there are no more than with it
pub few_behind : (r : Row) (b : Before) (n k : ℕ) (t : State) → Growth r b n t → n ≤ k → length t.heap ≤ k + 1
few_behind r b n k t (Same e quiet) h = omega (arith, e, h)
few_behind r b n k t (One e made) h = omega (arith, e, h)

-- ---- the object that is made

-- the last of objects
pub last_one : (xs : List Object) (n : ℕ) → length xs ≡ n + 1 → (o : Object) × (slice_get xs n ≡ Some o) × (drop n xs ≡ o ∷ [])
last_one [] n e = absurd (omega (arith, e))
last_one (x ∷ []) zero e = (x, refl, refl)
last_one (x ∷ y ∷ xs) zero e = absurd (omega (arith, e))
last_one (x ∷ xs) (suc n) e = last_one xs n (omega (arith, e))

-- what is no import, no call and nothing from elsewhere comes of nothing
unseen_source : (proto : ℕ) (heap : List Object) (from : List (Option Source)) (k : Kind) (parts : List ℕ) → is_opaque k ≡ false → source_of proto heap from k parts ≡ None
unseen_source proto heap from (kind.Global names) parts e = absurd cc
unseen_source proto heap from kind.StackGlobal parts e = absurd cc
unseen_source proto heap from (kind.Ext n) parts e = absurd cc
unseen_source proto heap from (kind.PersistentLine line) parts e = absurd cc
unseen_source proto heap from kind.Persistent parts e = absurd cc
unseen_source proto heap from (kind.Buffer n) parts e = absurd cc
unseen_source proto heap from kind.Call parts e = absurd cc
unseen_source proto heap from kind.New parts e = absurd cc
unseen_source proto heap from kind.NewEx parts e = absurd cc
unseen_source proto heap from kind.Obj parts e = absurd cc
unseen_source proto heap from _ parts e = refl

neither : (a b : Bool) → (a || b) ≡ false → a ≡ false
neither true b e = absurd cc
neither false b e = refl

-- the event of its making says what it comes of, if it comes of something
pub made_source : (proto : ℕ) (heap : List Object) (from : List (Option Source)) (n : ℕ) (o : Object) → slice_get heap n ≡ Some o
    → event_source proto heap from (made_event heap n) ≡ source_of proto heap from o.kind o.parts
made_source proto heap from n o e = ap (λ (x : Option Object). event_source proto heap from (made_as heap n x)) e ∙ go (is_shown heap o) refl
  where
    go : (b : Bool) → is_shown heap o ≡ b → event_source proto heap from (if b then Some (event.Made n) else None) ≡ source_of proto heap from o.kind o.parts
    go true p = ap (λ (x : Option Object). option_map_or (λ (o : Object). source_of proto heap from o.kind o.parts) x None) e
    go false p = sym (unseen_source proto heap from o.kind o.parts (neither (is_opaque o.kind) (is_view heap o) p))
