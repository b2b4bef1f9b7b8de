-- What reaches out of the pickle is what the imports and calls tell.
use Rattle.std.proofs.Common.{◌≡◌, ℕ, zero, suc, ◌+◌, Bool, true, false, List, [], ◌++◌, Option, Some, None, refl, sym, ap, ◌∙◌, append_assoc, arith}
use Rattle.std.specs.Prelude.{◌==◌, if◌then◌else◌, slice_get}
use Rattle.std.proofs.lemmas.List.{append-nil}
use Rattle.pickle_ops.specs.declared.row.Row.{Row}
use Rattle.pickle_ops.specs.declared.row.Row.TheVariants as row
use Rattle.pickle_ops.specs.Spelling.{Operation}
use Rattle.pickle_ops.specs.Object.{Object}
use Rattle.pickle_ops.specs.Row.{row_of}
use Rattle.pickle_doc.specs.Document.{Contents}
use Rattle.pickle_doc.specs.Place.{ops_of, item_at, offset_of}
use Rattle.pickle_io.specs.Holes.{in_file}
use Rattle.pickle_machine.specs.State.{State, start}
use Rattle.pickle_machine.specs.Move.{fresh}
use Rattle.pickle_machine.specs.Run.{run}
use Rattle.pickle_calls.specs.declared.event.Event.{Event}
use Rattle.pickle_calls.specs.declared.event.Before.{Before}
use Rattle.pickle_calls.specs.Event.{before_of, event_of}
use Rattle.pickle_calls.specs.Calls.{naming_at, counted_in}
use Rattle.pickle_calls.proofs.Walking.{entry_is}
use Rattle.pickle_source.specs.declared.act.Act.{Act}
use Rattle.pickle_source.specs.declared.act.What.{What}
use Rattle.pickle_source.specs.Value.{is_short_value}
use Rattle.pickle_source.specs.Act.{count_of, fill_of, made_as, held_of, or_held, what_of, first_of}
use Rattle.pickle_source.specs.Tale.{protocol_at, act_at, acts_on, acts_at}
use Rattle.pickle_source.specs.Laws.{reach_of, ReachesAreCalls, ActsComeFirst}
use Rattle.pickle_source.proofs.Noting.{acts_next}

-- ---- what stays in the pickle reaches nothing

unless_value : (b : Bool) (w : What) → reach_of (Some w) ≡ None → reach_of (if b then None else Some w) ≡ None
unless_value true w e = refl
unless_value false w e = e

made_stays : (id : ℕ) (o : Option Object) → reach_of (made_as id o) ≡ None
made_stays id None = refl
made_stays id (Some o) = unless_value (is_short_value o.kind) _ refl

fill_stays : (n id : ℕ) → reach_of (fill_of n id) ≡ None
fill_stays n id = unless_value (n == 0) _ refl

held_stays : (r : Row) (b a : Before) (heap : List Object) → reach_of (held_of r b a heap) ≡ None
held_stays (row.Change f) b a heap = fill_stays (count_of f b a) a.top
held_stays (row.CutChange f) b a heap = fill_stays (count_of f b a) a.top
held_stays row.Stop b a heap = refl
held_stays _ b a heap = made_stays b.next (slice_get heap b.next)

or_stays : (e : Option Event) (w : Option What) → reach_of w ≡ None → reach_of (or_held e w) ≡ e
or_stays None w n = n
or_stays (Some e) w n = refl

reach_is : (r : Row) (b : Before) (t : State) → reach_of (what_of r b t) ≡ event_of r b t
reach_is r b t = or_stays (event_of r b t) (held_of r b (before_of t) t.heap) (held_stays r b (before_of t) t.heap)

-- ---- laws

pub reaches_are_calls : ReachesAreCalls
reaches_are_calls f how d k o s t e r g = record {
  acts = acts_next d k o s t e r g;
  line = entry_is f how d k o s t e r g ∙ ap (λ (x : Option Event). counted_in f (in_file how.holes (offset_of d k)) (naming_at how.detail d k) t.heap x) (sym (reach_is (row_of o) (before_of (fresh s)) t));
}

more_at : (offset protocol first : ℕ) (acts : List Act) (w : Option What) → (rest : List Act) × (act_at offset protocol first acts w ≡ acts ++ rest)
more_at offset protocol first acts None = ([], sym (append-nil acts))
more_at offset protocol first acts (Some w) = (_, refl)

more_on : (offset protocol : ℕ) (o : Option Operation) (s t : Option State) (acts : List Act) → (rest : List Act) × (acts_on offset protocol o s t acts ≡ acts ++ rest)
more_on offset protocol (Some o) (Some s) (Some t) acts = more_at offset protocol (first_of (row_of o) (before_of (fresh s)) t) acts (what_of (row_of o) (before_of (fresh s)) t)
more_on offset protocol (Some o) (Some s) None acts = ([], sym (append-nil acts))
more_on offset protocol (Some o) None t acts = ([], sym (append-nil acts))
more_on offset protocol None s t acts = ([], sym (append-nil acts))

one_more : (d : Contents) (k : ℕ) → (rest : List Act) × (acts_at d (suc k) ≡ acts_at d k ++ rest)
unfolding acts_at
one_more d k = more_on (offset_of d k) (protocol_at d k) (item_at d k) (run (start d.many) (ops_of d) k) (run (start d.many) (ops_of d) (suc k)) (acts_at d k)

pub acts_come_first : ActsComeFirst
acts_come_first d k zero = let e : k + 0 ≡ k = omega arith in ([], rw e (sym (append-nil (acts_at d k))))
acts_come_first d k (suc n) =
    let e : k + suc n ≡ suc (k + n) = omega arith in
    let before = acts_come_first d k n in
    let last = one_more d (k + n) in
    (before.0 ++ last.0, rw e (last.1 ∙ ap (λ (x : List Act). x ++ last.0) before.1 ∙ append_assoc (acts_at d k) before.0 last.0))
