-- The lines of the first of several pickles.
use Rattle.std.proofs.Common.{◌≡◌, ℕ, zero, suc, ◌+◌, ◌<◌, ◌≤◌, Bool, true, false, List, [], ◌∷◌, ◌++◌, length, Option, Some, None, Ok, refl, sym, ap, ap₂, subst, ◌∙◌, inl, inr, arith, length-append, append_assoc}
use Rattle.std.specs.Prelude.{take, slice_get, if◌then◌else◌, Result, ◌&&◌}
use Rattle.std.specs.Result.{result_ok}
use Rattle.std.proofs.lemmas.Bool.{cases_Bool}
use Rattle.std.proofs.lemmas.List.{length-map}
use Rattle.pickle_ops.specs.Spelling.{Operation, spelling, size_of, Whole, IsFront}
use Rattle.pickle_ops.specs.declared.kind.Kind.{Kind}
use Rattle.pickle_ops.specs.declared.kind.Kind.TheVariants as kind
use Rattle.pickle_ops.specs.declared.class.Demand.TheVariants as demand
use Rattle.pickle_ops.specs.declared.row.Row.{Row}
use Rattle.pickle_ops.specs.declared.row.Row.TheVariants as row
use Rattle.pickle_ops.specs.declared.row.Taking.TheVariants as taking
use Rattle.pickle_ops.specs.declared.row.Cutting.TheVariants as cutting
use Rattle.pickle_ops.specs.declared.row.Filling.TheVariants as filling
use Rattle.pickle_ops.specs.Row.{row_of, kind_of}
use Rattle.pickle_ops.proofs.Fronts.{found_front, one_spelling}
use Rattle.pickle_doc.specs.declared.item.Item.{Item}
use Rattle.pickle_doc.specs.declared.fault.TailFault.{TailFault}
use Rattle.pickle_doc.specs.DocUnit.{is_stop, ends_reading, bytes_of, operations, sizes}
use Rattle.pickle_doc.specs.Document.{Contents, items_of, ended_by}
use Rattle.pickle_doc.specs.Tail.{tail_fault}
use Rattle.pickle_doc.specs.Fitting.{left_behind, IsLast, IsFault, FitsFrom}
use Rattle.pickle_doc.specs.Place.{ops_of, item_at, offset_of}
use Rattle.pickle_doc.proofs.Fits.{no_fault}
use Rattle.pickle_doc.proofs.Units.{small_document, document_fits}
use Rattle.pickle_doc.proofs.Lists.{get-within}
use Rattle.pickle_machine.specs.declared.refusal.Refusal.{Refusal}
use Rattle.pickle_machine.specs.State.{State, start}
use Rattle.pickle_machine.specs.Move.{deep, object_meets, push, last_of, without, cut, next_of, refusal_of, outcome, fresh, move}
use Rattle.pickle_machine.specs.Run.{after, run}
use Rattle.pickle_machine.proofs.Single.{single_fresh, run_single}
use Rattle.pickle_calls.specs.declared.event.Before.{Before}
use Rattle.pickle_io.specs.Holes.{in_file}
use Rattle.pickle_calls.specs.Manner.{Manner}
use Rattle.pickle_calls.specs.declared.naming.Naming.{Naming}
use Rattle.pickle_calls.specs.Naming.{naming_after}
use Rattle.pickle_calls.specs.Event.{before_of, event_of}
use Rattle.pickle_text.specs.Reached.{reached}
use Rattle.pickle_calls.specs.Telling.{for_people}
use Rattle.pickle_calls.specs.Calls.{CountedText, counted_text, naming_on, naming_at, entry_at, entries, is_inside, or_here, first_inside, left_at, end_from, calls_end, entries_in}
use Rattle.calls_laws.specs.CallsLaws.{FirstLinesComeFirst}
use Rattle.pickle_text.proofs.Runs.{run_nothing, run_after}
use Rattle.pickle_text.proofs.Places.{is_reached}
use Rattle.pickle_list.proofs.Stops.{row_stops, stops}
use Rattle.pickle_calls.proofs.Walking.{entry_is, text-suc, entries_first, reaches}

-- ---- the items of the first pickle are the first items

no_tail : (many : Bool) (o : Operation) (ops : List Operation) (left : ℕ) (tail : List ℕ) (e d : Option TailFault) (bytes : List ℕ) → FitsFrom many false left (o ∷ ops) tail e
    → bytes ≡ bytes_of (o ∷ ops) ++ tail → IsFault false left bytes d → ⊥
no_tail many o ops left tail e None bytes h b k = absurd k
no_tail many o ops left tail e (Some f) bytes h b (front, is, k) =
    let whole : IsFront bytes (Whole o.opcode o.arg (bytes_of ops ++ tail)) = (b ∙ append_assoc (spelling o) (bytes_of ops) tail, h.0.spelled.arg) in
    let one = found_front bytes front is in
    let two = found_front bytes (Whole o.opcode o.arg (bytes_of ops ++ tail)) whole in
    let same : front ≡ Whole o.opcode o.arg (bytes_of ops ++ tail) = sym one ∙ two in
    let none = no_fault many false o ops left tail e h in
    let some : Some f ≡ None = sym k ∙ ap (tail_fault false left) same ∙ none in cc

-- these are the first of all, and no STOP is among them but the last
record AreFirst (ops all : List Operation) : Type 0 where
  more : List Operation
  whole : all ≡ ops ++ more
  last : (k : ℕ) (o : Operation) → slice_get all k ≡ Some o → is_stop o.opcode ≡ true → length ops ≤ suc k

and_true : (b : Bool) → (b && true) ≡ b
and_true true = refl
and_true false = refl

and_false : (b : Bool) → (b && false) ≡ false
and_false true = refl
and_false false = refl

first_more : (o : Operation) (ops all : List Operation) → is_stop o.opcode ≡ false → AreFirst ops all → AreFirst (o ∷ ops) (o ∷ all)
first_more o ops all goes f = record {
  more = f.more;
  whole = ap (λ (l : List Operation). o ∷ l) f.whole;
  last = λ k p there stop. go k p there stop;
}
  where
    go : (k : ℕ) (p : Operation) → slice_get (o ∷ all) k ≡ Some p → is_stop p.opcode ≡ true → length (o ∷ ops) ≤ suc k
    go zero p there stop =
        let same : o ≡ p = cc in
        let wrong : false ≡ true = sym goes ∙ ap (λ (x : Operation). is_stop x.opcode) same ∙ stop in
        absurd cc
    go (suc k) p there stop = let ind = f.last k p there stop in omega (arith, ind)

are_first : (ops all : List Operation) (left : ℕ) (tail rest : List ℕ) (e f : Option TailFault) → FitsFrom false false left ops tail e → FitsFrom true false left all rest f
    → bytes_of ops ++ tail ≡ bytes_of all ++ rest → AreFirst ops all
are_first [] all left tail rest e f h k b = record { more = all; whole = refl; last = λ n o there stop. omega arith }
are_first (o ∷ ops) [] left tail rest e f h k b = absurd (no_tail false o ops left tail e f rest h (sym b) k.1)
are_first (o ∷ ops) (p ∷ all) left tail rest e f h k b =
    let split = sym (append_assoc (spelling o) (bytes_of ops) tail) ∙ b ∙ append_assoc (spelling p) (bytes_of all) rest in
    let one = one_spelling o p (bytes_of ops ++ tail) (bytes_of all ++ rest) h.0.spelled k.0.spelled split in
    let k' : FitsFrom true false left (o ∷ all) rest f = rw one.0 k in
    elim (cases_Bool (is_stop o.opcode)) [
      | inl stop ↦
          let ends : ends_reading false o.opcode ≡ true = and_true (is_stop o.opcode) ∙ stop in
          let last : IsLast (left_behind false left o) ops tail e = rw ends at h.1 in
          record {
            more = all;
            whole = ap (λ (q : Operation). q ∷ all) (sym one.0) ∙ ap (λ (l : List Operation). o ∷ (l ++ all)) (sym last.none);
            last = λ n q there stopped. omega (arith, ap (λ (l : List Operation). length l) last.none);
          }
      | inr go ↦
          let on : ends_reading false o.opcode ≡ false = and_true (is_stop o.opcode) ∙ go in
          let goes : ends_reading true o.opcode ≡ false = and_false (is_stop o.opcode) in
          let h' : FitsFrom false false (left_behind false left o) ops tail e = rw on at h.1 in
          let more : FitsFrom true false (left_behind false left o) all rest f = rw goes at k'.1 in
          subst (λ (q : Operation). AreFirst (o ∷ ops) (q ∷ all)) one.0 (first_more o ops all go (are_first ops all (left_behind false left o) tail rest e f h' more one.1))
    ]

-- ---- a state of one pickle, and the same of several

abbrev as_many : Bool → State → State
as_many b s = record s { many = true; stopped = b }

either : (b : Bool) (s t : State) → (if b then as_many false s else as_many false t) ≡ as_many false (if b then s else t)
either true s t = refl
either false s t = refl

next_many : (r : Row) (k : Kind) (place : ℕ) (s : State) → next_of r k place (as_many false s) ≡ as_many (stops r) (next_of r k place s)
next_many row.ReadOnly k place s = either (object_meets demand.ReadOnly s (deep 0 s.top)) s (push kind.ReadOnly (last_of 1 s) (without 1 s))
next_many row.Pop k place s = either (_) (without 1 s) (cut s)
next_many row.Stop k place s = refl
next_many _ k place s = refl

refusal_many : (r : Row) (s : State) → refusal_of r (as_many false s) ≡ refusal_of r s
refusal_many (row.Take taking.One) s = refl
refusal_many (row.Take taking.Two) s = refl
refusal_many (row.Take taking.Three) s = refl
refusal_many (row.Take taking.Names) s = refl
refusal_many (row.Take taking.Call) s = refl
refusal_many (row.Take taking.CallWith) s = refl
refusal_many (row.Cut cutting.Any) s = refl
refusal_many (row.Cut cutting.Pairs) s = refl
refusal_many (row.Cut cutting.Callable) s = refl
refusal_many _ s = refl

event_many : (r : Row) (b : Before) (c : Bool) (t : State) → event_of r b (as_many c t) ≡ event_of r b t
event_many (row.Change filling.Append) b c t = refl
event_many (row.Change filling.SetItem) b c t = refl
event_many (row.Change filling.Add) b c t = refl
event_many (row.Change filling.Build) b c t = refl
event_many (row.CutChange filling.Append) b c t = refl
event_many (row.CutChange filling.SetItem) b c t = refl
event_many (row.CutChange filling.Add) b c t = refl
event_many (row.CutChange filling.Build) b c t = refl
event_many _ b c t = refl

-- ---- runs

-- the last of the first k items is STOP
abbrev stopped_by : Option Operation → Bool
stopped_by (Some o) = is_stop o.opcode
stopped_by None = false

abbrev stop_before : List Operation → ℕ → Bool
stop_before ops zero = false
stop_before ops (suc k) = stopped_by (slice_get ops k)

-- the step to place k + 1
record Step (ops : List Operation) (k : ℕ) (t : State) : Type 0 where
  op : Operation
  state : State
  item : slice_get ops k ≡ Some op
  before : run (start false) ops k ≡ Some state
  taken : refusal_of (row_of op) state ≡ None
  is : t ≡ next_of (row_of op) (kind_of op) k state

step_of : (ops : List Operation) (k : ℕ) (t : State) → run (start false) ops (suc k) ≡ Some t → Step ops k t
step_of ops k t e = go (slice_get ops k) (run (start false) ops k) refl refl (run_after (start false) ops k t e)
  where
    moved : (x : Option Refusal) (u : State) → result_ok (outcome x u) ≡ Some t → (x ≡ None) × (t ≡ u)
    moved None u e = (refl, cc)
    moved (Some r) u e = absurd cc

    go : (x : Option Operation) (y : Option State) → slice_get ops k ≡ x → run (start false) ops k ≡ y → after x k y ≡ Some t → Step ops k t
    go (Some o) (Some s) at r e =
        let same : fresh s ≡ s = single_fresh s (run_single ops k s r) in
        let m = moved (refusal_of (row_of o) (fresh s)) (next_of (row_of o) (kind_of o) k (fresh s)) e in
        record {
          op = o;
          state = s;
          item = at;
          before = r;
          taken = ap (refusal_of (row_of o)) (sym same) ∙ m.0;
          is = m.1 ∙ ap (next_of (row_of o) (kind_of o) k) same;
        }
    go (Some o) None at r e = absurd cc
    go None y at r e = absurd cc

-- before an item of the first pickle there is no STOP
no_stop : (ops all : List Operation) (k : ℕ) → AreFirst ops all → k < length ops → stop_before ops k ≡ false
no_stop ops all zero f less = refl
no_stop ops all (suc k) f less = go (slice_get ops k) refl
  where
    go : (x : Option Operation) → slice_get ops k ≡ x → stopped_by x ≡ false
    go None e = refl
    go (Some o) e = elim (cases_Bool (is_stop o.opcode)) [
      | inr other ↦ other
      | inl stop ↦
          let there : slice_get all k ≡ Some o = ap (λ (l : List Operation). slice_get l k) f.whole ∙ get-within ops f.more k (omega arith) ∙ e in
          absurd (omega (arith, f.last k o there stop, less))
    ]

run_suc_is : (from : State) (ops : List Operation) (k : ℕ) → run from ops (suc k) ≡ after (slice_get ops k) k (run from ops k)
unfolding run
run_suc_is from ops k = refl

moves_many : (o : Operation) (k : ℕ) (s : State) → refusal_of (row_of o) s ≡ None → move o k (as_many false s) ≡ Ok (as_many (stops (row_of o)) (next_of (row_of o) (kind_of o) k s))
moves_many o k s e =
    ap (λ (x : Option Refusal). outcome x (next_of (row_of o) (kind_of o) k (as_many false s))) (refusal_many (row_of o) s ∙ e)
    ∙ ap (outcome None) (next_many (row_of o) (kind_of o) k s)

run_many : (ops all : List Operation) (k : ℕ) (t : State) → AreFirst ops all → k ≤ length ops → run (start false) ops k ≡ Some t → run (start true) all k ≡ Some (as_many (stop_before ops k) t)
run_many ops all zero t f less e =
    let same : start false ≡ t = let some : Some (start false) ≡ Some t = sym (run_nothing (start false) ops) ∙ e in cc in
    run_nothing (start true) all ∙ ap (λ (u : State). Some (as_many false u)) same
run_many ops all (suc k) t f less e =
    let step : Step ops k t = step_of ops k t e in
    let ind = run_many ops all k step.state f (omega (arith, less)) step.before in
    let going : stop_before ops k ≡ false = no_stop ops all k f (omega (arith, less)) in
    let there : slice_get all k ≡ Some step.op = ap (λ (l : List Operation). slice_get l k) f.whole ∙ get-within ops f.more k (omega (arith, less)) ∙ step.item in
    let stop : stops (row_of step.op) ≡ stop_before ops (suc k) = row_stops step.op.opcode step.op.arg ∙ ap stopped_by (sym step.item) in
    run_suc_is (start true) all k
    ∙ ap₂ (λ (x : Option Operation) (y : Option State). after x k y) there (ind ∙ ap (λ (b : Bool). Some (as_many b step.state)) going)
    ∙ ap (λ (r : Result State Refusal). result_ok r) (moves_many step.op k step.state step.taken)
    ∙ ap₂ (λ (b : Bool) (u : State). Some (as_many b u)) stop (sym step.is)

-- ---- lines

size_first : (xs ys : List Item) (more : List Operation) (k : ℕ) → operations ys ≡ operations xs ++ more → k ≤ length xs → sizes (take k ys) ≡ sizes (take k xs)
size_first xs ys more zero h less = refl
size_first [] ys more (suc k) h less = absurd (omega (arith, less))
size_first (x ∷ xs) [] more (suc k) h less = cc
size_first (x ∷ xs) (y ∷ ys) more (suc k) h less =
    let op : y.op ≡ x.op = cc in
    let rest : operations ys ≡ operations xs ++ more = cc in
    ap₂ (λ (a b : ℕ). a + b) (ap (λ (o : Operation). size_of o) op) (size_first xs ys more k rest (omega (arith, less)))

-- a document of one pickle, and one of several that begins with it
record Begins (d e : Contents) : Type 0 where
  one : d.many ≡ false
  several : e.many ≡ true
  first : AreFirst (ops_of d) (ops_of e)

run_one : (d : Contents) (k : ℕ) → d.many ≡ false → run (start d.many) (ops_of d) k ≡ run (start false) (ops_of d) k
run_one d k m = ap (λ (b : Bool). run (start b) (ops_of d) k) m

-- up to a place that the first pickle reaches
record SameTo (how : Manner) (d e : Contents) (k : ℕ) : Type 0 where
  naming : naming_at how.detail e k ≡ naming_at how.detail d k
  text : (entries how e k).text ≡ (entries how d k).text

entries-none : (how : Manner) (d e : Contents) → (entries how e 0).text ≡ (entries how d 0).text
unfolding entries_in
entries-none how d e = refl

same_to : (how : Manner) (d e : Contents) (k : ℕ) (t : State) → Begins d e → k ≤ length (ops_of d) → run (start d.many) (ops_of d) k ≡ Some t → SameTo how d e k
same_to how d e zero t b less r = record { naming = refl; text = entries-none how d e }
same_to how d e (suc k) t b less r =
    let step : Step (ops_of d) k t = step_of (ops_of d) k t (sym (run_one d (suc k) b.one) ∙ r) in
    let o : Operation = step.op in
    let s : State = step.state in
    let before : run (start d.many) (ops_of d) k ≡ Some s = run_one d k b.one ∙ step.before in
    let ind = same_to how d e k s b (omega (arith, less)) before in
    let going : stop_before (ops_of d) k ≡ false = no_stop (ops_of d) (ops_of e) k b.first (omega (arith, less)) in
    let stop : Bool = stop_before (ops_of d) (suc k) in
    let there : item_at e k ≡ Some o = ap (λ (l : List Operation). slice_get l k) b.first.whole ∙ get-within (ops_of d) b.first.more k (omega (arith, less)) ∙ step.item in
    let at : run (start e.many) (ops_of e) k ≡ Some (as_many false s) =
    ap (λ (x : Bool). run (start x) (ops_of e) k) b.several ∙ run_many (ops_of d) (ops_of e) k s b.first (omega (arith, less)) step.before ∙ ap (λ (x : Bool). Some (as_many x s)) going in
    let behind : run (start e.many) (ops_of e) (suc k) ≡ Some (as_many stop t) =
    ap (λ (x : Bool). run (start x) (ops_of e) (suc k)) b.several ∙ run_many (ops_of d) (ops_of e) (suc k) t b.first less (sym (run_one d (suc k) b.one) ∙ r) in
    let alone : fresh s ≡ s = single_fresh s (run_single (ops_of d) k s step.before) in
    let offset : offset_of e k ≡ offset_of d k = size_first (items_of d) (items_of e) b.first.more k b.first.whole (omega (arith, less, length-map (items_of d) (λ (i : Item). i.op))) in
    let event : event_of (row_of o) (before_of (fresh (as_many false s))) (as_many stop t) ≡ event_of (row_of o) (before_of (fresh s)) t =
    event_many (row_of o) (before_of s) stop t ∙ ap (λ (u : State). event_of (row_of o) (before_of u) t) (sym alone) in
    let mine = entry_is for_people how d k o s t step.item before r in
    let its = entry_is for_people how e k o (as_many false s) (as_many stop t) there at behind in
    let same : entry_at how e k ≡ entry_at how d k =
    its ∙ ap₂ (λ (n : ℕ) (m : Naming). counted_text (in_file how.holes n) m t.heap (event_of (row_of o) (before_of (fresh (as_many false s))) (as_many stop t))) offset ind.naming
    ∙ ap (counted_text (in_file how.holes (offset_of d k)) (naming_at how.detail d k) t.heap) event ∙ sym mine in
    record {
      naming =
          ap₂ (λ (x : Option Operation) (y : Option State). naming_on x y (naming_at how.detail e k)) there behind
          ∙ ap (naming_after (row_of o) (length t.heap)) ind.naming
          ∙ sym (ap₂ (λ (x : Option Operation) (y : Option State). naming_on x y (naming_at how.detail d k)) step.item r);
      text = text-suc for_people how e k ∙ ap₂ (λ (x y : List ℕ). x ++ y) ind.text (ap (λ (c : CountedText). c.text) same) ∙ sym (text-suc for_people how d k);
    }

-- ---- where the lines of the first pickle end

not_inside : (d : Contents) (k : ℕ) → d.many ≡ false → first_inside d k ≡ None
unfolding first_inside
not_inside d zero m = refl
not_inside d (suc k) m = ap₂ (λ (x : Option ℕ) (b : Bool). or_here x b k) (not_inside d k m) (go (item_at d k))
  where
    go : (x : Option Operation) → is_inside d.many x (left_at d k) ≡ false
    go None = refl
    go (Some o) = rw m refl

end_is : (d : Contents) (k : ℕ) (x : Option State) (j : Option ℕ) → j ≡ None → run (start d.many) (ops_of d) k ≡ x → (end_from d k j).place ≡ k
end_is d k (Some s) j none r = rw (none, r) refl
end_is d k None j none r = rw (none, r) refl

-- an item behind which a frame goes on is STOP
inside_stops : (e : Contents) (n j : ℕ) → first_inside e n ≡ Some j → (o : Operation) × (item_at e j ≡ Some o) × (is_stop o.opcode ≡ true)
unfolding first_inside
inside_stops e zero j h = absurd cc
inside_stops e (suc n) j h = go (first_inside e n) refl (item_at e n) refl h (λ q. inside_stops e n j q)
  where
    here : (many stop left : Bool) → or_here None (many && (stop && left)) n ≡ Some j → (stop ≡ true) × (n ≡ j)
    here true true true h = (refl, cc)
    here true true false h = absurd cc
    here true false left h = absurd cc
    here false stop left h = absurd cc

    go : (x : Option ℕ) → first_inside e n ≡ x → (y : Option Operation) → item_at e n ≡ y → or_here x (is_inside e.many y (left_at e n)) n ≡ Some j
        → (first_inside e n ≡ Some j → (o : Operation) × (item_at e j ≡ Some o) × (is_stop o.opcode ≡ true)) → (o : Operation) × (item_at e j ≡ Some o) × (is_stop o.opcode ≡ true)
    go (Some i) p y q h before = before (p ∙ h)
    go None p None q h before = absurd cc
    go None p (Some o) q h before =
        let at = here e.many (is_stop o.opcode) _ h in
        (o, subst (λ (m : ℕ). item_at e m ≡ Some o) at.1 q, at.0)

place_is : (d : Contents) → d.many ≡ false → (calls_end d).place ≡ reached (start d.many) (ops_of d) (length (ops_of d))
unfolding calls_end
place_is d m =
    let last : ℕ = reached (start d.many) (ops_of d) (length (ops_of d)) in
    end_is d last (run (start d.many) (ops_of d) last) (first_inside d last) (not_inside d last m) refl

pub first_lines_come_first : FirstLinesComeFirst
first_lines_come_first how bytes d e small h k =
    let hf = h.document.formed in
    let kf = k.document.formed in
    let fit : FitsFrom false false 0 (ops_of d) d.tail (ended_by d) =
    subst (λ (m : Bool). FitsFrom m false 0 (ops_of d) d.tail (ended_by d)) h.mode
    (subst (λ (w : Bool). FitsFrom d.many w 0 (ops_of d) d.tail (ended_by d)) h.framing (document_fits d hf (small_document bytes d small h.whole hf.reach))) in
    let fits : FitsFrom true false 0 (ops_of e) e.tail (ended_by e) =
    subst (λ (m : Bool). FitsFrom m false 0 (ops_of e) e.tail (ended_by e)) k.mode
    (subst (λ (w : Bool). FitsFrom e.many w 0 (ops_of e) e.tail (ended_by e)) k.framing (document_fits e kf (small_document bytes e small k.whole kf.reach))) in
    let first : AreFirst (ops_of d) (ops_of e) = are_first (ops_of d) (ops_of e) 0 d.tail e.tail (ended_by d) (ended_by e) fit fits (h.whole ∙ sym k.whole) in
    let b : Begins d e = record { one = h.mode; several = k.mode; first = first } in
    let far = is_reached (start d.many) (ops_of d) (length (ops_of d)) in
    let last : ℕ = reached (start d.many) (ops_of d) (length (ops_of d)) in
    let ends : (calls_end d).place ≡ last = place_is d h.mode in
    let same = same_to how d e last far.state b far.within far.is in
    let there : run (start e.many) (ops_of e) last ≡ Some (as_many (stop_before (ops_of d) last) far.state) =
    ap (λ (x : Bool). run (start x) (ops_of e) last) k.mode ∙ run_many (ops_of d) (ops_of e) last far.state first far.within (sym (run_one d last h.mode) ∙ far.is) in
    let all : length (ops_of e) ≡ length (ops_of d) + length first.more = ap (λ (l : List Operation). length l) first.whole ∙ length-append (ops_of d) first.more in
    let before : last ≤ (calls_end e).place =
    reaches e last _ there (omega (arith, far.within, all)) (λ n j q. let stop = inside_stops e n j q in omega (arith, far.within, first.last j stop.0 stop.1 stop.2)) in
    let more = entries_first for_people how e last (calls_end e).place before in
    (more.0, more.1 ∙ ap (λ (t : List ℕ). t ++ more.0) (same.text ∙ ap (λ (n : ℕ). (entries how d n).text) (sym ends)))
