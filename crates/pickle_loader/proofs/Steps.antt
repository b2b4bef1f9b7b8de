-- A step beyond what the machine accepts.
use Rattle.std.proofs.Common.{◌≡◌, ℕ, zero, suc, ◌+◌, ◌-◌, ◌<◌, Bool, true, false, cond, List, [], ◌∷◌, ◌++◌, length, map, take, Option, Some, None, Ok, Err, refl, sym, ap, subst, ◌∙◌, arith, take-take}
use Rattle.std.proofs.lemmas.Bool.{ltb-true, lt-ltb, le-leb}
use Rattle.std.proofs.lemmas.List.{append-nil, length-map, length-take-le, take-map}
use Rattle.std.specs.Prelude.{◌%◌, ◌/◌, ◌==◌, ◌&&◌, not, nat_lt, if◌then◌else◌, Result}
use Rattle.pickle_ops.specs.declared.opcode.Opcode.{Opcode}
use Rattle.pickle_ops.specs.declared.opcode.Opcode.TheVariants as op
use Rattle.pickle_ops.specs.declared.kind.Kind.{Kind}
use Rattle.pickle_ops.specs.declared.kind.Kind.TheVariants as kind
use Rattle.pickle_ops.specs.declared.row.Row.{Row}
use Rattle.pickle_ops.specs.declared.row.Row.TheVariants as row
use Rattle.pickle_ops.specs.declared.row.Filling.{Filling}
use Rattle.pickle_ops.specs.declared.row.Filling.TheVariants as filling
use Rattle.pickle_ops.specs.Argument.{first_text, second_text}
use Rattle.pickle_ops.specs.Spelling.{Operation}
use Rattle.pickle_ops.specs.Row.{values_of, row_of, row_of_opcode, kind_of}
use Rattle.pickle_machine.specs.declared.refusal.Refusal.{Refusal}
use Rattle.pickle_machine.specs.declared.refusal.Refusal.TheVariants as refusal
use Rattle.pickle_machine.specs.declared.loader.Fill.{Fill as Goes}
use Rattle.pickle_machine.specs.declared.loader.LoaderMove.{LoaderMove}
use Rattle.pickle_machine.specs.State.{Marked, State}
use Rattle.pickle_machine.specs.Move.{unless, deep, under, without, cut, push, refusal_of, next_of, outcome}
use Rattle.pickle_machine.specs.Loader.{asks_less, is_odd, fill_when, fill_of, ends_odd, is_inst, import_move, fill_move, move_as}
use Rattle.pickle_calls.specs.declared.event.Event.TheVariants as event
use Rattle.pickle_calls.specs.Event.{made_event}
use Rattle.pickle_further.specs.Going.{used_op, then_as, moved_so}
use Rattle.pickle_loader.specs.Environment.{PyType, Value, Plain, Own, Foreign, Line, Act, Find, Instance, Fill, Reply, Raises, Answers, Unpickler}
use Rattle.pickle_loader.specs.Unpickler.{Step, Ran, Stopped, Raised, answered, acted, get, fill_own, fills, fill_pairs, then_raises, to_mark, pop_mark, on_top}
use Rattle.pickle_loader.specs.Dispatch.{dispatch, load_op}
use Rattle.pickle_loader.specs.Listed.{listed_of, acts_listed, protocol_after, taken}
use Rattle.pickle_loader.specs.Laws.{sections, IsSame}
use Rattle.pickle_loader.specs.Whole.{IsWhole}
use Rattle.pickle_loader.specs.Beyond.{HasValue, is_missing, less_of, StepFollows, MapsNew, dropped, RaisesAt, RaisesIn, Moves, Comes, AStepBeyond}
use Rattle.pickle_loader.proofs.Cuts.{zero_only}
use Rattle.pickle_loader.proofs.Images.{image, mark_image, on_top_image}
use Rattle.pickle_loader.proofs.Pushes.{listed_pushed, listed_one}
use Rattle.pickle_loader.proofs.Methods.{Here, unpickler}
use Rattle.pickle_loader.proofs.Fills.{taken_is, split_cut}
use Rattle.pickle_loader.proofs.Still.{fresh_same}
use Rattle.pickle_loader.proofs.Beyond.{same_image, wide_moves_are_followed}
use Rattle.pickle_loader.proofs.Missing.{what_is_missing_raises}
use Rattle.pickle_loader.proofs.Viewed.{some_of, fills_are_followed}
use Rattle.pickle_loader.proofs.Wholes.{whole_push, whole_without, whole_cut, whole_next, no_view_kind}
use Rattle.pickle_loader.proofs.Refused.{Unlisted, own_unlisted, others}

-- ---- where it is refused

unlisted_by : (h : Here) (o : Operation) (b : Bool) → Unlisted h (dispatch h.w o.opcode o.arg (unpickler h)) → Unlisted h (if b then Raised h.acts else dispatch h.w o.opcode o.arg (unpickler h))
unlisted_by h o true unlisted = refl
unlisted_by h o false unlisted = unlisted

raised_at : (acts : List Act) (x : Step) (done : List Act) → x ≡ Raised done → listed_of done ≡ acts → RaisesAt acts x
raised_at acts x done is e = subst (λ (y : Step). RaisesAt acts y) (sym is) e

-- INST that is refused has no mark
marked_inst : (b : Bool) (n : ℕ) (r : Refusal) → unless (nat_lt 0 n) refusal.NoMark None ≡ Some r → (true && (n == 0)) ≡ false → ⊥
marked_inst b zero r e m = absurd cc
marked_inst b (suc n) r e m = absurd (past (nat_lt 0 (suc n)) (lt-ltb 0 (suc n) (omega arith)) e)
  where
    past : (c : Bool) → c ≡ true → unless c refusal.NoMark None ≡ Some r → ⊥
    past true t e = absurd cc
    past false t e = absurd cc

inst_only : (o : Opcode) → is_inst o ≡ true → o ≡ op.Inst
inst_only op.Inst e = refl
inst_only _ e = absurd cc

inst_refused : (o : Opcode) (arg : List ℕ) (s : State) (r : Refusal) → o ≡ op.Inst → refusal_of (asks_less (row_of_opcode o arg) s) s ≡ Some r → (is_inst o && (length s.marked == 0)) ≡ false → ⊥
inst_refused op.Inst arg s r is e m = marked_inst true (length s.marked) r e m
inst_refused _ arg s r is e m = absurd cc

not_inst : (o : Operation) (s : State) (r : Refusal) (b : Bool) → is_inst o.opcode ≡ b → (is_inst o.opcode && (length s.marked == 0)) ≡ false → refusal_of (less_of o s) s ≡ Some r → is_inst o.opcode ≡ false
not_inst o s r false is m e = is
not_inst o s r true is m e = absurd (inst_refused o.opcode o.arg s r (inst_only o.opcode is) e m)

refused_by : (h : Here) (o : Operation) (r : Refusal) (b : Bool) → HasValue o → is_missing r ≡ b → IsWhole h.s → IsSame h.w h.V h.s (unpickler h) → (is_inst o.opcode && (length h.s.marked == 0)) ≡ false → fill_of (row_of o) h.s ≡ None
    → refusal_of (less_of o h.s) h.s ≡ Some r → Unlisted h (load_op h.w o (unpickler h))
refused_by h o r true value is whole same inst fill e =
    raised_at (listed_of h.acts) (load_op h.w o (unpickler h)) h.acts (what_is_missing_raises h.w h.V h.s (unpickler h) o r value same (not_inst o h.s r (is_inst o.opcode) refl inst e) e is) refl
refused_by h o r false value is whole same inst fill e = unlisted_by h o (h.w.fails (unpickler h) o) (others h o.opcode o.arg whole fill r e is)

-- ---- INST that only imports

no_marks : (V : ℕ → Value) (ms : List Marked) (u : Unpickler) (go : List Value → Unpickler → Step) → (length ms == 0) ≡ true → to_mark (sections V ms) u go ≡ Raised u.acts
no_marks V [] u go e = refl
no_marks V (m ∷ ms) u go e = let none : length (m ∷ ms) ≡ 0 = zero_only (length (m ∷ ms)) e in absurd (omega (arith, none))

found_raises : (h : Here) (r : Reply) (a : Act) (new : List Act) (go : List Value → Unpickler → Step) → (length h.s.marked == 0) ≡ true → listed_of (a ∷ []) ≡ new
    → RaisesIn (listed_of h.acts ++ new) (answered r a (unpickler h) (λ found p. pop_mark p go))
found_raises h Raises a new go e is = ([], append-nil (listed_of (h.acts ++ a ∷ [])) ∙ listed_one h.acts a ∙ ap (λ (l : List Act). listed_of h.acts ++ l) is)
found_raises h (Answers t) a new go e is =
    subst (λ (x : Step). RaisesIn (listed_of h.acts ++ new) x) (sym (no_marks h.V h.s.marked (acted a (unpickler h)) go e))
    ([], append-nil (listed_of (h.acts ++ a ∷ [])) ∙ listed_one h.acts a ∙ ap (λ (l : List Act). listed_of h.acts ++ l) is)

raises_or : (acts new : List Act) (b : Bool) (x : Step) → RaisesIn (listed_of acts ++ new) x → RaisesIn (listed_of acts ++ new) (if b then Raised acts else x)
raises_or acts new true x e = (new, refl)
raises_or acts new false x e = e

import_raises : (h : Here) (o : Opcode) (arg : List ℕ) (new : List Act) → o ≡ op.Inst → (length h.s.marked == 0) ≡ true → Find h.proto (Line (first_text arg)) (Line (second_text arg)) ∷ [] ≡ new → RaisesIn (listed_of h.acts ++ new) (dispatch h.w o arg (unpickler h))
import_raises h op.Inst arg new is e listed =
    found_raises h (h.w.reply h.acts (Find h.proto (Line (first_text arg)) (Line (second_text arg)))) (Find h.proto (Line (first_text arg)) (Line (second_text arg))) new (λ items q. get h.w (Instance None items) q) e listed
import_raises h _ arg new is e listed = absurd cc

both_are : (a b : Bool) → (a && b) ≡ true → (a ≡ true) × (b ≡ true)
both_are true b e = (refl, e)
both_are false b e = absurd cc

-- ---- what is put into a view, or before an odd key

pops : (s : State) (o : Operation) (place : ℕ) → s.stopped ≡ false → nat_lt 0 (length s.top) ≡ true → move_as row.Pop o place s ≡ Ok (without 1 s)
pops s o place running some =
    ap (λ (f : State). outcome (refusal_of row.Pop f) (next_of row.Pop (kind_of o) place f)) (fresh_same s running)
    ∙ ap (λ (b : Bool). outcome (if b then None else unless (nat_lt 0 (length s.marked)) refusal.Underflow None) (if b then without 1 s else cut s)) some

twice : (s : State) → without 1 (without 1 s) ≡ without 2 s
twice s =
    let size : length (take (length s.top - 1) s.top) ≡ length s.top - 1 = length-take-le (length s.top - 1) s.top (omega arith) in
    ap (λ (l : List ℕ). record s { top = l })
    (ap (λ (n : ℕ). take (n - 1) (take (length s.top - 1) s.top)) size
    ∙ take-take (length s.top - 1 - 1) (length s.top - 1) s.top (omega arith)
    ∙ ap (λ (n : ℕ). take n s.top) (omega arith))

pops_two : (s : State) (o : Operation) (place : ℕ) → s.stopped ≡ false → 2 < length s.top → then_as (record { row = row.Pop; again = true; fill = None; last = None; imports = false }) o place (move_as row.Pop o place s) ≡ Ok (without 2 s)
pops_two s o place running some =
    let size : length (take (length s.top - 1) s.top) ≡ length s.top - 1 = length-take-le (length s.top - 1) s.top (omega arith) in
    ap (λ (x : Result State Refusal). then_as (record { row = row.Pop; again = true; fill = None; last = None; imports = false }) o place x) (pops s o place running (lt-ltb 0 (length s.top) (omega (arith, some))))
    ∙ pops (without 1 s) o place running (lt-ltb 0 (length (take (length s.top - 1) s.top)) (omega (arith, size, some)))
    ∙ ap Ok (twice s)

cuts : (s : State) (o : Operation) (place : ℕ) → s.stopped ≡ false → nat_lt 0 (length s.marked) ≡ true → move_as row.PopMark o place s ≡ Ok (cut s)
cuts s o place running some =
    ap (λ (f : State). outcome (refusal_of row.PopMark f) (next_of row.PopMark (kind_of o) place f)) (fresh_same s running)
    ∙ ap (λ (b : Bool). outcome (unless b refusal.NoMark None) (cut s)) some

-- the move of a fill drops what goes in
fill_drops : (r : Row) (s : State) (f : Goes) (o : Operation) (place : ℕ) → s.stopped ≡ false → fill_of r s ≡ Some f
    → moved_so (fill_move (Some f) r s) (used_op (fill_move (Some f) r s) o) place s ≡ Ok (dropped r s)
fill_drops (row.Change filling.SetItem) s f o place running e =
    pops_two s o place running (ltb-true 2 (length s.top) (some_of (nat_lt 2 (length s.top)) (fill_when filling.SetItem 2 (deep 2 s.top) s.heap) f e).0)
fill_drops (row.Change filling.Append) s f o place running e =
    let below : 1 < length s.top = ltb-true 1 (length s.top) (some_of (nat_lt 1 (length s.top)) (fill_when filling.Append 1 (deep 1 s.top) s.heap) f e).0 in
    ap (λ (x : Result State Refusal). then_as (record { row = row.Pop; again = false; fill = None; last = None; imports = false }) o place x) (pops s o place running (lt-ltb 0 (length s.top) (omega (arith, below))))
fill_drops (row.Change filling.Add) s f o place running e =
    let below : 1 < length s.top = ltb-true 1 (length s.top) (some_of (nat_lt 1 (length s.top)) (fill_when filling.Add 1 (deep 1 s.top) s.heap) f e).0 in
    ap (λ (x : Result State Refusal). then_as (record { row = row.Pop; again = false; fill = None; last = None; imports = false }) o place x) (pops s o place running (lt-ltb 0 (length s.top) (omega (arith, below))))
fill_drops (row.Change filling.Build) s f o place running e =
    let below : 1 < length s.top = ltb-true 1 (length s.top) (some_of (nat_lt 1 (length s.top)) (fill_when filling.Build 1 (deep 1 s.top) s.heap) f e).0 in
    ap (λ (x : Result State Refusal). then_as (record { row = row.Pop; again = false; fill = None; last = None; imports = false }) o place x) (pops s o place running (lt-ltb 0 (length s.top) (omega (arith, below))))
fill_drops (row.CutChange g) s f o place running e =
    let there = some_of (nat_lt 0 (length s.marked) && nat_lt 0 (length (under s.marked))) (fill_when g (length s.top) (deep 0 (under s.marked)) s.heap) f e in
    ap (λ (x : Result State Refusal). then_as (record { row = row.PopMark; again = false; fill = None; last = None; imports = false }) o place x) (cuts s o place running (both_are _ _ there.0).0)
fill_drops _ s f o place running e = absurd cc

whole_dropped : (r : Row) (s : State) → IsWhole s → IsWhole (dropped r s)
whole_dropped (row.Change f) s whole = whole_without (values_of f) s whole
whole_dropped (row.CutChange f) s whole = whole_cut s whole
whole_dropped _ s whole = whole

-- ---- SETITEMS of an odd number

unlisted_in : (h : Here) (new : List Act) (x : Step) → Unlisted h x → RaisesIn (listed_of h.acts ++ new) x
unlisted_in h new (Ran q) e = e
unlisted_in h new (Stopped v q) e = e
unlisted_in h new (Raised done) e = (new, ap (λ (l : List Act). l ++ new) e)

set_raises : (h : Here) (r : Reply) (t : PyType) (n : ℕ) (items : List Value) (u : Unpickler) → u.acts ≡ h.acts
    → RaisesIn (listed_of h.acts ++ Fill filling.SetItem (Foreign t n) items ∷ []) (then_raises (answered r (Fill filling.SetItem (Foreign t n) items) u (λ v q. Ran q)))
set_raises h Raises t n items u e =
    ([], append-nil (listed_of (u.acts ++ Fill filling.SetItem (Foreign t n) items ∷ [])) ∙ listed_one u.acts (Fill filling.SetItem (Foreign t n) items) ∙ ap (λ (l : List Act). listed_of l ++ Fill filling.SetItem (Foreign t n) items ∷ []) e)
set_raises h (Answers x) t n items u e =
    ([], append-nil (listed_of (u.acts ++ Fill filling.SetItem (Foreign t n) items ∷ [])) ∙ listed_one u.acts (Fill filling.SetItem (Foreign t n) items) ∙ ap (λ (l : List Act). listed_of l ++ Fill filling.SetItem (Foreign t n) items ∷ []) e)

pairs_raise : (h : Here) (v : Value) (items : List Value) (u : Unpickler) → u.acts ≡ h.acts → 0 < length items
    → RaisesIn (listed_of h.acts ++ Fill filling.SetItem v items ∷ []) (then_raises (fills h.w filling.SetItem v items u))
pairs_raise h v [] u e some = absurd (omega (arith, some))
pairs_raise h (Plain k) (x ∷ items) u e some = (Fill filling.SetItem (Plain k) (x ∷ items) ∷ [], ap (λ (l : List Act). listed_of l ++ Fill filling.SetItem (Plain k) (x ∷ items) ∷ []) e)
pairs_raise h (Own t n) (x ∷ items) u e some = unlisted_in h (Fill filling.SetItem (Own t n) (x ∷ items) ∷ []) (then_raises (fill_own h.w filling.SetItem t (Own t n) (x ∷ items) u)) (own_unlisted h t n (x ∷ items) u e)
pairs_raise h (Foreign t n) (x ∷ items) u e some = set_raises h (h.w.reply u.acts (Fill filling.SetItem (Foreign t n) (x ∷ items))) t n (x ∷ items) u e

odd_number : (n : ℕ) → (n % 2 == 0) ≡ false → n % 2 ≡ 1
odd_number n e = grind arith

not_true : (b : Bool) → not b ≡ true → b ≡ false
not_true true e = absurd cc
not_true false e = refl

is_odd_set : (g : Filling) (n : ℕ) → is_odd g n ≡ true → g ≡ filling.SetItem
is_odd_set filling.SetItem n e = refl
is_odd_set _ n e = absurd cc

fill_is : (b : Bool) (x y : Goes) → cond b (Some x) None ≡ Some y → (b ≡ true) × (x ≡ y)
fill_is true x y e = let same : x ≡ y = cc in (refl, same)
fill_is false x y e = absurd cc

some_parts : (p c d : Bool) → (p && (c && d)) ≡ true → c ≡ true
some_parts true true d e = refl
some_parts true false d e = absurd cc
some_parts false c d e = absurd cc

pairs_by : (b : Bool) (acts : List Act) (x y : Step) → b ≡ false → RaisesIn acts y → RaisesIn acts (if b then x else y)
pairs_by true acts x y e r = absurd cc
pairs_by false acts x y e r = r

odd_raises : (h : Here) (g : Goes) → fill_of (row.CutChange filling.SetItem) h.s ≡ Some g → is_odd filling.SetItem (length h.s.top) ≡ true
    → RaisesIn (listed_of h.acts ++ acts_listed h.V h.proto h.s (cut h.s) (Some (event.Filled g.filling g.count g.target))) (pop_mark (unpickler h) (λ items q. on_top q (λ target. fill_pairs h.w target items q)))
odd_raises h g e odd =
    let n : ℕ = length h.s.top in
    let t : State = cut h.s in
    let id : ℕ = deep 0 (under h.s.marked) in
    let q : Unpickler = image h.V t h.proto h.acts in
    let items : List Value = map h.V h.s.top in
    let there = some_of (nat_lt 0 (length h.s.marked) && nat_lt 0 (length (under h.s.marked))) (fill_when filling.SetItem n id h.s.heap) g e in
    let marks = both_are (nat_lt 0 (length h.s.marked)) (nat_lt 0 (length (under h.s.marked))) there.0 in
    let is = fill_is _ (record { filling = filling.SetItem; count = n / 2; target = id }) g there.1 in
    let some : nat_lt 0 (n / 2) ≡ true = some_parts true (nat_lt 0 (n / 2)) _ is.0 in
    let pairs : 0 < n / 2 = ltb-true 0 (n / 2) some in
    let rest : n % 2 ≡ 1 = odd_number n (not_true (n % 2 == 0) odd) in
    let size : length items ≡ n = length-map h.s.top h.V in
    let front : length (take (length items - 1) items) ≡ n - 1 = length-take-le (length items - 1) items (omega arith) ∙ omega (arith, size) in
    let new : Fill filling.SetItem (h.V id) (take (length items - 1) items) ∷ [] ≡ acts_listed h.V h.proto h.s t (Some (event.Filled g.filling g.count g.target)) =
    ap (λ (m : ℕ). Fill filling.SetItem (h.V id) (take m items) ∷ []) (omega (arith, size, rest))
    ∙ ap (λ (l : List Value). Fill filling.SetItem (h.V id) l ∷ []) (take-map h.V (n / 2 + n / 2) h.s.top)
    ∙ ap (λ (l : List ℕ). Fill filling.SetItem (h.V id) (map h.V (take (n / 2 + n / 2) l)) ∷ []) (sym (taken_is h.s t h.s.top (split_cut h.s marks.0)))
    ∙ ap (λ (b : Bool). if b then Fill filling.SetItem (h.V id) (map h.V (take (n / 2 + n / 2) (taken h.s t))) ∷ [] else []) (sym some)
    ∙ ap (λ (x : Goes). acts_listed h.V h.proto h.s t (Some (event.Filled x.filling x.count x.target))) is.1 in
    let X : Step → Type 0 = λ (x : Step). RaisesIn (listed_of h.acts ++ Fill filling.SetItem (h.V id) (take (length items - 1) items) ∷ []) x in
    subst (λ (l : List Act). RaisesIn (listed_of h.acts ++ l) (pop_mark (unpickler h) (λ items q. on_top q (λ target. fill_pairs h.w target items q)))) new
    (subst X (sym (mark_image h.V h.s h.proto h.acts (λ items q. on_top q (λ target. fill_pairs h.w target items q)) marks.0))
    (subst X (sym (on_top_image h.V t h.proto h.acts (λ target. fill_pairs h.w target items q) (le-leb 1 (length t.top) (omega (arith, ltb-true 0 (length (under h.s.marked)) marks.1)))))
    (pairs_by (length items % 2 == 0) (listed_of h.acts ++ Fill filling.SetItem (h.V id) (take (length items - 1) items) ∷ []) (fills h.w filling.SetItem (h.V id) items q) (then_raises (fills h.w filling.SetItem (h.V id) (take (length items - 1) items) q))
    (ap (λ (m : ℕ). m % 2 == 0) size ∙ not_true (n % 2 == 0) odd)
    (pairs_raise h (h.V id) (take (length items - 1) items) q refl (omega (arith, front, pairs))))))

odd_op : (h : Here) (o : Opcode) (arg : List ℕ) (g : Goes) (r : Refusal) → fill_of (row_of_opcode o arg) h.s ≡ Some g → ends_odd (row_of_opcode o arg) h.s ≡ Some r
    → RaisesIn (listed_of h.acts ++ acts_listed h.V h.proto h.s (dropped (row_of_opcode o arg) h.s) (Some (event.Filled g.filling g.count g.target))) (dispatch h.w o arg (unpickler h))
odd_op h op.SetItems arg g r e odd = odd_raises h g e (is_so (is_odd filling.SetItem (length h.s.top)) odd)
  where
    is_so : (b : Bool) → (if b then Some refusal.OddItems else None) ≡ Some r → b ≡ true
    is_so true e = refl
    is_so false e = absurd cc
odd_op h _ arg g r e odd = absurd cc

-- ---- by the move

-- nothing is put in by PROTO or STOP
fill_protocol : (o : Opcode) (arg : List ℕ) (s : State) (proto : ℕ) (g : Goes) → fill_of (row_of_opcode o arg) s ≡ Some g → protocol_after o arg proto ≡ proto
fill_protocol op.Proto arg s proto g e = absurd cc
fill_protocol op.Stop arg s proto g e = absurd cc
fill_protocol _ arg s proto g e = refl

by_last : (h : Here) (o : Operation) (g : Goes) (x : Option Refusal) → ends_odd (row_of o) h.s ≡ x → IsSame h.w h.V h.s (unpickler h) → fill_of (row_of o) h.s ≡ Some g
    → Moves h.w h.V (listed_of h.acts ++ acts_listed h.V h.proto h.s (dropped (row_of o) h.s) (Some (event.Filled g.filling g.count g.target))) (protocol_after o.opcode o.arg h.proto) h.s (dropped (row_of o) h.s) (load_op h.w o (unpickler h)) x
by_last h o g None is same e =
    subst (λ (p : ℕ). MapsNew h.V h.s (dropped (row_of o) h.s) (load_op h.w o (unpickler h)) → StepFollows h.w h.V (listed_of h.acts ++ acts_listed h.V h.proto h.s (dropped (row_of o) h.s) (Some (event.Filled g.filling g.count g.target))) p (dropped (row_of o) h.s) (load_op h.w o (unpickler h))) (sym (fill_protocol o.opcode o.arg h.s h.proto g e))
    (fills_are_followed h.w h.V h.s (unpickler h) o g same e is)
by_last h o g (Some r) is same e = raises_or h.acts _ (h.w.fails (unpickler h) o) (dispatch h.w o.opcode o.arg (unpickler h)) (odd_op h o.opcode o.arg g r e is)

-- the law of an unpickler that the state tells of
abbrev Comes_so : Here → Operation → LoaderMove → Type 0
Comes_so h o m = Comes h.w h.V h.s (unpickler h) m (protocol_after o.opcode o.arg h.proto) (load_op h.w o (unpickler h)) (moved_so m (used_op m o) h.place h.s)

by_fill : (h : Here) (o : Operation) (g : Goes) → h.s.stopped ≡ false → IsWhole h.s → IsSame h.w h.V h.s (unpickler h) → fill_of (row_of o) h.s ≡ Some g → Comes_so h o (fill_move (Some g) (row_of o) h.s)
by_fill h o g running whole same e =
    subst (λ (x : Result State Refusal). Comes h.w h.V h.s (unpickler h) (fill_move (Some g) (row_of o) h.s) (protocol_after o.opcode o.arg h.proto) (load_op h.w o (unpickler h)) x) (sym (fill_drops (row_of o) h.s g o h.place running e))
    (whole_dropped (row_of o) h.s whole, by_last h o g (ends_odd (row_of o) h.s) refl same e)

by_refusal : (h : Here) (o : Operation) (x : Option Refusal) → HasValue o → refusal_of (less_of o h.s) h.s ≡ x → IsWhole h.s → h.s.stopped ≡ false → IsSame h.w h.V h.s (unpickler h) → (is_inst o.opcode && (length h.s.marked == 0)) ≡ false
    → fill_of (row_of o) h.s ≡ None → Comes h.w h.V h.s (unpickler h) (fill_move None (row_of o) h.s) (protocol_after o.opcode o.arg h.proto) (load_op h.w o (unpickler h)) (outcome x (next_of (less_of o h.s) (kind_of o) h.place h.s))
by_refusal h o None value is whole running same inst fill =
    let t : State = next_of (less_of o h.s) (kind_of o) h.place h.s in
    let moved : move_as (less_of o h.s) o h.place h.s ≡ Ok t =
    ap (λ (f : State). outcome (refusal_of (less_of o h.s) f) (next_of (less_of o h.s) (kind_of o) h.place f)) (fresh_same h.s running)
    ∙ ap (λ (y : Option Refusal). outcome y t) is in
    (whole_next (less_of o h.s) (kind_of o) h.place h.s whole (no_view_kind o.opcode o.arg) is, wide_moves_are_followed h.w h.V h.s t (unpickler h) o h.place value running same moved)
by_refusal h o (Some r) value is whole running same inst fill = refused_by h o r (is_missing r) value refl whole same inst fill is

then_same : (r : Row) (s : State) (o : Operation) (place : ℕ) (x : Result State Refusal) → then_as (fill_move None r s) o place x ≡ x
then_same r s o place (Ok t) = refl
then_same r s o place (Err e) = refl

by_less : (h : Here) (o : Operation) → HasValue o → IsWhole h.s → h.s.stopped ≡ false → IsSame h.w h.V h.s (unpickler h) → (is_inst o.opcode && (length h.s.marked == 0)) ≡ false → fill_of (row_of o) h.s ≡ None → Comes_so h o (fill_move None (row_of o) h.s)
by_less h o value whole running same inst fill =
    let step : moved_so (fill_move None (row_of o) h.s) (used_op (fill_move None (row_of o) h.s) o) h.place h.s ≡ outcome (refusal_of (less_of o h.s) h.s) (next_of (less_of o h.s) (kind_of o) h.place h.s) =
    then_same (row_of o) h.s o h.place (move_as (less_of o h.s) o h.place h.s)
    ∙ ap (λ (f : State). outcome (refusal_of (less_of o h.s) f) (next_of (less_of o h.s) (kind_of o) h.place f)) (fresh_same h.s running) in
    subst (λ (x : Result State Refusal). Comes h.w h.V h.s (unpickler h) (fill_move None (row_of o) h.s) (protocol_after o.opcode o.arg h.proto) (load_op h.w o (unpickler h)) x) (sym step)
    (by_refusal h o (refusal_of (less_of o h.s) h.s) value refl whole running same inst fill)

by_put : (h : Here) (o : Operation) (x : Option Goes) → HasValue o → fill_of (row_of o) h.s ≡ x → IsWhole h.s → h.s.stopped ≡ false → IsSame h.w h.V h.s (unpickler h) → (is_inst o.opcode && (length h.s.marked == 0)) ≡ false
    → Comes_so h o (fill_move x (row_of o) h.s)
by_put h o None value is whole running same inst = by_less h o value whole running same inst is
by_put h o (Some g) value is whole running same inst = by_fill h o g running whole same is

by_import : (h : Here) (o : Operation) → (is_inst o.opcode && (length h.s.marked == 0)) ≡ true → IsWhole h.s → h.s.stopped ≡ false → Comes_so h o import_move
by_import h o is whole running =
    let names : Kind = kind.Global (record { first = first_text o.arg; second = second_text o.arg }) in
    let t : State = push names [] h.s in
    let inst = both_are (is_inst o.opcode) (length h.s.marked == 0) is in
    let new : List Act = acts_listed h.V h.proto h.s t (made_event t.heap (length h.s.heap)) in
    let listed : Find h.proto (Line (first_text o.arg)) (Line (second_text o.arg)) ∷ [] ≡ new = sym (listed_pushed h.V h.proto h.s t h.s.heap (record { kind = names; parts = []; changes = [] }) refl) in
    subst (λ (f : State). Comes h.w h.V h.s (unpickler h) import_move (protocol_after o.opcode o.arg h.proto) (load_op h.w o (unpickler h)) (Ok (push names [] f))) (sym (fresh_same h.s running))
    (whole_push names [] h.s whole tt, raises_or h.acts new (h.w.fails (unpickler h) o) (dispatch h.w o.opcode o.arg (unpickler h)) (import_raises h o.opcode o.arg new (inst_only o.opcode inst.0) inst.1 listed))

by_inst : (h : Here) (o : Operation) (b : Bool) → HasValue o → (is_inst o.opcode && (length h.s.marked == 0)) ≡ b → IsWhole h.s → h.s.stopped ≡ false → IsSame h.w h.V h.s (unpickler h)
    → Comes_so h o (if b then import_move else fill_move (fill_of (row_of o) h.s) (row_of o) h.s)
by_inst h o true value is whole running same = by_import h o is whole running
by_inst h o false value is whole running same = by_put h o (fill_of (row_of o) h.s) value refl whole running same is

pub a_step_beyond : AStepBeyond
a_step_beyond w V s u o place value whole running same =
    let h : Here = record { V = V; w = w; s = s; proto = u.proto; acts = u.acts; place = place; knows = same.objects } in
    let is : u ≡ image V s u.proto u.acts = same_image w V s u same in
    let m : LoaderMove = if is_inst o.opcode && (length s.marked == 0) then import_move else fill_move (fill_of (row_of o) s) (row_of o) s in
    subst (λ (x : Unpickler). Comes w V s x m (protocol_after o.opcode o.arg x.proto) (load_op w o x) (moved_so m (used_op m o) place s)) (sym is)
    (by_inst h o (is_inst o.opcode && (length s.marked == 0)) value refl whole running (subst (λ (x : Unpickler). IsSame w V s x) is same))
