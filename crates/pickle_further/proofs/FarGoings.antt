-- What GET or PUT of a number of more than 64 bits comes to.
use Rattle.std.proofs.Common.{◌≡◌, ℕ, ◌^◌, ◌≤◌, Bool, true, false, List, [], ◌∷◌, length, zero, suc, Option, Some, None, Ok, Err, refl, sym, ap, subst, ◌∙◌, inl, inr, arith}
use Rattle.std.specs.Prelude.{nat_le, slice_get, drop, Result, IfOk}
use Rattle.std.proofs.lemmas.Bool.{le-leb}
use Rattle.pickle_ops.specs.declared.opcode.Opcode.TheVariants as op
use Rattle.pickle_ops.specs.declared.fault.FrontFault.TheVariants as front
use Rattle.pickle_ops.specs.declared.row.Row.{Row}
use Rattle.pickle_ops.specs.declared.row.Row.TheVariants as row
use Rattle.pickle_ops.specs.Spelling.{Operation}
use Rattle.pickle_ops.specs.Object.{Object}
use Rattle.pickle_doc.specs.declared.fault.TailFault.TheVariants as tail
use Rattle.pickle_doc.specs.DocUnit.{frame_op}
use Rattle.pickle_machine.specs.declared.loader.LoaderMove.{LoaderMove}
use Rattle.pickle_machine.specs.declared.refusal.Refusal.{Refusal}
use Rattle.pickle_machine.specs.State.{State}
use Rattle.pickle_machine.specs.Move.{fresh}
use Rattle.pickle_machine.specs.Loader.{loader_move, move_as}
use Rattle.pickle_machine.specs.LoaderLaws.{one_move}
use Rattle.pickle_lenient.specs.declared.taken.Taken.{Taken}
use Rattle.pickle_lenient.specs.Row.{is_far}
use Rattle.pickle_calls.specs.declared.event.Event.{Event}
use Rattle.pickle_text.specs.declared.closing.Closing.TheVariants as closing
use Rattle.pickle_calls.specs.Event.{before_of, event_of, made_as, made_event}
use Rattle.pickle_text.specs.declared.stop.TextStop.{TextStop}
use Rattle.pickle_further.specs.declared.way.Pickles.{Pickles}
use Rattle.pickle_further.specs.declared.way.Pickles.TheVariants as pickles
use Rattle.pickle_further.specs.declared.way.Way.{Way}
use Rattle.pickle_further.specs.declared.way.Spot.{Spot}
use Rattle.pickle_further.specs.declared.going.Gone.{Gone}
use Rattle.pickle_further.specs.Going.{Standing, moved_so, then_as, used_op, state_after, naming_row, refused_at, gone_to, gone_as}
use Rattle.pickle_further.specs.Far.{ComesTo, far_gone}
use Rattle.pickle_further.specs.Inside.{Goes}

-- the item of such a row
abbrev far_item : Row → Taken → Taken
far_item r item = record { op = frame_op 0; row = r; size = item.size; left = item.left; lost = item.lost }

-- nothing is behind the last object
none_behind : (heap : List Object) → slice_get heap (length heap) ≡ None
none_behind [] = refl
none_behind (x ∷ heap) = none_behind heap

none_made : (heap : List Object) → made_event heap (length heap) ≡ None
none_made heap = ap (made_as heap (length heap)) (none_behind heap)

stays : (p : Pickles) (t : State) → t ≡ state_after p op.Frame t
stays pickles.First t = refl
stays pickles.All t = refl
stays pickles.OneMemo t = refl

moved_once : (r : Row) (place : ℕ) (s : State) → moved_so (one_move r) (frame_op 0) place s ≡ then_as (one_move r) (frame_op 0) place (move_as r (frame_op 0) place s)
moved_once r place s = refl

done : (w : Way) (p : Standing) (item : Taken) (r : Row) (t : State) → move_as r (frame_op 0) p.at.place p.state ≡ Ok t → is_far r ≡ true → event_of r (before_of p.state) t ≡ None
    → Goes (gone_as w p (far_item r item) (one_move r)) (far_gone true item.size item.left item.lost p.at.offset) t
done w p item r t e far silent = rw e (record { is = rw (silent, far) refl; state = inl (stays w.pickles t) })

refused : (w : Way) (p : Standing) (item : Taken) (r : Row) (t : State) (x : Refusal) → move_as r (frame_op 0) p.at.place p.state ≡ Err x → is_far r ≡ true
    → Goes (gone_as w p (far_item r item) (one_move r)) (far_gone false item.size item.left item.lost p.at.offset) t
refused w p item r t x e far = rw (e, far) (record { is = refl; state = inr (record { silent = refl; closing = (closing.Fault (tail.Front front.BadArgument) p.at.offset, refl) }) })

comes : (w : Way) (p : Standing) (item : Taken) (r : Row) (t : State) (b : Bool) → ComesTo r p.state t b → is_far r ≡ true → event_of r (before_of p.state) t ≡ None
    → Goes (gone_as w p (far_item r item) (one_move r)) (far_gone b item.size item.left item.lost p.at.offset) t
comes w p item r t true m far silent = done w p item r t (m p.at.place) far silent
comes w p item r t false m far silent = refused w p item r t (m p.at.place).0 (m p.at.place).1 far

item_is : (item : Taken) (r : Row) → r ≡ item.row → item.op ≡ frame_op 0 → far_item r item ≡ item
item_is item r e o =
    ap (λ (x : Row). record { op = frame_op 0; row = x; size = item.size; left = item.left; lost = item.lost }) e
    ∙ ap (λ (x : Operation). record { op = x; row = item.row; size = item.size; left = item.left; lost = item.lost }) (sym o)

silent_get : (n : ℕ) (s t : State) → t.heap ≡ s.heap → event_of (row.Get n) (before_of s) t ≡ None
silent_get n s t e = ap (λ (h : List Object). made_event h (length s.heap)) e ∙ none_made s.heap

silent_put : (n : ℕ) (s t : State) → t.heap ≡ s.heap → event_of (row.Put n) (before_of s) t ≡ None
silent_put n s t e = ap (λ (h : List Object). made_event h (length s.heap)) e ∙ none_made s.heap

pub get_goes : (w : Way) (p : Standing) (item : Taken) (n : ℕ) (s t : State) (at : Spot) (b : Bool) (gone : Gone) → 2 ^ 64 ≤ n → row.Get n ≡ item.row → (is_far item.row ≡ true → item.op ≡ frame_op 0) → ComesTo (row.Get n) s t b → t.heap ≡ s.heap
    → gone ≡ far_gone b item.size item.left item.lost at.offset → p.state ≡ s → p.at ≡ at → Goes (gone_as w p item (loader_move item.op.opcode item.row (fresh p.state))) gone t
get_goes w p item n s t at b gone h is frame m heap gives state spot =
    let far : is_far (row.Get n) ≡ true = le-leb (2 ^ 64) n h in
    let op_is : item.op ≡ frame_op 0 = frame (ap is_far (sym is) ∙ far) in
    let goes = comes w p item (row.Get n) t b (subst (λ (x : State). ComesTo (row.Get n) x t b) (sym state) m) far (silent_get n p.state t (heap ∙ ap (λ (x : State). x.heap) (sym state))) in
    let here = subst (λ (x : Taken). Goes (gone_as w p x (loader_move x.op.opcode x.row (fresh p.state))) (far_gone b item.size item.left item.lost p.at.offset) t) (item_is item (row.Get n) is op_is) goes in
    subst (λ (g : Gone). Goes (gone_as w p item (loader_move item.op.opcode item.row (fresh p.state))) g t) (ap (λ (x : Spot). far_gone b item.size item.left item.lost x.offset) spot ∙ sym gives) here

pub put_goes : (w : Way) (p : Standing) (item : Taken) (n : ℕ) (s t : State) (at : Spot) (b : Bool) (gone : Gone) → 2 ^ 64 ≤ n → row.Put n ≡ item.row → (is_far item.row ≡ true → item.op ≡ frame_op 0) → ComesTo (row.Put n) s t b → t.heap ≡ s.heap
    → gone ≡ far_gone b item.size item.left item.lost at.offset → p.state ≡ s → p.at ≡ at → Goes (gone_as w p item (loader_move item.op.opcode item.row (fresh p.state))) gone t
put_goes w p item n s t at b gone h is frame m heap gives state spot =
    let far : is_far (row.Put n) ≡ true = le-leb (2 ^ 64) n h in
    let op_is : item.op ≡ frame_op 0 = frame (ap is_far (sym is) ∙ far) in
    let goes = comes w p item (row.Put n) t b (subst (λ (x : State). ComesTo (row.Put n) x t b) (sym state) m) far (silent_put n p.state t (heap ∙ ap (λ (x : State). x.heap) (sym state))) in
    let here = subst (λ (x : Taken). Goes (gone_as w p x (loader_move x.op.opcode x.row (fresh p.state))) (far_gone b item.size item.left item.lost p.at.offset) t) (item_is item (row.Put n) is op_is) goes in
    subst (λ (g : Gone). Goes (gone_as w p item (loader_move item.op.opcode item.row (fresh p.state))) g t) (ap (λ (x : Spot). far_gone b item.size item.left item.lost x.offset) spot ∙ sym gives) here

-- an item of a row of the machine
pub near_goes : (w : Way) (item : Taken) (r : Row) (s t : State) (at : Spot) (more : ℕ) (x : Result Gone TextStop) → r ≡ item.row
    → IfOk x (λ g. (p : Standing) → p.state ≡ s → p.at.place ≡ at.place → length (drop item.size p.rest) ≡ more → Goes (gone_as w p (record { op = item.op; row = r; size = item.size; left = item.left; lost = item.lost }) (loader_move item.op.opcode r (fresh p.state))) g t)
    → IfOk x (λ g. (p : Standing) → p.state ≡ s → p.at ≡ at → length (drop item.size p.rest) ≡ more → Goes (gone_as w p item (loader_move item.op.opcode item.row (fresh p.state))) g t)
near_goes w item r s t at more (Ok g) e h =
    λ p state spot left.
    subst (λ (y : Row). Goes (gone_as w p (record { op = item.op; row = y; size = item.size; left = item.left; lost = item.lost }) (loader_move item.op.opcode y (fresh p.state))) g t) e
    (h p state (ap (λ (x : Spot). x.place) spot) left)
near_goes w item r s t at more (Err x) e h = tt
