-- What loaders do with an item.
use Rattle.std.proofs.Common.{◌≡◌, ℕ, ◌-◌, ◌<◌, List, length, drop, Some, None, Ok, refl, sym, ap, ◌∙◌, inr}
use Rattle.std.specs.Prelude.{Result, Err, IfOk}
use Rattle.std.proofs.lemmas.List.{length-drop}
use Rattle.pickle_ops.specs.declared.fault.FrontFault.{FrontFault}
use Rattle.pickle_doc.specs.declared.fault.TailFault.TheVariants as tail
use Rattle.pickle_machine.specs.State.{State}
use Rattle.pickle_machine.specs.Move.{fresh}
use Rattle.pickle_machine.specs.declared.refusal.Refusal.{Refusal}
use Rattle.pickle_machine.specs.declared.loader.LoaderMove.{LoaderMove}
use Rattle.pickle_machine.specs.Loader.{loader_move}
use Rattle.pickle_lenient.specs.declared.taken.Taken.{Taken}
use Rattle.pickle_lenient.specs.declared.fault.NotTaken.{NotTaken}
use Rattle.pickle_lenient.specs.declared.fault.NotTaken.TheVariants as stop
use Rattle.pickle_lenient.specs.Stream.{taken, IsTaken, IsNotTaken}
use Rattle.pickle_text.specs.declared.closing.Closing.{Closing}
use Rattle.pickle_text.specs.declared.closing.Closing.TheVariants as closing
use Rattle.pickle_calls.specs.declared.naming.Detail.TheVariants as detail
use Rattle.pickle_calls.specs.declared.naming.Naming.{Naming}
use Rattle.pickle_text.specs.declared.stop.TextStop.{TextStop}
use Rattle.pickle_further.specs.declared.way.Way.{Way}
use Rattle.pickle_further.specs.declared.way.Spot.{Spot}
use Rattle.pickle_further.specs.declared.going.Gone.{Gone}
use Rattle.pickle_calls.specs.Naming.{begin}
use Rattle.pickle_further.specs.Going.{Standing, moved_so, used_op, gone_to, gone_as, going, nothing}
use Rattle.pickle_further.specs.Inside.{standing, Goes, EndsAtFault}

goes_over : (w : Way) (p : Standing) (f : FrontFault) (t : State) (gone : Gone) → taken w.frames p.at.left p.rest ≡ Err f
    → gone ≡ nothing (closing.Fault (tail.Front f) p.at.offset) → Goes (going w p) gone t
unfolding going
goes_over w p f t gone e is = rw (e, is) (record { is = refl; state = inr (record { silent = refl; closing = (closing.Fault (tail.Front f) p.at.offset, refl) }) })

goes_by : (w : Way) (p : Standing) (item : Taken) (t : State) (gone : Gone) → taken w.frames p.at.left p.rest ≡ Ok item
    → Goes (gone_as w p item (loader_move item.op.opcode item.row (fresh p.state))) gone t → Goes (going w p) gone t
unfolding going
goes_by w p item t gone e g = rw e g

pub go_ok : (w : Way) (s : State) (rest : List ℕ) (at : Spot) (item : Taken) (t : State) (more : ℕ) (r : Result Gone TextStop) → IsTaken w.frames at.left rest item → more ≡ length rest - item.size
    → IfOk r (λ g. (q : Standing) → q.state ≡ s → q.at ≡ at → length (drop item.size q.rest) ≡ more → Goes (gone_as w q item (loader_move item.op.opcode item.row (fresh q.state))) g t)
    → IfOk r (λ g. (naming : Naming) → Goes (going w (standing s rest at naming)) g t)
go_ok w s rest at item t more (Ok g) e is h = λ naming. goes_by w (standing s rest at naming) item t g e.is (h (standing s rest at naming) refl refl (length-drop item.size rest ∙ sym is))
go_ok w s rest at item t more (Err x) e is h = tt

pub not_taken_goes : (w : Way) (s : State) (rest : List ℕ) (at : Spot) (t : State) (e : NotTaken) (r : Result Gone TextStop) → IsNotTaken w.frames at.left rest e → IfOk r (EndsAtFault e at.offset)
    → IfOk r (λ g. (naming : Naming) → Goes (going w (standing s rest at naming)) g t)
not_taken_goes w s rest at t (stop.Fault f) (Ok g) e h = λ naming. goes_over w (standing s rest at naming) f t g e h
not_taken_goes w s rest at t (stop.Fault f) (Err x) e h = tt
not_taken_goes w s rest at t stop.Memory (Ok g) e h = absurd h
not_taken_goes w s rest at t stop.Memory (Err x) e h = tt

-- ---- an item after which it goes on took some bytes

ends_or_not : (c : Closing) → Some c ≡ None → ⊥
ends_or_not c e = cc

gone_some : (w : Way) (p : Standing) (item : Taken) (m : LoaderMove) (r : Result State Refusal) (gone : Gone) → gone ≡ (gone_to w p item m r).gone → 0 < item.size → gone.closing ≡ None → 0 < gone.size
gone_some w p item m (Ok t) gone is some none = rw is some
gone_some w p item m (Err x) gone is some none = absurd (ends_or_not _ (sym (ap (λ (x : Gone). x.closing) is) ∙ none))

pub go_some : (w : Way) (s : State) (rest : List ℕ) (at : Spot) (item : Taken) (t : State) (more : ℕ) (r : Result Gone TextStop) → IsTaken w.frames at.left rest item → more ≡ length rest - item.size
    → IfOk r (λ g. (q : Standing) → q.state ≡ s → q.at ≡ at → length (drop item.size q.rest) ≡ more → Goes (gone_as w q item (loader_move item.op.opcode item.row (fresh q.state))) g t)
    → IfOk r (λ g. g.closing ≡ None → 0 < g.size)
go_some w s rest at item t more (Ok g) e is h =
    let q : Standing = standing s rest at (begin detail.Cut 0) in
    let m : LoaderMove = loader_move item.op.opcode item.row (fresh s) in
    λ none. gone_some w q item m (moved_so m (used_op m item.op) at.place s) g (h q refl refl (length-drop item.size rest ∙ sym is)).is e.some none
go_some w s rest at item t more (Err x) e is h = tt

pub not_taken_some : (e : NotTaken) (offset : ℕ) (r : Result Gone TextStop) → IfOk r (EndsAtFault e offset) → IfOk r (λ g. g.closing ≡ None → 0 < g.size)
not_taken_some (stop.Fault f) offset (Ok g) h = λ none. absurd (ends_or_not _ (sym (ap (λ (x : Gone). x.closing) h) ∙ none))
not_taken_some (stop.Fault f) offset (Err x) h = tt
not_taken_some stop.Memory offset (Ok g) h = absurd h
not_taken_some stop.Memory offset (Err x) h = tt
