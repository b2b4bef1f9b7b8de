-- What the lines behind the end promise.
use Rattle.std.proofs.Common.{◌≡◌, ℕ, ◌<◌, ◌==◌, ◌&&◌, Bool, true, false, List, ◌++◌, length, Option, Some, None, Ok, refl, sym, ap, ◌∙◌, arith, append_assoc}
use Rattle.std.specs.Prelude.{slice_get, if◌then◌else◌, Result, Err}
use Rattle.pickle_io.specs.Text.{◌⧺◌}
use Rattle.pickle_ops.specs.declared.fault.FrontFault.{FrontFault}
use Rattle.pickle_ops.specs.declared.opcode.Opcode.{Opcode}
use Rattle.pickle_ops.specs.declared.row.Row.{Row}
use Rattle.pickle_ops.specs.Spelling.{Operation}
use Rattle.pickle_ops.specs.Object.{Object}
use Rattle.pickle_ops.specs.Kind.{is_opaque}
use Rattle.pickle_ops.specs.Row.{kind_of}
use Rattle.pickle_machine.specs.declared.refusal.Refusal.{Refusal}
use Rattle.pickle_machine.specs.declared.loader.Fill.{Fill}
use Rattle.pickle_machine.specs.declared.loader.LoaderMove.{LoaderMove}
use Rattle.pickle_machine.specs.State.{State}
use Rattle.pickle_machine.specs.Move.{refusal_of, next_of, outcome, fresh}
use Rattle.pickle_machine.specs.Loader.{loader_move, fill_move, fill_of, import_move, move_as, is_inst, cleared}
use Rattle.pickle_machine.proofs.HeapGrowth.{fresh_heap}
use Rattle.pickle_calls.specs.Event.{before_of, event_of}
use Rattle.pickle_lenient.specs.declared.taken.Taken.{Taken}
use Rattle.pickle_lenient.specs.Stream.{taken}
use Rattle.pickle_further.specs.declared.way.Way.{Way}
use Rattle.pickle_further.specs.Going.{Standing, going, gone_by, gone_to, moved_so, then_as, used_op, event_by, keeps}
use Rattle.pickle_further.specs.Parts.{parts}
use Rattle.pickle_calls.specs.Calls.{calls}
use Rattle.pickle_further.specs.Leads.{or_first, warned_status}
use Rattle.pickle_further.specs.CallsText.{document_leads, document_deep, document_warnings}
use Rattle.pickle_further.specs.Laws.{LinesComeFirst, NoLineNoReachBehind}
use Rattle.pickle_calls.proofs.Walking.{event_by as event_fresh}
use Rattle.pickle_calls.proofs.Unseen.{row_unseen}

status_first : (leads : Option ℕ) (status : ℕ) → warned_status leads status ≡ 0 → status ≡ 0
status_first None status e = e
status_first (Some id) status e = absurd (omega (arith, e))

pub lines_come_first : LinesComeFirst
unfolding ◌⧺◌
lines_come_first how p d =
    ((document_warnings d ++ parts how p d, append_assoc (calls how d).text (document_warnings d) (parts how p d)), status_first (or_first (document_leads d) (document_deep d)) (calls how d).status)

-- ---- no line, no reach

-- a move as a row
record MovesAs (r : Row) (o : Operation) (place : ℕ) (s t : State) : Type 0 where
  good : refusal_of r (fresh s) ≡ None
  leads : next_of r (kind_of o) place (fresh s) ≡ t

moves_as : (r : Row) (o : Operation) (place : ℕ) (s t : State) → move_as r o place s ≡ Ok t → MovesAs r o place s t
moves_as r o place s t e = go (refusal_of r (fresh s)) refl e
  where
    go : (x : Option Refusal) → refusal_of r (fresh s) ≡ x → outcome x (next_of r (kind_of o) place (fresh s)) ≡ Ok t → MovesAs r o place s t
    go None is e = record { good = is; leads = cc }
    go (Some x) is e = absurd cc

-- a move that fills nothing is of one row
once : (o : Opcode) (r : Row) (s : State) → (loader_move o r s).fill ≡ None → (loader_move o r s).again ≡ false
once o r s e = go (is_inst o && (length s.marked == 0)) (fill_of r s) e
  where
    go : (b : Bool) (f : Option Fill) → (if b then import_move else fill_move f r s).fill ≡ None → (if b then import_move else fill_move f r s).again ≡ false
    go true f e = refl
    go false None e = refl
    go false (Some f) e = absurd cc

one_move : (m : LoaderMove) (o : Operation) (place : ℕ) (s t : State) → m.again ≡ false → moved_so m o place s ≡ Ok t → move_as m.row o place s ≡ Ok t
one_move m o place s t e f = go (move_as m.row o place s) f
  where
    go : (x : Result State Refusal) → then_as m o place x ≡ Ok t → x ≡ Ok t
    go (Ok u) f = sym (rw e refl) ∙ f
    go (Err r) f = absurd cc

-- of a move that has no event
unseen : (m : LoaderMove) (o : Operation) (place : ℕ) (s t : State) → m.again ≡ false → moved_so m o place s ≡ Ok t → event_of m.row (before_of s) t ≡ None
    → (id : ℕ) (x : Object) → slice_get t.heap id ≡ Some x → is_opaque x.kind ≡ true → slice_get s.heap id ≡ Some x
unseen m o place s t once_only moves none id x there opaque =
    let by = moves_as m.row o place s t (one_move m o place s t once_only moves) in
    let at : event_of m.row (before_of (fresh s)) (next_of m.row (kind_of o) place (fresh s)) ≡ None =
    ap (event_of m.row (before_of (fresh s))) by.leads ∙ sym (event_fresh s.stopped m.row s t by.good) ∙ none in
    ap (λ (h : List Object). slice_get h id) (sym (fresh_heap s))
    ∙ row_unseen m.row (kind_of o) place (fresh s) by.good at id x (ap (λ (u : State). slice_get u.heap id) by.leads ∙ there) opaque

no_fill : (m : LoaderMove) (s t : State) → event_by m s t m.fill ≡ None → m.fill ≡ None
no_fill m s t e = go m.fill e
  where
    go : (f : Option Fill) → event_by m s t f ≡ None → f ≡ None
    go None e = refl
    go (Some f) e = absurd cc

-- a stack that begins anew leaves the objects
same_heap : (b : Bool) (t : State) → (if b then cleared t else t).heap ≡ t.heap
same_heap true t = refl
same_heap false t = refl

unseen_as : (w : Way) (p : Standing) (item : Taken) (m : LoaderMove) (x : Result State Refusal) → moved_so m (used_op m item.op) p.at.place p.state ≡ x
    → (m.fill ≡ None → m.again ≡ false) → 0 < (gone_to w p item m x).gone.size → (gone_to w p item m x).gone.event ≡ None
    → (id : ℕ) (o : Object) → slice_get (gone_to w p item m x).state.heap id ≡ Some o → is_opaque o.kind ≡ true → slice_get p.state.heap id ≡ Some o
unseen_as w p item m (Err r) is single some none = absurd (omega (arith, some))
unseen_as w p item m (Ok t) is single some none =
    let empty : m.fill ≡ None = no_fill m p.state t none in
    λ id o there opaque.
    let same : slice_get t.heap id ≡ Some o = ap (λ (h : List Object). slice_get h id) (sym (same_heap (keeps w.pickles item.op.opcode) t)) ∙ there in
    unseen m (used_op m item.op) p.at.place p.state t (single empty) is (sym (ap (event_by m p.state t) empty) ∙ none) id o same opaque

unseen_by : (w : Way) (p : Standing) (x : Result Taken FrontFault) → 0 < (gone_by w p x).gone.size → (gone_by w p x).gone.event ≡ None
    → (id : ℕ) (o : Object) → slice_get (gone_by w p x).state.heap id ≡ Some o → is_opaque o.kind ≡ true → slice_get p.state.heap id ≡ Some o
unseen_by w p (Err f) some none = absurd (omega (arith, some))
unseen_by w p (Ok item) some none =
    let m : LoaderMove = loader_move item.op.opcode item.row (fresh p.state) in
    unseen_as w p item m (moved_so m (used_op m item.op) p.at.place p.state) refl (once item.op.opcode item.row (fresh p.state)) some none

pub no_line_no_reach_behind : NoLineNoReachBehind
unfolding going
no_line_no_reach_behind w p some none = unseen_by w p (taken w.frames p.at.left p.rest) some none
