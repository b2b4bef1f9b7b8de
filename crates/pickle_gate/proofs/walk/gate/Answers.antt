use Rattle.std.proofs.Common.{refl, ◌≡◌, ℕ, ◌+◌, List, drop, length, None, Ok, sym, ap, ◌∙◌, arith, rules}
use Rattle.std.specs.Prelude.{false}
use Rattle.pickle_ops.specs.Spelling.{size_of}
use Rattle.pickle_ops.specs.Row.{row_of}
use Rattle.pickle_doc.specs.DocUnit.{is_stop}
use Rattle.pickle_doc.specs.Tail.{HasTailFault}
use Rattle.pickle_doc.specs.Fitting.{left_behind}
use Rattle.pickle_doc.specs.Unread.{IsNextItem, Unread}
use Rattle.pickle_doc.proofs.Existence.{some_document}
use Rattle.pickle_machine.specs.Move.{move}
use Rattle.pickle_calls.specs.Event.{before_of, event_of}
use Rattle.pickle_form.specs.Form.{reason_of}
use Rattle.pickle_gate.specs.declared.judge.Made.TheVariants as made
use Rattle.pickle_gate.specs.Kept.{judged_event, kept_behind}
use Rattle.pickle_gate.proofs.Rounds.{Stepped, begins, ends_at_fault, ends_out_of_form, ends_refused, ends_forbidden, ends_at_stop, goes_round}
use Rattle.pickle_gate.proofs.walk.gate.Goals as goal

pub items-init : goal.items-init
items-init c =
    let some = some_document false false c.args.bytes.now (λ i. omega (arith, c.type_inv.bytes i)) in
    rw (c.new-reader.ensures, c.begin-form.ensures, c.new-machine.ensures, c.new-keeps.ensures.items) (refl, begins _ _ _ some c.requires, (refl, refl))

pub returns-in-Tail : goal.returns-in-Tail
returns-in-Tail c =
    let f : HasTailFault c.items.reader.loose c.items.reader.left c.items.reader.rest c.in-Tail.fault × (c.next.new.self ≡ c.items.reader) = rw c.in-Tail.is at c.next.ensures in
    rw (c.other.ensures, c.fault_reason.ensures) (ends_at_fault _ _ _ _ _ _ _ c.in-Tail.fault c.items.invariant.1 (rw c.items.invariant.0 at f.0))

pub returns-in-Some : goal.returns-in-Some
returns-in-Some c =
    let w = c.items.invariant.1 in
    let n : IsNextItem c.items.reader.loose c.items.reader.left c.items.reader.rest c.in-Item.op (size_of c.in-Item.op)
    × (c.next.new.self ≡ record { loose = c.items.reader.loose; rest = drop (size_of c.in-Item.op) c.items.reader.rest; left = left_behind c.items.reader.loose c.items.reader.left c.in-Item.op }) = rw c.in-Item.is at c.next.ensures in
    let here : IsNextItem false c.items.reader.left c.items.reader.rest c.in-Item.op (size_of c.in-Item.op) = rw c.items.invariant.0 at n.0 in
    rw c.other-in-Some.ensures (ends_out_of_form _ _ _ _ _ _ _ c.in-Item.op c.in-Some.why w here (sym c.in-Some.is ∙ c.in_ok-why-in-Item.ensures.first))

pub returns-in-Err : goal.returns-in-Err
returns-in-Err c =
    let w = c.items.invariant.1 in
    let n : IsNextItem c.items.reader.loose c.items.reader.left c.items.reader.rest c.in-Item.op (size_of c.in-Item.op)
    × (c.next.new.self ≡ record { loose = c.items.reader.loose; rest = drop (size_of c.in-Item.op) c.items.reader.rest; left = left_behind c.items.reader.loose c.items.reader.left c.in-Item.op }) = rw c.in-Item.is at c.next.ensures in
    let here : IsNextItem false c.items.reader.left c.items.reader.rest c.in-Item.op (size_of c.in-Item.op) = rw c.items.invariant.0 at n.0 in
    let formed : None ≡ reason_of c.in-Item.op c.items.form = sym c.in_default.is ∙ c.in_ok-why-in-Item.ensures.first in
    rw c.refused.ensures (ends_refused _ _ _ _ _ _ _ c.in-Item.op c.in-Err.refusal w here formed (c.in-Err.ensures.refused (search rules)))

pub returns-then-not-good : goal.returns-then-not-good
returns-then-not-good c =
    let w = c.items.invariant.1 in
    let n : IsNextItem c.items.reader.loose c.items.reader.left c.items.reader.rest c.in-Item.op (size_of c.in-Item.op)
    × (c.next.new.self ≡ record { loose = c.items.reader.loose; rest = drop (size_of c.in-Item.op) c.items.reader.rest; left = left_behind c.items.reader.loose c.items.reader.left c.in-Item.op }) = rw c.in-Item.is at c.next.ensures in
    let here : IsNextItem false c.items.reader.left c.items.reader.rest c.in-Item.op (size_of c.in-Item.op) = rw c.items.invariant.0 at n.0 in
    let formed : None ≡ reason_of c.in-Item.op c.items.form = sym c.in_default.is ∙ c.in_ok-why-in-Item.ensures.first in
    let moves : move c.in-Item.op c.items.place c.items.machine.state ≡ Ok c.step.new.self.state = rw c.items.invariant.2.1 at c.in_default-step.ensures.ok in
    let step : Stepped c.items.place c.items.form c.items.machine.state c.step.new.self.state c.in-Item.op c.items.protocol c.protocol_here-protocol.result = record { formed = formed; moves = moves; protocol = c.protocol_here-protocol.ensures } in
    let bad : made.Forbidden ≡ judged_event c.args.list.now c.protocol_here-protocol.result c.step.new.self.state.heap c.items.keeps.items (event_of (row_of c.in-Item.op) (before_of c.items.machine.state) c.step.new.self.state) =
    rw (c.looked_before-before.ensures c.step.new.self.state, c.of_ref-row.ensures) at (c.in_ok-good-in-Item.ensures.bad c.if-not-good.true) in
    ends_forbidden _ _ _ _ _ _ _ c.step.new.self.state c.in-Item.op c.protocol_here-protocol.result w here step bad

pub returns-then-is_stop : goal.returns-then-is_stop
returns-then-is_stop c =
    let w = c.items.invariant.1 in
    let n : IsNextItem c.items.reader.loose c.items.reader.left c.items.reader.rest c.in-Item.op (size_of c.in-Item.op)
    × (c.next.new.self ≡ record { loose = c.items.reader.loose; rest = drop (size_of c.in-Item.op) c.items.reader.rest; left = left_behind c.items.reader.loose c.items.reader.left c.in-Item.op }) = rw c.in-Item.is at c.next.ensures in
    let here : IsNextItem false c.items.reader.left c.items.reader.rest c.in-Item.op (size_of c.in-Item.op) = rw c.items.invariant.0 at n.0 in
    let formed : None ≡ reason_of c.in-Item.op c.items.form = sym c.in_default.is ∙ c.in_ok-why-in-Item.ensures.first in
    let moves : move c.in-Item.op c.items.place c.items.machine.state ≡ Ok c.step.new.self.state = rw c.items.invariant.2.1 at c.in_default-step.ensures.ok in
    let step : Stepped c.items.place c.items.form c.items.machine.state c.step.new.self.state c.in-Item.op c.items.protocol c.protocol_here-protocol.result = record { formed = formed; moves = moves; protocol = c.protocol_here-protocol.ensures } in
    let fine = c.in_ok-good-in-Item.ensures.fine c.if-not-good.false in
    let good : made.Allowed fine.0 ≡ judged_event c.args.list.now c.protocol_here-protocol.result c.step.new.self.state.heap c.items.keeps.items (event_of (row_of c.in-Item.op) (before_of c.items.machine.state) c.step.new.self.state) =
    rw (c.looked_before-before.ensures c.step.new.self.state, c.of_ref-row.ensures) at fine.1 in
    let stop : is_stop c.in-Item.op.opcode ≡ c.is_stop.result = sym (c.is_stop.ensures ∙ ap is_stop c.opcode.ensures) in
    let rest : c.unread_len.result ≡ length (drop (size_of c.in-Item.op) c.items.reader.rest) = c.unread_len.ensures ∙ ap (λ (u : Unread). length u.rest) n.1 in
    rw (c.stopped.ensures, rest, c.size.ensures) (ends_at_stop _ _ _ _ _ _ _ c.step.new.self.state c.in-Item.op c.protocol_here-protocol.result fine.0 w here step good (stop ∙ c.if-is_stop.true))

pub items-preserved : goal.items-preserved
items-preserved c =
    let w = c.items.invariant.1 in
    let n : IsNextItem c.items.reader.loose c.items.reader.left c.items.reader.rest c.in-Item.op (size_of c.in-Item.op)
    × (c.next.new.self ≡ record { loose = c.items.reader.loose; rest = drop (size_of c.in-Item.op) c.items.reader.rest; left = left_behind c.items.reader.loose c.items.reader.left c.in-Item.op }) = rw c.in-Item.is at c.next.ensures in
    let here : IsNextItem false c.items.reader.left c.items.reader.rest c.in-Item.op (size_of c.in-Item.op) = rw c.items.invariant.0 at n.0 in
    let formed : None ≡ reason_of c.in-Item.op c.items.form = sym c.in_default.is ∙ c.in_ok-why-in-Item.ensures.first in
    let moves : move c.in-Item.op c.items.place c.items.machine.state ≡ Ok c.step.new.self.state = rw c.items.invariant.2.1 at c.in_default-step.ensures.ok in
    let step : Stepped c.items.place c.items.form c.items.machine.state c.step.new.self.state c.in-Item.op c.items.protocol c.protocol_here-protocol.result = record { formed = formed; moves = moves; protocol = c.protocol_here-protocol.ensures } in
    let fine = c.in_ok-good-in-Item.ensures.fine c.if-not-good.false in
    let good : made.Allowed fine.0 ≡ judged_event c.args.list.now c.protocol_here-protocol.result c.step.new.self.state.heap c.items.keeps.items (event_of (row_of c.in-Item.op) (before_of c.items.machine.state) c.step.new.self.state) =
    rw (c.looked_before-before.ensures c.step.new.self.state, c.of_ref-row.ensures) at fine.1 in
    let stop : is_stop c.in-Item.op.opcode ≡ c.is_stop.result = sym (c.is_stop.ensures ∙ ap is_stop c.opcode.ensures) in
    let kept : _ ≡ kept_behind c.step.new.self.state.heap fine.0 (event_of (row_of c.in-Item.op) (before_of c.items.machine.state) c.step.new.self.state) c.items.keeps.items =
    rw (c.looked_before-before.ensures c.step.new.self.state, c.of_ref-row.ensures) at fine.2 in
    let along : c.step.new.self.rest ≡ c.next.new.self.rest =
    c.in_default-step.ensures.rest ∙ ap (λ (l : List ℕ). drop (size_of c.in-Item.op) l) c.items.invariant.2.0 ∙ sym (ap (λ (u : Unread). u.rest) n.1) in
    let place : c.step.new.self.place ≡ c.items.place + 1 = c.in_default-step.ensures.place ∙ ap (λ (k : ℕ). k + 1) c.items.invariant.2.1 in
    let next = goes_round _ _ _ _ _ _ _ c.step.new.self.state c.in-Item.op c.protocol_here-protocol.result fine.0 w here step good (stop ∙ c.if-is_stop.false) in
    (ap (λ (u : Unread). u.loose) n.1 ∙ c.items.invariant.0, rw (n.1, c.items.invariant.0, c.size.ensures, c.in_ok-why-in-Item.ensures.next c.in_default.is, kept) next, (along, place))
