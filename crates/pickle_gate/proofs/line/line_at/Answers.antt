use Rattle.std.proofs.Common.{ℕ, List, ◌+◌, Ok, refl, ◌≡◌, drop, length, true, false, sym, ap, subst, ◌∙◌, arith, rules}
use Rattle.std.proofs.lemmas.Result.{IfOk-weaker}
use Rattle.pickle_ops.specs.Spelling.{size_of}
use Rattle.pickle_doc.specs.Unread.{Unread}
use Rattle.pickle_doc.specs.DocUnit.{is_stop}
use Rattle.pickle_machine.specs.Move.{move}
use Rattle.pickle_machine.specs.Reading.{Reading}
use Rattle.pickle_text.proofs.Moves.{move_heap}
use Rattle.pickle_gate.proofs.Lines.{Read, stands_at_first, stands_next, at_tail, at_refused, at_item, behind_stop, past_bytes, taken_off}
use Rattle.pickle_gate.specs.Line.{line_at}
use Rattle.pickle_gate.proofs.line.line_at.Goals as goal

pub items-init : goal.items-init
items-init c = rw (c.new-reader.ensures, c.new-machine.ensures, c.begin-naming.ensures) ((λ d reads. stands_at_first _ d c.requires reads), refl, (refl, refl), omega arith, omega arith, omega arith)

pub of-before-requires : goal.of-before-requires
of-before-requires c = omega (arith, c.items.invariant.3, c.items-test.true, c.requires)

pub step-requires-clause-heap : goal.step-requires-clause-heap
step-requires-clause-heap c = omega (arith, c.items.invariant.3, c.items-test.true, c.requires)

pub step-requires-clause-next : goal.step-requires-clause-next
step-requires-clause-next c =
    let n : Read c.items.reader c.next.new.self c.in-Item.op = rw c.in-Item.is at c.next.ensures in
    (n.0.rest, c.items.invariant.2.0 ∙ n.0.spelled)

pub overflow_add-offset : goal.overflow_add-offset
overflow_add-offset c =
    let n : Read c.items.reader c.next.new.self c.in-Item.op = rw c.in-Item.is at c.next.ensures in
    omega (arith, c.items.invariant.4, taken_off _ c.in-Item.op n.0, c.size.ensures, c.requires)

pub returns-in-Tail : goal.returns-in-Tail
returns-in-Tail c = λ d reads.
    let v = c.items.invariant.0 d reads in
    let f = rw c.in-Tail.is at c.next.ensures in
    let none = at_tail d _ c.args.place _ _ _ reads.framing v.has_read (rw c.items.invariant.1 at f.0) c.items.invariant.5 in
    search (rules, sym none)

pub returns-in-Err : goal.returns-in-Err
returns-in-Err c = λ d reads.
    let v = c.items.invariant.0 d reads in
    let n : Read c.items.reader c.next.new.self c.in-Item.op = rw c.in-Item.is at c.next.ensures in
    let none = at_refused d _ c.args.place _ _ _ c.in-Item.op _ _ c.in-Err.refusal reads.framing v (rw c.items.invariant.1 at n.0) (c.in-Err.ensures.refused (search rules)) c.items.invariant.5 in
    search (rules, sym none)

pub returns-then-is_stop : goal.returns-then-is_stop
returns-then-is_stop c = λ d reads.
    let v = c.items.invariant.0 d reads in
    let n : Read c.items.reader c.next.new.self c.in-Item.op = rw c.in-Item.is at c.next.ensures in
    let stop : is_stop c.in-Item.op.opcode ≡ true = sym (rw c.opcode.ensures at c.is_stop.ensures) ∙ c.if-is_stop.true in
    let none = behind_stop d _ c.args.place _ _ c.in-Item.op reads.framing reads.mode v.has_read (rw c.items.invariant.1 at n.0) stop (omega (arith, c.items.invariant.5, c.if-at-place.false)) in
    search (rules, sym none)

pub returns : goal.returns
returns c = λ d reads.
    let none = past_bytes c.args.bytes.now d c.args.place reads (omega (arith, c.items.invariant.5, c.items-test.false)) in
    search (rules, sym none)

pub returns-then-at-place : goal.returns-then-at-place
returns-then-at-place c =
    let n : Read c.items.reader c.next.new.self c.in-Item.op = rw c.in-Item.is at c.next.ensures in
    let moves : move c.in-Item.op c.items.at c.items.machine.state ≡ Ok c.step.new.self.state = rw c.items.invariant.2.1 at c.in_default.ensures.ok in
    let same : c.items.at ≡ c.args.place = omega (arith, c.if-at-place.true) in
    IfOk-weaker c.line_of.result _ _
    (λ line e d reads.
    let shown = rw (c.event_of-event.ensures, c.of_ref-row.ensures, c.of-before.ensures) at e in
    subst (λ (k : ℕ). line.items ≡ line_at d k) same
    (at_item d _ _ _ _ c.in-Item.op _ _ _ _ reads.framing (c.items.invariant.0 d reads) (rw c.items.invariant.1 at n.0) moves shown)) c.line_of.ensures

pub overflow_cast-objects : goal.overflow_cast-objects
overflow_cast-objects c =
    let moves : move c.in-Item.op c.items.at c.items.machine.state ≡ Ok c.step.new.self.state = rw c.items.invariant.2.1 at c.in_default.ensures.ok in
    omega (arith, c.items.invariant.3, c.items-test.true, c.requires, c.objects.ensures, move_heap c.in-Item.op c.items.at c.items.machine.state c.step.new.self.state moves)

pub items-preserved : goal.items-preserved
items-preserved c =
    let n : Read c.items.reader c.next.new.self c.in-Item.op = rw c.in-Item.is at c.next.ensures in
    let moves : move c.in-Item.op c.items.at c.items.machine.state ≡ Ok c.step.new.self.state = rw c.items.invariant.2.1 at c.in_default.ensures.ok in
    let miss : is_stop c.in-Item.op.opcode ≡ false = sym (rw c.opcode.ensures at c.is_stop.ensures) ∙ c.if-is_stop.false in (
      (λ d reads.
          let v = c.items.invariant.0 d reads in
          rw (n.1, c.items.invariant.1, c.size.ensures, c.after-naming.ensures, c.of_ref-row.ensures, c.objects.ensures)
          (stands_next d _ _ _ _ c.in-Item.op _ _ _ reads.framing reads.mode v (rw c.items.invariant.1 at n.0) miss moves)),
      ap (λ (u : Unread). u.loose) n.1 ∙ c.items.invariant.1,
      (
        c.in_default.ensures.rest ∙ ap (λ (l : List ℕ). drop (size_of c.in-Item.op) l) c.items.invariant.2.0 ∙ sym (ap (λ (u : Unread). u.rest) n.1),
        c.in_default.ensures.place ∙ ap (λ (k : ℕ). k + 1) c.items.invariant.2.1,
      ),
      omega (arith, c.items.invariant.3, move_heap c.in-Item.op c.items.at c.items.machine.state c.step.new.self.state moves),
      omega (arith, c.items.invariant.4, taken_off _ c.in-Item.op n.0, c.size.ensures, ap (λ (u : Unread). length u.rest) n.1),
      omega (arith, c.items.invariant.5, c.if-at-place.false),
    )
