use Rattle.std.proofs.Common.{ℕ, List, ◌+◌, Ok, refl, ◌≡◌, ◌<◌, drop, length, true, false, sym, ap, ◌∙◌, arith, rules}
use Rattle.pickle_ops.specs.Spelling.{size_of}
use Rattle.pickle_doc.specs.Tail.{HasTailFault}
use Rattle.pickle_doc.specs.Fitting.{left_behind}
use Rattle.pickle_doc.specs.DocUnit.{is_stop, ends_reading}
use Rattle.pickle_doc.specs.Unread.{IsNextItem, Unread}
use Rattle.pickle_calls.proofs.Walking.{place_small, refused_runs, tail_runs, line_breaks, memory_stops, moved, goes_on, stop_runs, unsure_runs, cut_failed, bounds}
use Rattle.std.specs.Prelude.{◌&&◌, nat_lt}
use Rattle.pickle_text.proofs.Parts.{shorter}
use Rattle.pickle_text.proofs.Moves.{move_heap}
use Rattle.pickle_machine.specs.Move.{move}
use Rattle.pickle_machine.specs.Reading.{Reading}
use Rattle.pickle_calls.proofs.calls.run_part.Goals as goal

pub items-init : goal.items-init
items-init g c = ((λ b h. (h.0, h.1)), omega arith, c.requires.along)

pub overflow_add-end : goal.overflow_add-end
overflow_add-end g c = omega (arith, place_small _ _ _ _ _ _ _ _ _ c.requires.walked.1.1, c.requires.walked.1.2)

pub returns-in-Tail-clause-ok : goal.returns-in-Tail-clause-ok
returns-in-Tail-clause-ok g c b h =
    let v = c.items.invariant.0 b h in
    let f : HasTailFault (g.I.ItemSource.unread c.items.reader).loose (g.I.ItemSource.unread c.items.reader).left (g.I.ItemSource.unread c.items.reader).rest c.in-Tail.fault × (g.I.ItemSource.unread c.next.new.self ≡ g.I.ItemSource.unread c.items.reader) = rw c.in-Tail.is at c.next.ensures in
    let left : c.unread_len.result ≡ length (g.I.ItemSource.unread c.items.reader).rest = c.unread_len.ensures ∙ ap (λ (u : Unread). length u.rest) f.1 in
    tail_runs _ _ _ _ _ _ _ _ _ c.in-Tail.fault _ _ v.1 (rw v.0 at f.0) left c.closing_at-closing.ensures

pub of-before-requires : goal.of-before-requires
of-before-requires g c =
    let h = c.requires.walked.1 in
    let v = c.items.invariant.0 c.requires.walked.0 h in
    let n : IsNextItem (g.I.ItemSource.unread c.items.reader).loose (g.I.ItemSource.unread c.items.reader).left (g.I.ItemSource.unread c.items.reader).rest c.in-Item.op (size_of c.in-Item.op)
    × (g.I.ItemSource.unread c.next.new.self ≡ record { loose = (g.I.ItemSource.unread c.items.reader).loose; rest = drop (size_of c.in-Item.op) (g.I.ItemSource.unread c.items.reader).rest; left = left_behind (g.I.ItemSource.unread c.items.reader).loose (g.I.ItemSource.unread c.items.reader).left c.in-Item.op }) = rw c.in-Item.is at c.next.ensures in
    let b = bounds _ _ _ _ _ _ _ c.in-Item.op _ _ v.1 (rw v.0 at n.0) in
    omega (arith, b.heap, b.place, h.2)

pub step-requires-clause-heap : goal.step-requires-clause-heap
step-requires-clause-heap g c =
    let h = c.requires.walked.1 in
    let v = c.items.invariant.0 c.requires.walked.0 h in
    let n : IsNextItem (g.I.ItemSource.unread c.items.reader).loose (g.I.ItemSource.unread c.items.reader).left (g.I.ItemSource.unread c.items.reader).rest c.in-Item.op (size_of c.in-Item.op)
    × (g.I.ItemSource.unread c.next.new.self ≡ record { loose = (g.I.ItemSource.unread c.items.reader).loose; rest = drop (size_of c.in-Item.op) (g.I.ItemSource.unread c.items.reader).rest; left = left_behind (g.I.ItemSource.unread c.items.reader).loose (g.I.ItemSource.unread c.items.reader).left c.in-Item.op }) = rw c.in-Item.is at c.next.ensures in
    let b = bounds _ _ _ _ _ _ _ c.in-Item.op _ _ v.1 (rw v.0 at n.0) in
    omega (arith, b.heap, b.place, h.2)

pub step-requires-clause-next : goal.step-requires-clause-next
step-requires-clause-next g c =
    let n : IsNextItem (g.I.ItemSource.unread c.items.reader).loose (g.I.ItemSource.unread c.items.reader).left (g.I.ItemSource.unread c.items.reader).rest c.in-Item.op (size_of c.in-Item.op)
    × (g.I.ItemSource.unread c.next.new.self ≡ record { loose = (g.I.ItemSource.unread c.items.reader).loose; rest = drop (size_of c.in-Item.op) (g.I.ItemSource.unread c.items.reader).rest; left = left_behind (g.I.ItemSource.unread c.items.reader).loose (g.I.ItemSource.unread c.items.reader).left c.in-Item.op }) = rw c.in-Item.is at c.next.ensures in
    (n.0.rest, c.items.invariant.2.0 ∙ n.0.spelled)

pub returns-then-eq-clause-err : goal.returns-then-eq-clause-err
returns-then-eq-clause-err g c b h =
    let v = c.items.invariant.0 b h in
    let n : IsNextItem (g.I.ItemSource.unread c.items.reader).loose (g.I.ItemSource.unread c.items.reader).left (g.I.ItemSource.unread c.items.reader).rest c.in-Item.op (size_of c.in-Item.op)
    × (g.I.ItemSource.unread c.next.new.self ≡ record { loose = (g.I.ItemSource.unread c.items.reader).loose; rest = drop (size_of c.in-Item.op) (g.I.ItemSource.unread c.items.reader).rest; left = left_behind (g.I.ItemSource.unread c.items.reader).loose (g.I.ItemSource.unread c.items.reader).left c.in-Item.op }) = rw c.in-Item.is at c.next.ensures in
    memory_stops _ _ _ _ _ _ _ c.in-Item.op _ _ v.1 (rw v.0 at n.0)

pub returns-in-Err-clause-ok : goal.returns-in-Err-clause-ok
returns-in-Err-clause-ok g c b h =
    let v = c.items.invariant.0 b h in
    let n : IsNextItem (g.I.ItemSource.unread c.items.reader).loose (g.I.ItemSource.unread c.items.reader).left (g.I.ItemSource.unread c.items.reader).rest c.in-Item.op (size_of c.in-Item.op)
    × (g.I.ItemSource.unread c.next.new.self ≡ record { loose = (g.I.ItemSource.unread c.items.reader).loose; rest = drop (size_of c.in-Item.op) (g.I.ItemSource.unread c.items.reader).rest; left = left_behind (g.I.ItemSource.unread c.items.reader).loose (g.I.ItemSource.unread c.items.reader).left c.in-Item.op }) = rw c.in-Item.is at c.next.ensures in
    let same = ap (λ (r : Reading). r.state) (c.in-Err.ensures.same (search rules)) in
    rw same (refused_runs _ _ _ _ _ _ _ c.in-Item.op _ _ c.in-Err.refusal v.1 (rw v.0 at n.0) (c.in-Err.ensures.refused (search rules)))

pub returns-in_err-write_step-in-Item-clause-err : goal.returns-in_err-write_step-in-Item-clause-err
returns-in_err-write_step-in-Item-clause-err g c b h =
    let v = c.items.invariant.0 b h in
    let n : IsNextItem (g.I.ItemSource.unread c.items.reader).loose (g.I.ItemSource.unread c.items.reader).left (g.I.ItemSource.unread c.items.reader).rest c.in-Item.op (size_of c.in-Item.op)
    × (g.I.ItemSource.unread c.next.new.self ≡ record { loose = (g.I.ItemSource.unread c.items.reader).loose; rest = drop (size_of c.in-Item.op) (g.I.ItemSource.unread c.items.reader).rest; left = left_behind (g.I.ItemSource.unread c.items.reader).loose (g.I.ItemSource.unread c.items.reader).left c.in-Item.op }) = rw c.in-Item.is at c.next.ensures in
    let moves : move c.in-Item.op c.items.place c.items.machine.state ≡ Ok c.step.new.self.state = rw c.items.invariant.2.1 at c.in_default.ensures.ok in
    let line = rw (c.event_of-event.ensures, c.of_ref-row.ensures, c.of-before.ensures) at c.in_err-write_step-in-Item.ensures in
    cut_failed _ _ _ _ _ _ c.from_residual.ensures.1 (line_breaks _ _ _ _ _ _ _ _ c.in-Item.op _ _ _ v.1 (rw v.0 at n.0) moves line)

pub over-course-requires-clause-imports : goal.over-course-requires-clause-imports
over-course-requires-clause-imports g c =
    let h = c.requires.walked.1 in
    let v = c.items.invariant.0 c.requires.walked.0 h in
    let n : IsNextItem (g.I.ItemSource.unread c.items.reader).loose (g.I.ItemSource.unread c.items.reader).left (g.I.ItemSource.unread c.items.reader).rest c.in-Item.op (size_of c.in-Item.op)
    × (g.I.ItemSource.unread c.next.new.self ≡ record { loose = (g.I.ItemSource.unread c.items.reader).loose; rest = drop (size_of c.in-Item.op) (g.I.ItemSource.unread c.items.reader).rest; left = left_behind (g.I.ItemSource.unread c.items.reader).loose (g.I.ItemSource.unread c.items.reader).left c.in-Item.op }) = rw c.in-Item.is at c.next.ensures in
    let b = bounds _ _ _ _ _ _ _ c.in-Item.op _ _ v.1 (rw v.0 at n.0) in
    omega (arith, b.imports, b.place, h.2)

pub over-course-requires-clause-calls : goal.over-course-requires-clause-calls
over-course-requires-clause-calls g c =
    let h = c.requires.walked.1 in
    let v = c.items.invariant.0 c.requires.walked.0 h in
    let n : IsNextItem (g.I.ItemSource.unread c.items.reader).loose (g.I.ItemSource.unread c.items.reader).left (g.I.ItemSource.unread c.items.reader).rest c.in-Item.op (size_of c.in-Item.op)
    × (g.I.ItemSource.unread c.next.new.self ≡ record { loose = (g.I.ItemSource.unread c.items.reader).loose; rest = drop (size_of c.in-Item.op) (g.I.ItemSource.unread c.items.reader).rest; left = left_behind (g.I.ItemSource.unread c.items.reader).loose (g.I.ItemSource.unread c.items.reader).left c.in-Item.op }) = rw c.in-Item.is at c.next.ensures in
    let b = bounds _ _ _ _ _ _ _ c.in-Item.op _ _ v.1 (rw v.0 at n.0) in
    omega (arith, b.calls, b.place, h.2)

pub overflow_add-offset : goal.overflow_add-offset
overflow_add-offset g c =
    let h = c.requires.walked.1 in
    let v = c.items.invariant.0 c.requires.walked.0 h in
    let n : IsNextItem (g.I.ItemSource.unread c.items.reader).loose (g.I.ItemSource.unread c.items.reader).left (g.I.ItemSource.unread c.items.reader).rest c.in-Item.op (size_of c.in-Item.op)
    × (g.I.ItemSource.unread c.next.new.self ≡ record { loose = (g.I.ItemSource.unread c.items.reader).loose; rest = drop (size_of c.in-Item.op) (g.I.ItemSource.unread c.items.reader).rest; left = left_behind (g.I.ItemSource.unread c.items.reader).loose (g.I.ItemSource.unread c.items.reader).left c.in-Item.op }) = rw c.in-Item.is at c.next.ensures in
    let b = bounds _ _ _ _ _ _ _ c.in-Item.op _ _ v.1 (rw v.0 at n.0) in
    omega (arith, b.behind, c.size.ensures, h.2)

pub returns-then-ends_reading-clause-ok : goal.returns-then-ends_reading-clause-ok
returns-then-ends_reading-clause-ok g c b h =
    let v = c.items.invariant.0 b h in
    let n : IsNextItem (g.I.ItemSource.unread c.items.reader).loose (g.I.ItemSource.unread c.items.reader).left (g.I.ItemSource.unread c.items.reader).rest c.in-Item.op (size_of c.in-Item.op)
    × (g.I.ItemSource.unread c.next.new.self ≡ record { loose = (g.I.ItemSource.unread c.items.reader).loose; rest = drop (size_of c.in-Item.op) (g.I.ItemSource.unread c.items.reader).rest; left = left_behind (g.I.ItemSource.unread c.items.reader).loose (g.I.ItemSource.unread c.items.reader).left c.in-Item.op }) = rw c.in-Item.is at c.next.ensures in
    let moves : move c.in-Item.op c.items.place c.items.machine.state ≡ Ok c.step.new.self.state = rw c.items.invariant.2.1 at c.in_default.ensures.ok in
    let line = rw (c.event_of-event.ensures, c.of_ref-row.ensures, c.of-before.ensures) at c.in_ok-write_step-in-Item.ensures in
    let imports = rw (c.event_of-event.ensures, c.of_ref-row.ensures, c.of-before.ensures) at c.over-course.ensures.imports in
    let calls = rw (c.event_of-event.ensures, c.of_ref-row.ensures, c.of-before.ensures) at c.over-course.ensures.calls in
    let naming = rw c.of_ref-row.ensures at c.over-course.ensures.naming in
    let m = moved _ _ _ _ _ _ _ _ c.in-Item.op _ _ _ c.over-course.result v.1 (rw v.0 at n.0) moves line imports calls naming c.over-course.ensures.left in
    let hit : ends_reading c.args.many c.in-Item.op.opcode ≡ true = sym (rw c.opcode.ensures at c.ends_reading.ensures) ∙ c.if-ends_reading.true in
    let rest : c.unread_len-then-ends_reading.result ≡ length (drop (size_of c.in-Item.op) (g.I.ItemSource.unread c.items.reader).rest) = c.unread_len-then-ends_reading.ensures ∙ ap (λ (u : Unread). length u.rest) n.1 in
    rw c.size.ensures (stop_runs _ _ _ _ _ _ _ c.in-Item.op _ _ _ m hit rest)

pub over-course-requires-clause-objects : goal.over-course-requires-clause-objects
over-course-requires-clause-objects g c =
    let h = c.requires.walked.1 in
    let v = c.items.invariant.0 c.requires.walked.0 h in
    let n : IsNextItem (g.I.ItemSource.unread c.items.reader).loose (g.I.ItemSource.unread c.items.reader).left (g.I.ItemSource.unread c.items.reader).rest c.in-Item.op (size_of c.in-Item.op)
    × (g.I.ItemSource.unread c.next.new.self ≡ record { loose = (g.I.ItemSource.unread c.items.reader).loose; rest = drop (size_of c.in-Item.op) (g.I.ItemSource.unread c.items.reader).rest; left = left_behind (g.I.ItemSource.unread c.items.reader).loose (g.I.ItemSource.unread c.items.reader).left c.in-Item.op }) = rw c.in-Item.is at c.next.ensures in
    let b = bounds _ _ _ _ _ _ _ c.in-Item.op _ _ v.1 (rw v.0 at n.0) in
    let moves : move c.in-Item.op c.items.place c.items.machine.state ≡ Ok c.step.new.self.state = rw c.items.invariant.2.1 at c.in_default.ensures.ok in
    let more = move_heap c.in-Item.op c.items.place c.items.machine.state c.step.new.self.state moves in
    omega (arith, b.heap, b.place, h.2, more)

pub returns-then-leaves_frame-clause-ok : goal.returns-then-leaves_frame-clause-ok
returns-then-leaves_frame-clause-ok g c b h =
    let v = c.items.invariant.0 b h in
    let n : IsNextItem (g.I.ItemSource.unread c.items.reader).loose (g.I.ItemSource.unread c.items.reader).left (g.I.ItemSource.unread c.items.reader).rest c.in-Item.op (size_of c.in-Item.op)
    × (g.I.ItemSource.unread c.next.new.self ≡ record { loose = (g.I.ItemSource.unread c.items.reader).loose; rest = drop (size_of c.in-Item.op) (g.I.ItemSource.unread c.items.reader).rest; left = left_behind (g.I.ItemSource.unread c.items.reader).loose (g.I.ItemSource.unread c.items.reader).left c.in-Item.op }) = rw c.in-Item.is at c.next.ensures in
    let moves : move c.in-Item.op c.items.place c.items.machine.state ≡ Ok c.step.new.self.state = rw c.items.invariant.2.1 at c.in_default.ensures.ok in
    let line = rw (c.event_of-event.ensures, c.of_ref-row.ensures, c.of-before.ensures) at c.in_ok-write_step-in-Item.ensures in
    let imports = rw (c.event_of-event.ensures, c.of_ref-row.ensures, c.of-before.ensures) at c.over-course.ensures.imports in
    let calls = rw (c.event_of-event.ensures, c.of_ref-row.ensures, c.of-before.ensures) at c.over-course.ensures.calls in
    let naming = rw c.of_ref-row.ensures at c.over-course.ensures.naming in
    let m = moved _ _ _ _ _ _ _ _ c.in-Item.op _ _ _ c.over-course.result v.1 (rw v.0 at n.0) moves line imports calls naming c.over-course.ensures.left in
    let miss : ends_reading c.args.many c.in-Item.op.opcode ≡ false = sym (rw c.opcode.ensures at c.ends_reading.ensures) ∙ c.if-ends_reading.false in
    let out : (is_stop c.in-Item.op.opcode && nat_lt 0 c.over-course.result.left) ≡ true = sym (rw c.opcode-in-Item.ensures at c.leaves_frame.ensures) ∙ c.if-leaves_frame.true in
    rw c.size.ensures (unsure_runs _ _ _ _ _ _ _ c.in-Item.op _ _ c.items.offset m miss out refl)

pub items-preserved : goal.items-preserved
items-preserved g c =
    let n : IsNextItem (g.I.ItemSource.unread c.items.reader).loose (g.I.ItemSource.unread c.items.reader).left (g.I.ItemSource.unread c.items.reader).rest c.in-Item.op (size_of c.in-Item.op)
    × (g.I.ItemSource.unread c.next.new.self ≡ record { loose = (g.I.ItemSource.unread c.items.reader).loose; rest = drop (size_of c.in-Item.op) (g.I.ItemSource.unread c.items.reader).rest; left = left_behind (g.I.ItemSource.unread c.items.reader).loose (g.I.ItemSource.unread c.items.reader).left c.in-Item.op }) = rw c.in-Item.is at c.next.ensures in
    let less : length (g.I.ItemSource.unread c.next.new.self).rest < length (g.I.ItemSource.unread c.items.reader).rest = rw n.1 (shorter _ _ _ c.in-Item.op n.0) in (
      (λ b h.
          let v = c.items.invariant.0 b h in
          let moves : move c.in-Item.op c.items.place c.items.machine.state ≡ Ok c.step.new.self.state = rw c.items.invariant.2.1 at c.in_default.ensures.ok in
          let line = rw (c.event_of-event.ensures, c.of_ref-row.ensures, c.of-before.ensures) at c.in_ok-write_step-in-Item.ensures in
          let imports = rw (c.event_of-event.ensures, c.of_ref-row.ensures, c.of-before.ensures) at c.over-course.ensures.imports in
          let calls = rw (c.event_of-event.ensures, c.of_ref-row.ensures, c.of-before.ensures) at c.over-course.ensures.calls in
          let naming = rw c.of_ref-row.ensures at c.over-course.ensures.naming in
          let m = moved _ _ _ _ _ _ _ _ c.in-Item.op _ _ _ c.over-course.result v.1 (rw v.0 at n.0) moves line imports calls naming c.over-course.ensures.left in
          let miss : ends_reading c.args.many c.in-Item.op.opcode ≡ false = sym (rw c.opcode.ensures at c.ends_reading.ensures) ∙ c.if-ends_reading.false in
          let out : (is_stop c.in-Item.op.opcode && nat_lt 0 c.over-course.result.left) ≡ false = sym (rw c.opcode-in-Item.ensures at c.leaves_frame.ensures) ∙ c.if-leaves_frame.false in
          let stop : c.is_stop-stop.result ≡ is_stop c.in-Item.op.opcode = c.is_stop-stop.ensures ∙ ap is_stop c.opcode-in-Item-2.ensures in
          rw (n.1, v.0, c.size.ensures, stop) (refl, goes_on _ _ _ _ _ _ _ c.in-Item.op _ _ m miss out)),
      omega (arith, c.items.invariant.1, less),
      (c.in_default.ensures.rest ∙ ap (λ (l : List ℕ). drop (size_of c.in-Item.op) l) c.items.invariant.2.0 ∙ sym (ap (λ (u : Unread). u.rest) n.1), c.in_default.ensures.place ∙ ap (λ (k : ℕ). k + 1) c.items.invariant.2.1),
    )
