use Rattle.std.proofs.Common.{refl, ◌≡◌, ◌<◌, ◌==◌, ◌||◌, ℕ, drop, length, None, Some, sym, ap, ◌∙◌, arith}
use Rattle.std.specs.Prelude.{not}
use Rattle.pickle_ops.specs.Spelling.{size_of}
use Rattle.pickle_doc.specs.Tail.{HasTailFault}
use Rattle.pickle_doc.specs.Fitting.{left_behind}
use Rattle.pickle_doc.specs.DocUnit.{is_stop}
use Rattle.pickle_doc.specs.Unread.{IsNextItem, Unread}
use Rattle.pickle_ops.specs.Row.{row_of, kind_of}
use Rattle.pickle_machine.specs.Move.{refusal_of}
use Rattle.pickle_machine.specs.Outline.{sample, plain}
use Rattle.pickle_list.proofs.Listed.{place_small, with_line, line_breaks, line_stops, closes_ok, closes_err, refused_closes, fault_closes, moved, goes_on, stop_breaks, next_pickle, stop_closes, bounds}
use Rattle.pickle_text.proofs.Parts.{shorter}
use Rattle.pickle_list.proofs.Cuts.{cut_failed, cut_memory}
use Rattle.pickle_list.proofs.list.list_part.Goals as goal

pub items-init : goal.items-init
items-init g c = ((λ b h. (h.0, h.1)), omega arith)

pub overflow_add-end : goal.overflow_add-end
overflow_add-end g c = omega (arith, place_small _ _ _ _ _ _ _ _ _ _ c.requires.1.1, c.requires.1.2)

pub returns-in-Tail-clause-ok : goal.returns-in-Tail-clause-ok
returns-in-Tail-clause-ok g c b h =
    let v = c.items.invariant.0 b h in
    let f : HasTailFault (g.I.ItemSource.unread c.items.reader).loose (g.I.ItemSource.unread c.items.reader).left (g.I.ItemSource.unread c.items.reader).rest c.in-Tail.fault × (g.I.ItemSource.unread c.next.new.self ≡ g.I.ItemSource.unread c.items.reader) = rw c.in-Tail.is at c.next.ensures in
    closes_ok _ _ _ _ _ _ _ _ _ (fault_closes _ _ _ _ _ _ _ _ _ _ c.in-Tail.fault v.1 (rw v.0 at f.0)) (rw (c.number-at.ensures.value, c.get.ensures) at c.write_fault_end.ensures) c.answer.ensures

pub returns-in-Tail-clause-err : goal.returns-in-Tail-clause-err
returns-in-Tail-clause-err g c b h =
    let v = c.items.invariant.0 b h in
    let f : HasTailFault (g.I.ItemSource.unread c.items.reader).loose (g.I.ItemSource.unread c.items.reader).left (g.I.ItemSource.unread c.items.reader).rest c.in-Tail.fault × (g.I.ItemSource.unread c.next.new.self ≡ g.I.ItemSource.unread c.items.reader) = rw c.in-Tail.is at c.next.ensures in
    closes_err _ _ _ _ _ _ _ _ (fault_closes _ _ _ _ _ _ _ _ _ _ c.in-Tail.fault v.1 (rw v.0 at f.0)) (rw (c.number-at.ensures.value, c.get.ensures) at c.write_fault_end.ensures) c.answer.ensures

pub write_refused_item-requires : goal.write_refused_item-requires
write_refused_item-requires g c =
    let h = c.requires.1 in
    let v = c.items.invariant.0 c.requires.0 h in
    let n : IsNextItem (g.I.ItemSource.unread c.items.reader).loose (g.I.ItemSource.unread c.items.reader).left (g.I.ItemSource.unread c.items.reader).rest c.in-Item.op (size_of c.in-Item.op)
    × (g.I.ItemSource.unread c.next.new.self ≡ record { loose = (g.I.ItemSource.unread c.items.reader).loose; rest = drop (size_of c.in-Item.op) (g.I.ItemSource.unread c.items.reader).rest; left = left_behind (g.I.ItemSource.unread c.items.reader).loose (g.I.ItemSource.unread c.items.reader).left c.in-Item.op }) = rw c.in-Item.is at c.next.ensures in
    let b = bounds _ _ _ _ _ _ _ c.in-Item.op _ _ _ v.1 (rw v.0 at n.0) in
    omega (arith, c.marks_len-marks.ensures, b.marks, b.place, h.2)

pub returns-in-Some-clause-ok : goal.returns-in-Some-clause-ok
returns-in-Some-clause-ok g c b h =
    let v = c.items.invariant.0 b h in
    let n : IsNextItem (g.I.ItemSource.unread c.items.reader).loose (g.I.ItemSource.unread c.items.reader).left (g.I.ItemSource.unread c.items.reader).rest c.in-Item.op (size_of c.in-Item.op)
    × (g.I.ItemSource.unread c.next.new.self ≡ record { loose = (g.I.ItemSource.unread c.items.reader).loose; rest = drop (size_of c.in-Item.op) (g.I.ItemSource.unread c.items.reader).rest; left = left_behind (g.I.ItemSource.unread c.items.reader).loose (g.I.ItemSource.unread c.items.reader).left c.in-Item.op }) = rw c.in-Item.is at c.next.ensures in
    let some : refusal_of (row_of c.in-Item.op) c.items.lean ≡ Some c.in-Some.refusal = rw c.of_ref-row.ensures at (sym c.in-Some.ensures.first) in
    closes_ok _ _ _ _ _ _ _ _ _ (refused_closes _ _ _ _ _ _ _ c.in-Item.op _ _ _ c.in-Some.refusal v.1 (rw v.0 at n.0) some) (rw (c.again.ensures, c.marks_len-marks.ensures, c.get-most.ensures, c.raise.ensures, c.protocol.ensures, c.opcode.ensures) at c.write_refused_item.ensures) c.answer-in-Some.ensures

pub returns-in-Some-clause-err : goal.returns-in-Some-clause-err
returns-in-Some-clause-err g c b h =
    let v = c.items.invariant.0 b h in
    let n : IsNextItem (g.I.ItemSource.unread c.items.reader).loose (g.I.ItemSource.unread c.items.reader).left (g.I.ItemSource.unread c.items.reader).rest c.in-Item.op (size_of c.in-Item.op)
    × (g.I.ItemSource.unread c.next.new.self ≡ record { loose = (g.I.ItemSource.unread c.items.reader).loose; rest = drop (size_of c.in-Item.op) (g.I.ItemSource.unread c.items.reader).rest; left = left_behind (g.I.ItemSource.unread c.items.reader).loose (g.I.ItemSource.unread c.items.reader).left c.in-Item.op }) = rw c.in-Item.is at c.next.ensures in
    let some : refusal_of (row_of c.in-Item.op) c.items.lean ≡ Some c.in-Some.refusal = rw c.of_ref-row.ensures at (sym c.in-Some.ensures.first) in
    closes_err _ _ _ _ _ _ _ _ (refused_closes _ _ _ _ _ _ _ c.in-Item.op _ _ _ c.in-Some.refusal v.1 (rw v.0 at n.0) some) (rw (c.again.ensures, c.marks_len-marks.ensures, c.get-most.ensures, c.raise.ensures, c.protocol.ensures, c.opcode.ensures) at c.write_refused_item.ensures) c.answer-in-Some.ensures

pub write_item-requires-clause-marks : goal.write_item-requires-clause-marks
write_item-requires-clause-marks g c =
    let h = c.requires.1 in
    let v = c.items.invariant.0 c.requires.0 h in
    let n : IsNextItem (g.I.ItemSource.unread c.items.reader).loose (g.I.ItemSource.unread c.items.reader).left (g.I.ItemSource.unread c.items.reader).rest c.in-Item.op (size_of c.in-Item.op)
    × (g.I.ItemSource.unread c.next.new.self ≡ record { loose = (g.I.ItemSource.unread c.items.reader).loose; rest = drop (size_of c.in-Item.op) (g.I.ItemSource.unread c.items.reader).rest; left = left_behind (g.I.ItemSource.unread c.items.reader).loose (g.I.ItemSource.unread c.items.reader).left c.in-Item.op }) = rw c.in-Item.is at c.next.ensures in
    let b = bounds _ _ _ _ _ _ _ c.in-Item.op _ _ _ v.1 (rw v.0 at n.0) in
    omega (arith, b.marks, b.place, h.2)

pub returns-in_err-write_item-in-Item-clause-err : goal.returns-in_err-write_item-in-Item-clause-err
returns-in_err-write_item-in-Item-clause-err g c b h =
    let v = c.items.invariant.0 b h in
    let n : IsNextItem (g.I.ItemSource.unread c.items.reader).loose (g.I.ItemSource.unread c.items.reader).left (g.I.ItemSource.unread c.items.reader).rest c.in-Item.op (size_of c.in-Item.op)
    × (g.I.ItemSource.unread c.next.new.self ≡ record { loose = (g.I.ItemSource.unread c.items.reader).loose; rest = drop (size_of c.in-Item.op) (g.I.ItemSource.unread c.items.reader).rest; left = left_behind (g.I.ItemSource.unread c.items.reader).loose (g.I.ItemSource.unread c.items.reader).left c.in-Item.op }) = rw c.in-Item.is at c.next.ensures in
    let none : refusal_of (row_of c.in-Item.op) c.items.lean ≡ None = rw c.of_ref-row.ensures at (sym c.in_default.ensures.first) in
    cut_failed _ _ _ _ _ c.from_residual.ensures.1 (line_breaks _ _ _ _ _ _ _ _ c.in-Item.op _ _ _ v.1 (rw v.0 at n.0) none c.in_err-write_item-in-Item.ensures)

pub perform-requires-clause-heap : goal.perform-requires-clause-heap
perform-requires-clause-heap g c =
    let h = c.requires.1 in
    let v = c.items.invariant.0 c.requires.0 h in
    let n : IsNextItem (g.I.ItemSource.unread c.items.reader).loose (g.I.ItemSource.unread c.items.reader).left (g.I.ItemSource.unread c.items.reader).rest c.in-Item.op (size_of c.in-Item.op)
    × (g.I.ItemSource.unread c.next.new.self ≡ record { loose = (g.I.ItemSource.unread c.items.reader).loose; rest = drop (size_of c.in-Item.op) (g.I.ItemSource.unread c.items.reader).rest; left = left_behind (g.I.ItemSource.unread c.items.reader).loose (g.I.ItemSource.unread c.items.reader).left c.in-Item.op }) = rw c.in-Item.is at c.next.ensures in
    let b = bounds _ _ _ _ _ _ _ c.in-Item.op _ _ _ v.1 (rw v.0 at n.0) in
    omega (arith, b.heap, b.place, h.2)

pub returns-in_err-perform-in-Item-clause-err : goal.returns-in_err-perform-in-Item-clause-err
returns-in_err-perform-in-Item-clause-err g c b h =
    let v = c.items.invariant.0 b h in
    let n : IsNextItem (g.I.ItemSource.unread c.items.reader).loose (g.I.ItemSource.unread c.items.reader).left (g.I.ItemSource.unread c.items.reader).rest c.in-Item.op (size_of c.in-Item.op)
    × (g.I.ItemSource.unread c.next.new.self ≡ record { loose = (g.I.ItemSource.unread c.items.reader).loose; rest = drop (size_of c.in-Item.op) (g.I.ItemSource.unread c.items.reader).rest; left = left_behind (g.I.ItemSource.unread c.items.reader).loose (g.I.ItemSource.unread c.items.reader).left c.in-Item.op }) = rw c.in-Item.is at c.next.ensures in
    let none : refusal_of (row_of c.in-Item.op) c.items.lean ≡ None = rw c.of_ref-row.ensures at (sym c.in_default.ensures.first) in
    let w = with_line _ _ _ _ _ _ _ _ c.in-Item.op _ _ _ v.1 (rw v.0 at n.0) none c.in_ok-write_item-in-Item.ensures in
    cut_memory _ _ _ _ _ c.from_residual-in_err-perform-in-Item.ensures.1 (line_stops _ _ _ _ _ _ _ c.in-Item.op _ _ _ w)

pub overflow_add-place : goal.overflow_add-place
overflow_add-place g c =
    let h = c.requires.1 in
    let v = c.items.invariant.0 c.requires.0 h in
    let n : IsNextItem (g.I.ItemSource.unread c.items.reader).loose (g.I.ItemSource.unread c.items.reader).left (g.I.ItemSource.unread c.items.reader).rest c.in-Item.op (size_of c.in-Item.op)
    × (g.I.ItemSource.unread c.next.new.self ≡ record { loose = (g.I.ItemSource.unread c.items.reader).loose; rest = drop (size_of c.in-Item.op) (g.I.ItemSource.unread c.items.reader).rest; left = left_behind (g.I.ItemSource.unread c.items.reader).loose (g.I.ItemSource.unread c.items.reader).left c.in-Item.op }) = rw c.in-Item.is at c.next.ensures in
    let b = bounds _ _ _ _ _ _ _ c.in-Item.op _ _ _ v.1 (rw v.0 at n.0) in
    omega (arith, b.place, h.2)

pub advance-requires : goal.advance-requires
advance-requires g c =
    let h = c.requires.1 in
    let v = c.items.invariant.0 c.requires.0 h in
    let n : IsNextItem (g.I.ItemSource.unread c.items.reader).loose (g.I.ItemSource.unread c.items.reader).left (g.I.ItemSource.unread c.items.reader).rest c.in-Item.op (size_of c.in-Item.op)
    × (g.I.ItemSource.unread c.next.new.self ≡ record { loose = (g.I.ItemSource.unread c.items.reader).loose; rest = drop (size_of c.in-Item.op) (g.I.ItemSource.unread c.items.reader).rest; left = left_behind (g.I.ItemSource.unread c.items.reader).loose (g.I.ItemSource.unread c.items.reader).left c.in-Item.op }) = rw c.in-Item.is at c.next.ensures in
    let b = bounds _ _ _ _ _ _ _ c.in-Item.op _ _ _ v.1 (rw v.0 at n.0) in
    omega (arith, b.behind, c.size.ensures, h.2)

pub returns-in_err-end_pickle-in-Item-clause-err : goal.returns-in_err-end_pickle-in-Item-clause-err
returns-in_err-end_pickle-in-Item-clause-err g c b h =
    let v = c.items.invariant.0 b h in
    let n : IsNextItem (g.I.ItemSource.unread c.items.reader).loose (g.I.ItemSource.unread c.items.reader).left (g.I.ItemSource.unread c.items.reader).rest c.in-Item.op (size_of c.in-Item.op)
    × (g.I.ItemSource.unread c.next.new.self ≡ record { loose = (g.I.ItemSource.unread c.items.reader).loose; rest = drop (size_of c.in-Item.op) (g.I.ItemSource.unread c.items.reader).rest; left = left_behind (g.I.ItemSource.unread c.items.reader).loose (g.I.ItemSource.unread c.items.reader).left c.in-Item.op }) = rw c.in-Item.is at c.next.ensures in
    let none : refusal_of (row_of c.in-Item.op) c.items.lean ≡ None = rw c.of_ref-row.ensures at (sym c.in_default.ensures.first) in
    let w = with_line _ _ _ _ _ _ _ _ c.in-Item.op _ _ _ v.1 (rw v.0 at n.0) none c.in_ok-write_item-in-Item.ensures in
    let kind : sample c.of-class.result ≡ plain (kind_of c.in-Item.op) = ap sample (rw c.opcode-in-Item-2.ensures at (c.of-class.ensures c.in-Item.op.arg)) in
    let next = rw c.of_ref-row.ensures at c.in_ok-perform-in-Item.ensures.moved in
    let m = moved _ _ _ _ _ _ _ c.in-Item.op _ _ _ _ _ _ w none kind next c.in_ok-perform-in-Item.ensures.marks in
    let stop : is_stop c.in-Item.op.opcode ≡ c.is_stop.result = sym (c.is_stop.ensures ∙ ap is_stop c.opcode-in-Item-3.ensures) in
    let hit = stop ∙ c.if-is_stop.true in
    cut_failed _ _ _ _ _ c.from_residual-in_err-end_pickle-in-Item.ensures.1 (stop_breaks _ _ _ _ _ _ _ _ c.in-Item.op _ _ _ m hit c.in_err-end_pickle-in-Item.ensures.text)

pub returns-then-is_last-clause-ok : goal.returns-then-is_last-clause-ok
returns-then-is_last-clause-ok g c b h =
    let v = c.items.invariant.0 b h in
    let n : IsNextItem (g.I.ItemSource.unread c.items.reader).loose (g.I.ItemSource.unread c.items.reader).left (g.I.ItemSource.unread c.items.reader).rest c.in-Item.op (size_of c.in-Item.op)
    × (g.I.ItemSource.unread c.next.new.self ≡ record { loose = (g.I.ItemSource.unread c.items.reader).loose; rest = drop (size_of c.in-Item.op) (g.I.ItemSource.unread c.items.reader).rest; left = left_behind (g.I.ItemSource.unread c.items.reader).loose (g.I.ItemSource.unread c.items.reader).left c.in-Item.op }) = rw c.in-Item.is at c.next.ensures in
    let none : refusal_of (row_of c.in-Item.op) c.items.lean ≡ None = rw c.of_ref-row.ensures at (sym c.in_default.ensures.first) in
    let w = with_line _ _ _ _ _ _ _ _ c.in-Item.op _ _ _ v.1 (rw v.0 at n.0) none c.in_ok-write_item-in-Item.ensures in
    let kind : sample c.of-class.result ≡ plain (kind_of c.in-Item.op) = ap sample (rw c.opcode-in-Item-2.ensures at (c.of-class.ensures c.in-Item.op.arg)) in
    let next = rw c.of_ref-row.ensures at c.in_ok-perform-in-Item.ensures.moved in
    let m = moved _ _ _ _ _ _ _ c.in-Item.op _ _ _ _ _ _ w none kind next c.in_ok-perform-in-Item.ensures.marks in
    let stop : is_stop c.in-Item.op.opcode ≡ c.is_stop.result = sym (c.is_stop.ensures ∙ ap is_stop c.opcode-in-Item-3.ensures) in
    let hit = stop ∙ c.if-is_stop.true in
    let kept : c.unread_len-kept.result ≡ length (drop (size_of c.in-Item.op) (g.I.ItemSource.unread c.items.reader).rest) = c.unread_len-kept.ensures ∙ ap (λ (u : Unread). length u.rest) n.1 in
    let last : (not c.args.many || length (drop (size_of c.in-Item.op) (g.I.ItemSource.unread c.items.reader).rest) == 0) ≡ c.is_last.result = sym (c.is_last.ensures ∙ ap (λ (n : ℕ). not c.args.many || n == 0) kept) in
    closes_ok _ _ _ _ _ _ _ _ _ (stop_closes _ _ _ _ _ _ _ _ c.in-Item.op _ _ _ m hit (last ∙ c.if-is_last.true) c.in_ok-end_pickle-in-Item.ensures.text) (rw (kept, c.get-then-is_last.ensures, c.raise-in-Item.ensures, c.protocol-in-Item.ensures, c.opcode-in-Item.ensures) at c.write_last_end.ensures) c.answer-then-is_last.ensures

pub returns-then-is_last-clause-err : goal.returns-then-is_last-clause-err
returns-then-is_last-clause-err g c b h =
    let v = c.items.invariant.0 b h in
    let n : IsNextItem (g.I.ItemSource.unread c.items.reader).loose (g.I.ItemSource.unread c.items.reader).left (g.I.ItemSource.unread c.items.reader).rest c.in-Item.op (size_of c.in-Item.op)
    × (g.I.ItemSource.unread c.next.new.self ≡ record { loose = (g.I.ItemSource.unread c.items.reader).loose; rest = drop (size_of c.in-Item.op) (g.I.ItemSource.unread c.items.reader).rest; left = left_behind (g.I.ItemSource.unread c.items.reader).loose (g.I.ItemSource.unread c.items.reader).left c.in-Item.op }) = rw c.in-Item.is at c.next.ensures in
    let none : refusal_of (row_of c.in-Item.op) c.items.lean ≡ None = rw c.of_ref-row.ensures at (sym c.in_default.ensures.first) in
    let w = with_line _ _ _ _ _ _ _ _ c.in-Item.op _ _ _ v.1 (rw v.0 at n.0) none c.in_ok-write_item-in-Item.ensures in
    let kind : sample c.of-class.result ≡ plain (kind_of c.in-Item.op) = ap sample (rw c.opcode-in-Item-2.ensures at (c.of-class.ensures c.in-Item.op.arg)) in
    let next = rw c.of_ref-row.ensures at c.in_ok-perform-in-Item.ensures.moved in
    let m = moved _ _ _ _ _ _ _ c.in-Item.op _ _ _ _ _ _ w none kind next c.in_ok-perform-in-Item.ensures.marks in
    let stop : is_stop c.in-Item.op.opcode ≡ c.is_stop.result = sym (c.is_stop.ensures ∙ ap is_stop c.opcode-in-Item-3.ensures) in
    let hit = stop ∙ c.if-is_stop.true in
    let kept : c.unread_len-kept.result ≡ length (drop (size_of c.in-Item.op) (g.I.ItemSource.unread c.items.reader).rest) = c.unread_len-kept.ensures ∙ ap (λ (u : Unread). length u.rest) n.1 in
    let last : (not c.args.many || length (drop (size_of c.in-Item.op) (g.I.ItemSource.unread c.items.reader).rest) == 0) ≡ c.is_last.result = sym (c.is_last.ensures ∙ ap (λ (n : ℕ). not c.args.many || n == 0) kept) in
    closes_err _ _ _ _ _ _ _ _ (stop_closes _ _ _ _ _ _ _ _ c.in-Item.op _ _ _ m hit (last ∙ c.if-is_last.true) c.in_ok-end_pickle-in-Item.ensures.text) (rw (kept, c.get-then-is_last.ensures, c.raise-in-Item.ensures, c.protocol-in-Item.ensures, c.opcode-in-Item.ensures) at c.write_last_end.ensures) c.answer-then-is_last.ensures

pub items-preserved-then-is_stop : goal.items-preserved-then-is_stop
items-preserved-then-is_stop g c =
    let n : IsNextItem (g.I.ItemSource.unread c.items.reader).loose (g.I.ItemSource.unread c.items.reader).left (g.I.ItemSource.unread c.items.reader).rest c.in-Item.op (size_of c.in-Item.op)
    × (g.I.ItemSource.unread c.next.new.self ≡ record { loose = (g.I.ItemSource.unread c.items.reader).loose; rest = drop (size_of c.in-Item.op) (g.I.ItemSource.unread c.items.reader).rest; left = left_behind (g.I.ItemSource.unread c.items.reader).loose (g.I.ItemSource.unread c.items.reader).left c.in-Item.op }) = rw c.in-Item.is at c.next.ensures in
    let less : length (g.I.ItemSource.unread c.next.new.self).rest < length (g.I.ItemSource.unread c.items.reader).rest = rw n.1 (shorter _ _ _ c.in-Item.op n.0) in (
      (λ b h.
          let v = c.items.invariant.0 b h in
          let none : refusal_of (row_of c.in-Item.op) c.items.lean ≡ None = rw c.of_ref-row.ensures at (sym c.in_default.ensures.first) in
          let w = with_line _ _ _ _ _ _ _ _ c.in-Item.op _ _ _ v.1 (rw v.0 at n.0) none c.in_ok-write_item-in-Item.ensures in
          let kind : sample c.of-class.result ≡ plain (kind_of c.in-Item.op) = ap sample (rw c.opcode-in-Item-2.ensures at (c.of-class.ensures c.in-Item.op.arg)) in
          let next = rw c.of_ref-row.ensures at c.in_ok-perform-in-Item.ensures.moved in
          let m = moved _ _ _ _ _ _ _ c.in-Item.op _ _ _ _ _ _ w none kind next c.in_ok-perform-in-Item.ensures.marks in
          let stop : is_stop c.in-Item.op.opcode ≡ c.is_stop.result = sym (c.is_stop.ensures ∙ ap is_stop c.opcode-in-Item-3.ensures) in
          let hit = stop ∙ c.if-is_stop.true in
          let kept : c.unread_len-kept.result ≡ length (drop (size_of c.in-Item.op) (g.I.ItemSource.unread c.items.reader).rest) = c.unread_len-kept.ensures ∙ ap (λ (u : Unread). length u.rest) n.1 in
          let last : (not c.args.many || length (drop (size_of c.in-Item.op) (g.I.ItemSource.unread c.items.reader).rest) == 0) ≡ c.is_last.result = sym (c.is_last.ensures ∙ ap (λ (n : ℕ). not c.args.many || n == 0) kept) in
          rw (n.1, v.0, c.advance.ensures, c.size.ensures, c.raise-in-Item.ensures, c.protocol-in-Item.ensures, c.opcode-in-Item.ensures)
          (refl, next_pickle _ _ _ _ _ _ _ _ c.in-Item.op _ _ _ _ _ m hit (last ∙ c.if-is_last.false) c.in_ok-end_pickle-in-Item.ensures.text c.in_ok-end_pickle-in-Item.ensures.fresh c.in_ok-end_pickle-in-Item.ensures.marks)),
      omega (arith, c.items.invariant.1, less),
    )

pub advance-requires-in-Item : goal.advance-requires-in-Item
advance-requires-in-Item g c =
    let h = c.requires.1 in
    let v = c.items.invariant.0 c.requires.0 h in
    let n : IsNextItem (g.I.ItemSource.unread c.items.reader).loose (g.I.ItemSource.unread c.items.reader).left (g.I.ItemSource.unread c.items.reader).rest c.in-Item.op (size_of c.in-Item.op)
    × (g.I.ItemSource.unread c.next.new.self ≡ record { loose = (g.I.ItemSource.unread c.items.reader).loose; rest = drop (size_of c.in-Item.op) (g.I.ItemSource.unread c.items.reader).rest; left = left_behind (g.I.ItemSource.unread c.items.reader).loose (g.I.ItemSource.unread c.items.reader).left c.in-Item.op }) = rw c.in-Item.is at c.next.ensures in
    let b = bounds _ _ _ _ _ _ _ c.in-Item.op _ _ _ v.1 (rw v.0 at n.0) in
    omega (arith, b.behind, c.size-in-Item.ensures, h.2)

pub items-preserved : goal.items-preserved
items-preserved g c =
    let n : IsNextItem (g.I.ItemSource.unread c.items.reader).loose (g.I.ItemSource.unread c.items.reader).left (g.I.ItemSource.unread c.items.reader).rest c.in-Item.op (size_of c.in-Item.op)
    × (g.I.ItemSource.unread c.next.new.self ≡ record { loose = (g.I.ItemSource.unread c.items.reader).loose; rest = drop (size_of c.in-Item.op) (g.I.ItemSource.unread c.items.reader).rest; left = left_behind (g.I.ItemSource.unread c.items.reader).loose (g.I.ItemSource.unread c.items.reader).left c.in-Item.op }) = rw c.in-Item.is at c.next.ensures in
    let less : length (g.I.ItemSource.unread c.next.new.self).rest < length (g.I.ItemSource.unread c.items.reader).rest = rw n.1 (shorter _ _ _ c.in-Item.op n.0) in (
      (λ b h.
          let v = c.items.invariant.0 b h in
          let none : refusal_of (row_of c.in-Item.op) c.items.lean ≡ None = rw c.of_ref-row.ensures at (sym c.in_default.ensures.first) in
          let w = with_line _ _ _ _ _ _ _ _ c.in-Item.op _ _ _ v.1 (rw v.0 at n.0) none c.in_ok-write_item-in-Item.ensures in
          let kind : sample c.of-class.result ≡ plain (kind_of c.in-Item.op) = ap sample (rw c.opcode-in-Item-2.ensures at (c.of-class.ensures c.in-Item.op.arg)) in
          let next = rw c.of_ref-row.ensures at c.in_ok-perform-in-Item.ensures.moved in
          let m = moved _ _ _ _ _ _ _ c.in-Item.op _ _ _ _ _ _ w none kind next c.in_ok-perform-in-Item.ensures.marks in
          let stop : is_stop c.in-Item.op.opcode ≡ c.is_stop.result = sym (c.is_stop.ensures ∙ ap is_stop c.opcode-in-Item-3.ensures) in
          let miss = stop ∙ c.if-is_stop.false in
          rw (n.1, v.0, c.advance-in-Item.ensures, c.size-in-Item.ensures, c.raise-in-Item.ensures, c.protocol-in-Item.ensures, c.opcode-in-Item.ensures) (refl, goes_on _ _ _ _ _ _ _ c.in-Item.op _ _ _ m miss)),
      omega (arith, c.items.invariant.1, less),
    )

pub returns-then-place-end-clause-ok : goal.returns-then-place-end-clause-ok
returns-then-place-end-clause-ok g c b h =
    let v = c.items.invariant.0 b h in
    let n : IsNextItem (g.I.ItemSource.unread c.items.reader).loose (g.I.ItemSource.unread c.items.reader).left (g.I.ItemSource.unread c.items.reader).rest c.in-Item.op (size_of c.in-Item.op)
    × (g.I.ItemSource.unread c.next.new.self ≡ record { loose = (g.I.ItemSource.unread c.items.reader).loose; rest = drop (size_of c.in-Item.op) (g.I.ItemSource.unread c.items.reader).rest; left = left_behind (g.I.ItemSource.unread c.items.reader).loose (g.I.ItemSource.unread c.items.reader).left c.in-Item.op }) = rw c.in-Item.is at c.next.ensures in
    let none : refusal_of (row_of c.in-Item.op) c.items.lean ≡ None = rw c.of_ref-row.ensures at (sym c.in_default.ensures.first) in
    let w = with_line _ _ _ _ _ _ _ _ c.in-Item.op _ _ _ v.1 (rw v.0 at n.0) none c.in_ok-write_item-in-Item.ensures in
    let kind : sample c.of-class.result ≡ plain (kind_of c.in-Item.op) = ap sample (rw c.opcode-in-Item-2.ensures at (c.of-class.ensures c.in-Item.op.arg)) in
    let next = rw c.of_ref-row.ensures at c.in_ok-perform-in-Item.ensures.moved in
    let m = moved _ _ _ _ _ _ _ c.in-Item.op _ _ _ _ _ _ w none kind next c.in_ok-perform-in-Item.ensures.marks in
    let stop : is_stop c.in-Item.op.opcode ≡ c.is_stop.result = sym (c.is_stop.ensures ∙ ap is_stop c.opcode-in-Item-3.ensures) in
    let miss = stop ∙ c.if-is_stop.false in
    rw (n.1, v.0, c.advance-in-Item.ensures, c.size-in-Item.ensures, c.raise-in-Item.ensures, c.protocol-in-Item.ensures, c.opcode-in-Item.ensures) (refl, goes_on _ _ _ _ _ _ _ c.in-Item.op _ _ _ m miss, h.2)
