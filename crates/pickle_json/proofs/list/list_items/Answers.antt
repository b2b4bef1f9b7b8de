-- An item after another, or an end.
use Rattle.std.proofs.Common.{◌≡◌, ◌∙◌, ◌==◌, ◌||◌, ℕ, List, length, drop, None, Some, refl, sym, ap, arith}
use Rattle.std.specs.Prelude.{not}
use Rattle.pickle_ops.specs.Spelling.{size_of}
use Rattle.pickle_ops.specs.Row.{row_of, kind_of}
use Rattle.pickle_doc.specs.DocUnit.{is_stop}
use Rattle.pickle_machine.specs.Move.{refusal_of}
use Rattle.pickle_machine.specs.Outline.{sample, plain}
use Rattle.pickle_json.proofs.Listed.{listed_none, with_line, line_breaks, line_stops, closes_ok, closes_err, refused_closes, fault_closes, moved, goes_on, stop_breaks, next_pickle, stop_closes, bounds}
use Rattle.pickle_json.proofs.Steps.{next_is, tail_is}
use Rattle.pickle_json.proofs.Cuts.{cut_failed, cut_memory}
use Rattle.pickle_json.proofs.list.list_items.Goals as goal

pub items-init : goal.items-init
items-init g c = record {
  loose = refl;
  listed = rw (c.requires.first, c.new-lean.ensures, c.new-opened.ensures.items) (listed_none _ _ _ c.requires.document c.requires.small);
}

pub returns-in-Tail-clause-ok : goal.returns-in-Tail-clause-ok
returns-in-Tail-clause-ok g c =
    let f = tail_is _ _ _ _ c.in-Tail.fault c.next.ensures c.in-Tail.is c.items.invariant.loose in
    closes_ok _ _ _ _ _ _ _ _ (fault_closes _ _ _ _ _ _ _ _ _ _ c.in-Tail.fault c.items.invariant.listed f) c.write_fault_end.ensures c.answer.ensures

pub returns-in-Tail-clause-err : goal.returns-in-Tail-clause-err
returns-in-Tail-clause-err g c =
    let f = tail_is _ _ _ _ c.in-Tail.fault c.next.ensures c.in-Tail.is c.items.invariant.loose in
    closes_err _ _ _ _ _ _ _ _ (fault_closes _ _ _ _ _ _ _ _ _ _ c.in-Tail.fault c.items.invariant.listed f) c.write_fault_end.ensures c.answer.ensures

pub returns-in-Some-clause-ok : goal.returns-in-Some-clause-ok
returns-in-Some-clause-ok g c =
    let v = c.items.invariant in
    let n = next_is _ _ _ _ c.in-Item.op c.next.ensures c.in-Item.is v.loose in
    let some : refusal_of (row_of c.in-Item.op) c.items.lean ≡ Some c.in-Some.refusal = rw c.of_ref-row.ensures at (sym c.in-Some.ensures.first) in
    closes_ok _ _ _ _ _ _ _ _ (refused_closes _ _ _ _ _ _ _ c.in-Item.op _ _ _ c.in-Some.refusal v.listed n.item some)
    (rw (c.marks_len-marks.ensures, c.raise-highest.ensures, c.protocol.ensures, c.opcode.ensures) at c.write_refused_item.ensures) c.answer-in-Some.ensures

pub returns-in-Some-clause-err : goal.returns-in-Some-clause-err
returns-in-Some-clause-err g c =
    let v = c.items.invariant in
    let n = next_is _ _ _ _ c.in-Item.op c.next.ensures c.in-Item.is v.loose in
    let some : refusal_of (row_of c.in-Item.op) c.items.lean ≡ Some c.in-Some.refusal = rw c.of_ref-row.ensures at (sym c.in-Some.ensures.first) in
    closes_err _ _ _ _ _ _ _ _ (refused_closes _ _ _ _ _ _ _ c.in-Item.op _ _ _ c.in-Some.refusal v.listed n.item some)
    (rw (c.marks_len-marks.ensures, c.raise-highest.ensures, c.protocol.ensures, c.opcode.ensures) at c.write_refused_item.ensures) c.answer-in-Some.ensures

pub returns-in_err-write_item-in-Item-clause-err : goal.returns-in_err-write_item-in-Item-clause-err
returns-in_err-write_item-in-Item-clause-err g c =
    let v = c.items.invariant in
    let n = next_is _ _ _ _ c.in-Item.op c.next.ensures c.in-Item.is v.loose in
    let none : refusal_of (row_of c.in-Item.op) c.items.lean ≡ None = rw c.of_ref-row.ensures at (sym c.in_default.ensures.first) in
    cut_failed _ _ _ _ c.from_residual.ensures.1 (line_breaks _ _ _ _ _ _ _ _ c.in-Item.op _ _ _ v.listed n.item none
    (rw (c.marks_len-marks.ensures, c.note_of.ensures) at c.in_err-write_item-in-Item.ensures))

pub perform-requires-clause-heap : goal.perform-requires-clause-heap
perform-requires-clause-heap g c =
    let v = c.items.invariant in
    let n = next_is _ _ _ _ c.in-Item.op c.next.ensures c.in-Item.is v.loose in
    let b = bounds _ _ _ _ _ _ _ c.in-Item.op _ _ _ v.listed n.item in
    omega (arith, b.heap, b.place, c.requires.small)

pub returns-in_err-perform-in-Item-clause-err : goal.returns-in_err-perform-in-Item-clause-err
returns-in_err-perform-in-Item-clause-err g c =
    let v = c.items.invariant in
    let n = next_is _ _ _ _ c.in-Item.op c.next.ensures c.in-Item.is v.loose in
    let none : refusal_of (row_of c.in-Item.op) c.items.lean ≡ None = rw c.of_ref-row.ensures at (sym c.in_default.ensures.first) in
    let w = with_line _ _ _ _ _ _ _ _ c.in-Item.op _ _ _ v.listed n.item none (rw (c.marks_len-marks.ensures, c.note_of.ensures) at c.in_ok-write_item-in-Item.ensures) in
    cut_memory _ _ _ _ c.from_residual-in_err-perform-in-Item.ensures.1 (line_stops _ _ _ _ _ _ _ c.in-Item.op _ _ _ w)

pub overflow_add-place : goal.overflow_add-place
overflow_add-place g c =
    let v = c.items.invariant in
    let n = next_is _ _ _ _ c.in-Item.op c.next.ensures c.in-Item.is v.loose in
    let b = bounds _ _ _ _ _ _ _ c.in-Item.op _ _ _ v.listed n.item in
    omega (arith, b.place, c.requires.small)

pub overflow_add-offset : goal.overflow_add-offset
overflow_add-offset g c =
    let v = c.items.invariant in
    let n = next_is _ _ _ _ c.in-Item.op c.next.ensures c.in-Item.is v.loose in
    let b = bounds _ _ _ _ _ _ _ c.in-Item.op _ _ _ v.listed n.item in
    omega (arith, b.behind, c.size.ensures, c.requires.small)

pub returns-in_err-end_pickle-in-Item-clause-err : goal.returns-in_err-end_pickle-in-Item-clause-err
returns-in_err-end_pickle-in-Item-clause-err g c =
    let v = c.items.invariant in
    let n = next_is _ _ _ _ c.in-Item.op c.next.ensures c.in-Item.is v.loose in
    let none : refusal_of (row_of c.in-Item.op) c.items.lean ≡ None = rw c.of_ref-row.ensures at (sym c.in_default.ensures.first) in
    let w = with_line _ _ _ _ _ _ _ _ c.in-Item.op _ _ _ v.listed n.item none (rw (c.marks_len-marks.ensures, c.note_of.ensures) at c.in_ok-write_item-in-Item.ensures) in
    let kind : sample c.of.result ≡ plain (kind_of c.in-Item.op) = ap sample (rw c.opcode-in-Item.ensures at (c.of.ensures c.in-Item.op.arg)) in
    let next = rw c.of_ref-row.ensures at c.in_ok-perform-in-Item.ensures.moved in
    let m = moved _ _ _ _ _ _ _ c.in-Item.op _ _ _ _ _ _ w none kind next c.in_ok-perform-in-Item.ensures.marks in
    let stop : is_stop c.in-Item.op.opcode ≡ c.is_stop.result = sym (c.is_stop.ensures ∙ ap is_stop c.opcode-in-Item-2.ensures) in
    let hit = stop ∙ c.if-is_stop.true in
    cut_failed _ _ _ _ c.from_residual-in_err-end_pickle-in-Item.ensures.1 (stop_breaks _ _ _ _ _ _ _ _ c.in-Item.op _ _ _ m hit c.in_err-end_pickle-in-Item.ensures.text)

pub returns-then-is_last-clause-ok : goal.returns-then-is_last-clause-ok
returns-then-is_last-clause-ok g c =
    let v = c.items.invariant in
    let n = next_is _ _ _ _ c.in-Item.op c.next.ensures c.in-Item.is v.loose in
    let none : refusal_of (row_of c.in-Item.op) c.items.lean ≡ None = rw c.of_ref-row.ensures at (sym c.in_default.ensures.first) in
    let w = with_line _ _ _ _ _ _ _ _ c.in-Item.op _ _ _ v.listed n.item none (rw (c.marks_len-marks.ensures, c.note_of.ensures) at c.in_ok-write_item-in-Item.ensures) in
    let kind : sample c.of.result ≡ plain (kind_of c.in-Item.op) = ap sample (rw c.opcode-in-Item.ensures at (c.of.ensures c.in-Item.op.arg)) in
    let next = rw c.of_ref-row.ensures at c.in_ok-perform-in-Item.ensures.moved in
    let m = moved _ _ _ _ _ _ _ c.in-Item.op _ _ _ _ _ _ w none kind next c.in_ok-perform-in-Item.ensures.marks in
    let stop : is_stop c.in-Item.op.opcode ≡ c.is_stop.result = sym (c.is_stop.ensures ∙ ap is_stop c.opcode-in-Item-2.ensures) in
    let hit = stop ∙ c.if-is_stop.true in
    let kept : c.unread_len-kept.result ≡ length (drop (size_of c.in-Item.op) (g.I.ItemSource.unread c.items.reader).rest) = c.unread_len-kept.ensures ∙ ap (λ (l : List ℕ). length l) n.rest_is in
    let last : (not c.args.many || length (drop (size_of c.in-Item.op) (g.I.ItemSource.unread c.items.reader).rest) == 0) ≡ c.is_last.result
    = sym (c.is_last.ensures ∙ ap (λ (n : ℕ). not c.args.many || n == 0) kept) in
    closes_ok _ _ _ _ _ _ _ _ (stop_closes _ _ _ _ _ _ _ _ c.in-Item.op _ _ _ m hit (last ∙ c.if-is_last.true) c.in_ok-end_pickle-in-Item.ensures.text)
    (rw (kept, c.raise-highest.ensures, c.protocol.ensures, c.opcode.ensures) at c.write_stopped_end.ensures) c.answer-then-is_last.ensures

pub returns-then-is_last-clause-err : goal.returns-then-is_last-clause-err
returns-then-is_last-clause-err g c =
    let v = c.items.invariant in
    let n = next_is _ _ _ _ c.in-Item.op c.next.ensures c.in-Item.is v.loose in
    let none : refusal_of (row_of c.in-Item.op) c.items.lean ≡ None = rw c.of_ref-row.ensures at (sym c.in_default.ensures.first) in
    let w = with_line _ _ _ _ _ _ _ _ c.in-Item.op _ _ _ v.listed n.item none (rw (c.marks_len-marks.ensures, c.note_of.ensures) at c.in_ok-write_item-in-Item.ensures) in
    let kind : sample c.of.result ≡ plain (kind_of c.in-Item.op) = ap sample (rw c.opcode-in-Item.ensures at (c.of.ensures c.in-Item.op.arg)) in
    let next = rw c.of_ref-row.ensures at c.in_ok-perform-in-Item.ensures.moved in
    let m = moved _ _ _ _ _ _ _ c.in-Item.op _ _ _ _ _ _ w none kind next c.in_ok-perform-in-Item.ensures.marks in
    let stop : is_stop c.in-Item.op.opcode ≡ c.is_stop.result = sym (c.is_stop.ensures ∙ ap is_stop c.opcode-in-Item-2.ensures) in
    let hit = stop ∙ c.if-is_stop.true in
    let kept : c.unread_len-kept.result ≡ length (drop (size_of c.in-Item.op) (g.I.ItemSource.unread c.items.reader).rest) = c.unread_len-kept.ensures ∙ ap (λ (l : List ℕ). length l) n.rest_is in
    let last : (not c.args.many || length (drop (size_of c.in-Item.op) (g.I.ItemSource.unread c.items.reader).rest) == 0) ≡ c.is_last.result
    = sym (c.is_last.ensures ∙ ap (λ (n : ℕ). not c.args.many || n == 0) kept) in
    closes_err _ _ _ _ _ _ _ _ (stop_closes _ _ _ _ _ _ _ _ c.in-Item.op _ _ _ m hit (last ∙ c.if-is_last.true) c.in_ok-end_pickle-in-Item.ensures.text)
    (rw (kept, c.raise-highest.ensures, c.protocol.ensures, c.opcode.ensures) at c.write_stopped_end.ensures) c.answer-then-is_last.ensures

pub items-preserved-then-is_stop : goal.items-preserved-then-is_stop
items-preserved-then-is_stop g c =
    let v = c.items.invariant in
    let n = next_is _ _ _ _ c.in-Item.op c.next.ensures c.in-Item.is v.loose in
    let none : refusal_of (row_of c.in-Item.op) c.items.lean ≡ None = rw c.of_ref-row.ensures at (sym c.in_default.ensures.first) in
    let w = with_line _ _ _ _ _ _ _ _ c.in-Item.op _ _ _ v.listed n.item none (rw (c.marks_len-marks.ensures, c.note_of.ensures) at c.in_ok-write_item-in-Item.ensures) in
    let kind : sample c.of.result ≡ plain (kind_of c.in-Item.op) = ap sample (rw c.opcode-in-Item.ensures at (c.of.ensures c.in-Item.op.arg)) in
    let next = rw c.of_ref-row.ensures at c.in_ok-perform-in-Item.ensures.moved in
    let m = moved _ _ _ _ _ _ _ c.in-Item.op _ _ _ _ _ _ w none kind next c.in_ok-perform-in-Item.ensures.marks in
    let stop : is_stop c.in-Item.op.opcode ≡ c.is_stop.result = sym (c.is_stop.ensures ∙ ap is_stop c.opcode-in-Item-2.ensures) in
    let hit = stop ∙ c.if-is_stop.true in
    let kept : c.unread_len-kept.result ≡ length (drop (size_of c.in-Item.op) (g.I.ItemSource.unread c.items.reader).rest) = c.unread_len-kept.ensures ∙ ap (λ (l : List ℕ). length l) n.rest_is in
    let last : (not c.args.many || length (drop (size_of c.in-Item.op) (g.I.ItemSource.unread c.items.reader).rest) == 0) ≡ c.is_last.result
    = sym (c.is_last.ensures ∙ ap (λ (n : ℕ). not c.args.many || n == 0) kept) in
    record {
      loose = n.loose_is;
      listed = rw (n.rest_is, n.left_is, c.size.ensures, c.raise-highest.ensures, c.protocol.ensures, c.opcode.ensures)
          (next_pickle _ _ _ _ _ _ _ _ c.in-Item.op _ _ _ _ _ m hit (last ∙ c.if-is_last.false) c.in_ok-end_pickle-in-Item.ensures.text c.in_ok-end_pickle-in-Item.ensures.fresh c.in_ok-end_pickle-in-Item.ensures.marks);
    }

pub items-preserved : goal.items-preserved
items-preserved g c =
    let v = c.items.invariant in
    let n = next_is _ _ _ _ c.in-Item.op c.next.ensures c.in-Item.is v.loose in
    let none : refusal_of (row_of c.in-Item.op) c.items.lean ≡ None = rw c.of_ref-row.ensures at (sym c.in_default.ensures.first) in
    let w = with_line _ _ _ _ _ _ _ _ c.in-Item.op _ _ _ v.listed n.item none (rw (c.marks_len-marks.ensures, c.note_of.ensures) at c.in_ok-write_item-in-Item.ensures) in
    let kind : sample c.of.result ≡ plain (kind_of c.in-Item.op) = ap sample (rw c.opcode-in-Item.ensures at (c.of.ensures c.in-Item.op.arg)) in
    let next = rw c.of_ref-row.ensures at c.in_ok-perform-in-Item.ensures.moved in
    let m = moved _ _ _ _ _ _ _ c.in-Item.op _ _ _ _ _ _ w none kind next c.in_ok-perform-in-Item.ensures.marks in
    let stop : is_stop c.in-Item.op.opcode ≡ c.is_stop.result = sym (c.is_stop.ensures ∙ ap is_stop c.opcode-in-Item-2.ensures) in
    let miss = stop ∙ c.if-is_stop.false in
    record {
      loose = n.loose_is;
      listed = rw (n.rest_is, n.left_is, c.size.ensures, c.raise-highest.ensures, c.protocol.ensures, c.opcode.ensures) (goes_on _ _ _ _ _ _ _ c.in-Item.op _ _ _ m miss);
    }
