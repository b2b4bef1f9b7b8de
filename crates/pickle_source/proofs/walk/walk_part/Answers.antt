-- One item more, or an end.
use Rattle.std.proofs.Common.{refl, ◌≡◌, ◌<◌, drop, length, true, false, sym, ap, ◌∙◌, arith, rules}
use Rattle.pickle_ops.specs.Spelling.{size_of}
use Rattle.pickle_doc.specs.DocUnit.{is_stop, ends_reading}
use Rattle.pickle_doc.specs.Tail.{HasTailFault}
use Rattle.pickle_doc.specs.Fitting.{left_behind}
use Rattle.pickle_doc.specs.Unread.{IsNextItem, Unread}
use Rattle.pickle_text.proofs.Parts.{shorter}
use Rattle.pickle_source.proofs.Noting.{place_small, place_within, offset_within, refused_ends, tail_ends, tail_within, moved, goes_on, stop_ends}
use Rattle.pickle_source.proofs.walk.walk_part.Goals as goal

pub items-init : goal.items-init
items-init g c = ((λ b h. (h.0, h.1)), omega arith)

pub overflow_add-end : goal.overflow_add-end
overflow_add-end g c = omega (arith, place_small _ _ _ _ _ _ _ _ _ _ _ c.requires.1.1, c.requires.1.2)

pub overflow_sub-total : goal.overflow_sub-total
overflow_sub-total g c =
    let h = c.requires.1 in
    let v = c.items.invariant.0 c.requires.0 h in
    let f : HasTailFault (g.I.ItemSource.unread c.items.reader).loose (g.I.ItemSource.unread c.items.reader).left (g.I.ItemSource.unread c.items.reader).rest c.in-Tail.fault × (g.I.ItemSource.unread c.next.new.self ≡ g.I.ItemSource.unread c.items.reader) = rw c.in-Tail.is at c.next.ensures in
    let left : c.unread_len-left.result ≡ length (g.I.ItemSource.unread c.items.reader).rest = c.unread_len-left.ensures ∙ ap (λ (u : Unread). length u.rest) f.1 in
    omega (arith, left, h.3, tail_within _ _ _ _ _ _ _ _ _ _ _ c.in-Tail.fault v.1 (rw v.0 at f.0))

pub returns-in-Tail-clause-closes : goal.returns-in-Tail-clause-closes
returns-in-Tail-clause-closes g c b h =
    let v = c.items.invariant.0 b h in
    let f : HasTailFault (g.I.ItemSource.unread c.items.reader).loose (g.I.ItemSource.unread c.items.reader).left (g.I.ItemSource.unread c.items.reader).rest c.in-Tail.fault × (g.I.ItemSource.unread c.next.new.self ≡ g.I.ItemSource.unread c.items.reader) = rw c.in-Tail.is at c.next.ensures in
    let left : c.unread_len-left.result ≡ length (g.I.ItemSource.unread c.items.reader).rest = c.unread_len-left.ensures ∙ ap (λ (u : Unread). length u.rest) f.1 in
    rw (c.closing_at.ensures, left, h.3) (tail_ends _ _ _ _ _ _ _ _ _ _ _ c.in-Tail.fault v.1 (rw v.0 at f.0))

pub of-before-requires : goal.of-before-requires
of-before-requires g c =
    let h = c.requires.1 in
    let v = c.items.invariant.0 c.requires.0 h in
    let n : IsNextItem (g.I.ItemSource.unread c.items.reader).loose (g.I.ItemSource.unread c.items.reader).left (g.I.ItemSource.unread c.items.reader).rest c.in-Item.op (size_of c.in-Item.op)
    × (g.I.ItemSource.unread c.next.new.self ≡ record { loose = (g.I.ItemSource.unread c.items.reader).loose; rest = drop (size_of c.in-Item.op) (g.I.ItemSource.unread c.items.reader).rest; left = left_behind (g.I.ItemSource.unread c.items.reader).loose (g.I.ItemSource.unread c.items.reader).left c.in-Item.op }) = rw c.in-Item.is at c.next.ensures in
    omega (arith, v.1.heap, place_within _ _ _ _ _ _ c.in-Item.op _ _ _ _ _ v.1 (rw v.0 at n.0), h.2)

pub step_over-requires-clause-heap : goal.step_over-requires-clause-heap
step_over-requires-clause-heap g c =
    let h = c.requires.1 in
    let v = c.items.invariant.0 c.requires.0 h in
    let n : IsNextItem (g.I.ItemSource.unread c.items.reader).loose (g.I.ItemSource.unread c.items.reader).left (g.I.ItemSource.unread c.items.reader).rest c.in-Item.op (size_of c.in-Item.op)
    × (g.I.ItemSource.unread c.next.new.self ≡ record { loose = (g.I.ItemSource.unread c.items.reader).loose; rest = drop (size_of c.in-Item.op) (g.I.ItemSource.unread c.items.reader).rest; left = left_behind (g.I.ItemSource.unread c.items.reader).loose (g.I.ItemSource.unread c.items.reader).left c.in-Item.op }) = rw c.in-Item.is at c.next.ensures in
    omega (arith, v.1.heap, place_within _ _ _ _ _ _ c.in-Item.op _ _ _ _ _ v.1 (rw v.0 at n.0), h.2)

pub returns-in-Err-clause-closes : goal.returns-in-Err-clause-closes
returns-in-Err-clause-closes g c b h =
    let v = c.items.invariant.0 b h in
    let n : IsNextItem (g.I.ItemSource.unread c.items.reader).loose (g.I.ItemSource.unread c.items.reader).left (g.I.ItemSource.unread c.items.reader).rest c.in-Item.op (size_of c.in-Item.op)
    × (g.I.ItemSource.unread c.next.new.self ≡ record { loose = (g.I.ItemSource.unread c.items.reader).loose; rest = drop (size_of c.in-Item.op) (g.I.ItemSource.unread c.items.reader).rest; left = left_behind (g.I.ItemSource.unread c.items.reader).loose (g.I.ItemSource.unread c.items.reader).left c.in-Item.op }) = rw c.in-Item.is at c.next.ensures in
    rw c.in-Err.ensures.err (refused_ends _ _ _ _ _ _ c.in-Item.op _ _ _ _ _ c.in-Err.refusal v.1 (rw v.0 at n.0) (c.in-Err.ensures.refused (search rules)))

pub note-requires : goal.note-requires
note-requires g c =
    let h = c.requires.1 in
    let v = c.items.invariant.0 c.requires.0 h in
    let n : IsNextItem (g.I.ItemSource.unread c.items.reader).loose (g.I.ItemSource.unread c.items.reader).left (g.I.ItemSource.unread c.items.reader).rest c.in-Item.op (size_of c.in-Item.op)
    × (g.I.ItemSource.unread c.next.new.self ≡ record { loose = (g.I.ItemSource.unread c.items.reader).loose; rest = drop (size_of c.in-Item.op) (g.I.ItemSource.unread c.items.reader).rest; left = left_behind (g.I.ItemSource.unread c.items.reader).loose (g.I.ItemSource.unread c.items.reader).left c.in-Item.op }) = rw c.in-Item.is at c.next.ensures in
    omega (arith, v.1.heap, c.in_default.ensures.objects, place_within _ _ _ _ _ _ c.in-Item.op _ _ _ _ _ v.1 (rw v.0 at n.0), h.2)

pub overflow_add-offset : goal.overflow_add-offset
overflow_add-offset g c =
    let h = c.requires.1 in
    let v = c.items.invariant.0 c.requires.0 h in
    let n : IsNextItem (g.I.ItemSource.unread c.items.reader).loose (g.I.ItemSource.unread c.items.reader).left (g.I.ItemSource.unread c.items.reader).rest c.in-Item.op (size_of c.in-Item.op)
    × (g.I.ItemSource.unread c.next.new.self ≡ record { loose = (g.I.ItemSource.unread c.items.reader).loose; rest = drop (size_of c.in-Item.op) (g.I.ItemSource.unread c.items.reader).rest; left = left_behind (g.I.ItemSource.unread c.items.reader).loose (g.I.ItemSource.unread c.items.reader).left c.in-Item.op }) = rw c.in-Item.is at c.next.ensures in
    omega (arith, offset_within _ _ _ _ _ _ c.in-Item.op _ _ _ _ _ v.1 (rw v.0 at n.0), c.size.ensures, h.2)

pub returns-then-ends_reading-clause-closes : goal.returns-then-ends_reading-clause-closes
returns-then-ends_reading-clause-closes g c b h =
    let v = c.items.invariant.0 b h in
    let n : IsNextItem (g.I.ItemSource.unread c.items.reader).loose (g.I.ItemSource.unread c.items.reader).left (g.I.ItemSource.unread c.items.reader).rest c.in-Item.op (size_of c.in-Item.op)
    × (g.I.ItemSource.unread c.next.new.self ≡ record { loose = (g.I.ItemSource.unread c.items.reader).loose; rest = drop (size_of c.in-Item.op) (g.I.ItemSource.unread c.items.reader).rest; left = left_behind (g.I.ItemSource.unread c.items.reader).loose (g.I.ItemSource.unread c.items.reader).left c.in-Item.op }) = rw c.in-Item.is at c.next.ensures in
    let facts = rw (c.of_ref-row.ensures, c.of-before.ensures) at c.in_ok-note-in-Item.ensures.facts in
    let acts = rw (c.of_ref-row.ensures, c.of-before.ensures) at c.in_ok-note-in-Item.ensures.acts in
    let protocol = rw c.of_ref-row.ensures at c.protocol_after-protocol.ensures in
    let m = moved _ _ _ _ _ _ c.in-Item.op _ _ _ _ _ _ _ _ _ v.1 (rw v.0 at n.0) c.in_default.ensures.ok c.in_default.ensures.objects facts acts protocol in
    let hit : ends_reading c.args.many c.in-Item.op.opcode ≡ true = sym (rw c.opcode.ensures at c.ends_reading.ensures) ∙ c.if-ends_reading.true in
    stop_ends _ _ _ _ _ _ c.in-Item.op _ _ _ _ m hit

pub items-preserved : goal.items-preserved
items-preserved g c =
    let n : IsNextItem (g.I.ItemSource.unread c.items.reader).loose (g.I.ItemSource.unread c.items.reader).left (g.I.ItemSource.unread c.items.reader).rest c.in-Item.op (size_of c.in-Item.op)
    × (g.I.ItemSource.unread c.next.new.self ≡ record { loose = (g.I.ItemSource.unread c.items.reader).loose; rest = drop (size_of c.in-Item.op) (g.I.ItemSource.unread c.items.reader).rest; left = left_behind (g.I.ItemSource.unread c.items.reader).loose (g.I.ItemSource.unread c.items.reader).left c.in-Item.op }) = rw c.in-Item.is at c.next.ensures in
    let less : length (g.I.ItemSource.unread c.next.new.self).rest < length (g.I.ItemSource.unread c.items.reader).rest = rw n.1 (shorter _ _ _ c.in-Item.op n.0) in (
      (λ b h.
          let v = c.items.invariant.0 b h in
          let facts = rw (c.of_ref-row.ensures, c.of-before.ensures) at c.in_ok-note-in-Item.ensures.facts in
          let acts = rw (c.of_ref-row.ensures, c.of-before.ensures) at c.in_ok-note-in-Item.ensures.acts in
          let protocol = rw c.of_ref-row.ensures at c.protocol_after-protocol.ensures in
          let m = moved _ _ _ _ _ _ c.in-Item.op _ _ _ _ _ _ _ _ _ v.1 (rw v.0 at n.0) c.in_default.ensures.ok c.in_default.ensures.objects facts acts protocol in
          let stop : c.is_stop-stop.result ≡ is_stop c.in-Item.op.opcode = c.is_stop-stop.ensures ∙ ap is_stop c.opcode-in-Item.ensures in
          let miss : ends_reading c.args.many c.in-Item.op.opcode ≡ false = sym (rw c.opcode.ensures at c.ends_reading.ensures) ∙ c.if-ends_reading.false in
          rw (n.1, v.0, c.size.ensures, stop) (refl, goes_on _ _ _ _ _ _ c.in-Item.op _ _ _ _ m miss)),
      omega (arith, c.items.invariant.1, less),
    )
