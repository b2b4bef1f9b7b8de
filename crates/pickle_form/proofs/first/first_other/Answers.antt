use Rattle.std.proofs.Common.{refl, ◌≡◌, drop, length, None, sym, ap, ◌∙◌, arith}
use Rattle.std.specs.Prelude.{nat_lt, false}
use Rattle.pickle_ops.specs.Spelling.{size_of}
use Rattle.pickle_doc.specs.DocUnit.{is_stop}
use Rattle.pickle_doc.specs.Tail.{HasTailFault}
use Rattle.pickle_doc.specs.Fitting.{left_behind}
use Rattle.pickle_doc.specs.Unread.{IsNextItem, Unread}
use Rattle.pickle_doc.proofs.Existence.{some_document}
use Rattle.pickle_form.specs.Form.{reason_of}
use Rattle.pickle_form.proofs.Going.{going_begins, at_fault, at_item, goes_on, at_end, at_bytes}
use Rattle.pickle_form.proofs.first.first_other.Goals as goal

pub items-init : goal.items-init
items-init c =
    let some = some_document false false c.args.bytes.now (λ i. omega (arith, c.type_inv.bytes i)) in
    rw (c.new-reader.ensures, c.begin-form.ensures) (refl, (some.0, going_begins some.0 _ some.1 c.requires))

pub returns-in-Tail : goal.returns-in-Tail
returns-in-Tail c =
    let w = c.items.invariant.1 in
    let f : HasTailFault c.items.reader.loose c.items.reader.left c.items.reader.rest c.in-Tail.fault × (c.next.new.self ≡ c.items.reader) = rw c.in-Tail.is at c.next.ensures in
    rw (c.at_place.ensures, c.fault_reason.ensures) (w.0, w.1.reads, sym (at_fault w.0 _ _ _ _ _ _ c.in-Tail.fault w.1 (rw c.items.invariant.0 at f.0)))

pub returns-in-Some : goal.returns-in-Some
returns-in-Some c =
    let w = c.items.invariant.1 in
    let n : IsNextItem c.items.reader.loose c.items.reader.left c.items.reader.rest c.in-Item.op (size_of c.in-Item.op)
    × (c.next.new.self ≡ record { loose = c.items.reader.loose; rest = drop (size_of c.in-Item.op) c.items.reader.rest; left = left_behind c.items.reader.loose c.items.reader.left c.in-Item.op }) = rw c.in-Item.is at c.next.ensures in
    rw c.at_place-in-Some.ensures (w.0, w.1.reads, sym (at_item w.0 _ _ _ _ _ _ c.in-Item.op c.in-Some.why w.1 (rw c.items.invariant.0 at n.0) (sym c.in-Some.is ∙ c.in_ok-why-in-Item.ensures.first)))

pub items-preserved : goal.items-preserved
items-preserved c =
    let w = c.items.invariant.1 in
    let n : IsNextItem c.items.reader.loose c.items.reader.left c.items.reader.rest c.in-Item.op (size_of c.in-Item.op)
    × (c.next.new.self ≡ record { loose = c.items.reader.loose; rest = drop (size_of c.in-Item.op) c.items.reader.rest; left = left_behind c.items.reader.loose c.items.reader.left c.in-Item.op }) = rw c.in-Item.is at c.next.ensures in
    let formed : None ≡ reason_of c.in-Item.op c.items.form = sym c.in_default.is ∙ c.in_ok-why-in-Item.ensures.first in
    let stop : is_stop c.in-Item.op.opcode ≡ c.is_stop.result = sym (c.is_stop.ensures ∙ ap is_stop c.opcode.ensures) in
    rw (n.1, c.items.invariant.0, c.size.ensures, c.in_ok-why-in-Item.ensures.next c.in_default.is)
    (refl, (w.0, goes_on w.0 _ _ _ _ _ _ c.in-Item.op w.1 (rw c.items.invariant.0 at n.0) formed (stop ∙ c.if-not-is_stop.true)))

pub returns-then-has_more : goal.returns-then-has_more
returns-then-has_more c =
    let w = c.items.invariant.1 in
    let n : IsNextItem c.items.reader.loose c.items.reader.left c.items.reader.rest c.in-Item.op (size_of c.in-Item.op)
    × (c.next.new.self ≡ record { loose = c.items.reader.loose; rest = drop (size_of c.in-Item.op) c.items.reader.rest; left = left_behind c.items.reader.loose c.items.reader.left c.in-Item.op }) = rw c.in-Item.is at c.next.ensures in
    let formed : None ≡ reason_of c.in-Item.op c.items.form = sym c.in_default.is ∙ c.in_ok-why-in-Item.ensures.first in
    let stop : is_stop c.in-Item.op.opcode ≡ c.is_stop.result = sym (c.is_stop.ensures ∙ ap is_stop c.opcode.ensures) in
    let more : nat_lt 0 (length (drop (size_of c.in-Item.op) c.items.reader.rest)) ≡ c.has_more.result = sym (c.has_more.ensures ∙ ap (nat_lt 0) (c.unread_len.ensures ∙ ap (λ (u : Unread). length u.rest) n.1)) in
    rw (c.at_place-then-has_more.ensures, c.size.ensures)
    (w.0, w.1.reads, sym (at_bytes w.0 _ _ _ _ _ _ c.in-Item.op w.1 (rw c.items.invariant.0 at n.0) formed (stop ∙ c.if-not-is_stop.false) (more ∙ c.if-has_more.true)))

pub returns-in-Item : goal.returns-in-Item
returns-in-Item c =
    let w = c.items.invariant.1 in
    let n : IsNextItem c.items.reader.loose c.items.reader.left c.items.reader.rest c.in-Item.op (size_of c.in-Item.op)
    × (c.next.new.self ≡ record { loose = c.items.reader.loose; rest = drop (size_of c.in-Item.op) c.items.reader.rest; left = left_behind c.items.reader.loose c.items.reader.left c.in-Item.op }) = rw c.in-Item.is at c.next.ensures in
    let formed : None ≡ reason_of c.in-Item.op c.items.form = sym c.in_default.is ∙ c.in_ok-why-in-Item.ensures.first in
    let stop : is_stop c.in-Item.op.opcode ≡ c.is_stop.result = sym (c.is_stop.ensures ∙ ap is_stop c.opcode.ensures) in
    let more : nat_lt 0 (length (drop (size_of c.in-Item.op) c.items.reader.rest)) ≡ c.has_more.result = sym (c.has_more.ensures ∙ ap (nat_lt 0) (c.unread_len.ensures ∙ ap (λ (u : Unread). length u.rest) n.1)) in
    (w.0, w.1.reads, sym (at_end w.0 _ _ _ _ _ _ c.in-Item.op w.1 (rw c.items.invariant.0 at n.0) formed (stop ∙ c.if-not-is_stop.false) (more ∙ c.if-has_more.false)))
