use Rattle.std.proofs.Common.{◌≡◌, false, Some, None, option_copied, length, ap, sym, ◌∙◌, arith, rules}
use Rattle.pickle_ops.specs.Spelling.{size_of}
use Rattle.pickle_doc.specs.DocUnit.{is_frame, is_stop}
use Rattle.pickle_doc.specs.Document.{items_of}
use Rattle.pickle_doc.specs.Place.{item_at}
use Rattle.pickle_doc.specs.Edit.{with_units, replaced, item_fault}
use Rattle.pickle_doc.proofs.Units.{length_document}
use Rattle.pickle_doc.proofs.Deletes.{can_delete, op_at, item_there}
use Rattle.pickle_doc.proofs.Deletions.{sound}
use Rattle.pickle_doc.proofs.Replaces.{sizes_least}
use Rattle.pickle_doc.proofs.Replacements.{total_replaced}
use Rattle.pickle_doc.proofs.replace.replace_fault.Goals as goal

pub size_fault-requires : goal.size_fault-requires
size_fault-requires c =
    let d = c.args.document.now.contents in
    let at : item_at d c.args.k ≡ Some c.in-Some.old.now = sym c.item.ensures ∙ ap option_copied c.in-Some.is in
    let i = item_there (items_of d) c.args.k c.in-Some.old.now at in
    omega (arith, sizes_least (items_of d) c.args.k i.0 i.1, ap size_of i.2, length_document d, c.size.ensures)

pub returns : goal.returns
returns c =
    let d = c.args.document.now.contents in
    let o = c.args.op.now in
    let k = c.args.k in
    let at : item_at d k ≡ Some c.in-Some.old.now = sym c.item.ensures ∙ ap option_copied c.in-Some.is in
    let plain : item_fault (Some c.in-Some.old.now) ≡ None = sym c.plain_fault.ensures ∙ search rules in
    let stop : is_stop o.opcode ≡ false = sym (c.is_stop.ensures ∙ ap is_stop c.opcode.ensures) ∙ c.if-is_stop.false in
    let frame : is_frame o.opcode ≡ false = sym (c.is_frame.ensures ∙ ap is_frame c.opcode-2.ensures) ∙ c.if-is_frame.false in
    let can = can_delete (items_of d) k (ap item_fault at ∙ plain) in
    let n = sound d c.size_fault.ensures.document c.size_fault.ensures.small in
    let total = total_replaced d k o n c.arg.ensures.spelled can stop frame in
    let size = ap size_of (op_at (items_of d) k can.item c.in-Some.old.now can.is at) in
    let last = c.size_fault.ensures.fault (with_units d (replaced k o d.units)) (omega (arith, total, size, c.size.ensures, ap length c.arg.ensures.value)) in
    search (rules, at, plain, stop, frame, last)
