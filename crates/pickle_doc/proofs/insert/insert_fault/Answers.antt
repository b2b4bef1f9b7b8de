use Rattle.std.proofs.Common.{◌≤◌, length, arith, rules}
use Rattle.pickle_doc.specs.Document.{items_of}
use Rattle.pickle_doc.specs.Edit.{with_units, inserted, new_item}
use Rattle.pickle_doc.proofs.Deletions.{sound}
use Rattle.pickle_doc.proofs.Insertions.{total_inserted}
use Rattle.pickle_doc.proofs.insert.insert_fault.Goals as goal

pub returns : goal.returns
returns c =
    let d = c.args.document.now.contents in
    let o = c.args.op.now in
    let k = c.args.k in
    let place : k ≤ length (items_of d) = omega (arith, c.len.ensures.value, c.if-k-len.false) in
    let total = total_inserted d k o (sound d c.len.ensures.document c.len.ensures.small) place in
    let last = c.addition_fault.ensures (with_units d (inserted k (new_item d o) d.units)) (omega (arith, total, c.size.ensures)) in
    search (rules, last)
