use Rattle.std.proofs.Common.{◌≡◌, ◌+◌, ◌-◌, ◌^◌, ◌<◌, ℕ, nat_lt, length, ap, ap₂, ◌∙◌, arith, rules}
use Rattle.pickle_doc.specs.DocUnit.{sizes}
use Rattle.pickle_doc.specs.Document.{items_of}
use Rattle.pickle_doc.proofs.Units.{length_document}
use Rattle.pickle_doc.proofs.Readers.{items_few, sizes-take}
use Rattle.pickle_doc.proofs.Lists.{within}
use Rattle.pickle_doc.proofs.Deletes.{item_there}
use Rattle.pickle_doc.proofs.Deletions.{sound}
use Rattle.pickle_doc.proofs.Unframes.{reaches}
use Rattle.pickle_doc.proofs.unframe.is_open.Goals as goal

pub overflow_add-k : goal.overflow_add-k
overflow_add-k c =
    let d = c.args.document.now.contents in
    let i = item_there (items_of d) c.args.k _ c.requires.item in
    let fits : c.args.k + 1 < 2 ^ 64 = omega (arith, within (items_of d) c.args.k i.0 i.1, items_few (items_of d), length_document d, c.total.ensures.value, c.total.ensures.within) in
    search rules

pub offset_of-requires : goal.offset_of-requires
offset_of-requires c =
    let d = c.args.document.now.contents in
    let i = item_there (items_of d) c.args.k _ c.requires.item in
    omega (arith, within (items_of d) c.args.k i.0 i.1)

pub overflow_sub-result : goal.overflow_sub-result
overflow_sub-result c =
    let d = c.args.document.now.contents in
    omega (arith, c.offset_of.ensures, sizes-take (items_of d) (c.args.k + 1), length_document d, c.total.ensures.value, ap length c.tail.ensures)

pub returns : goal.returns
returns c =
    let d = c.args.document.now.contents in
    let n = sound d c.total.ensures.document (omega (arith, c.total.ensures.value, c.total.ensures.within)) in
    let start : c.total.result - length c.tail.result.now ≡ sizes (items_of d) = omega (arith, length_document d, c.total.ensures.value, ap length c.tail.ensures) in
    ap₂ (λ (a b : ℕ). nat_lt (c.total.result - length c.tail.result.now - a) b) c.offset_of.ensures c.frame_number.ensures
    ∙ reaches d c.args.k _ c.args.op.now n c.requires.item c.requires.frame c.requires.framed start
