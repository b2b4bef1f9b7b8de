-- Each offset has 64 bits.
use Rattle.std.proofs.Common.{◌+◌, ◌<◌, ◌^◌, ap, arith, rules}
use Rattle.pickle_doc.specs.Document.{Contents}
use Rattle.pickle_doc.specs.Place.{offset_of}
use Rattle.debug_json.proofs.Offsets.{offset_small}
use Rattle.debug_json.proofs.offset.offset_at.Goals as goal

pub overflow_add-result : goal.overflow_add-result
overflow_add-result g c =
    let all = offset_small c.document-document.result.now.contents c.min-place.result c.len.ensures.small in
    let from = ap (λ (d : Contents). offset_of d c.cursor-cursor.result) c.document-document.ensures in
    let at = ap (offset_of c.args.session.now.session.document) c.cursor-cursor.ensures.value in
    let fits : c.offset.result + c.size_between.result < 2 ^ 64 = omega (arith, all, from, at, c.offset.ensures.value, c.size_between.ensures) in
    search rules
