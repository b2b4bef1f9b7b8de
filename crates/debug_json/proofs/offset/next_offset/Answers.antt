-- Each offset has 64 bits.
use Rattle.std.proofs.Common.{◌+◌, ◌<◌, ◌^◌, ap, arith, rules}
use Rattle.pickle_doc.specs.Document.{Contents}
use Rattle.pickle_doc.specs.Place.{offset_of}
use Rattle.debug_json.proofs.Offsets.{offset_small}
use Rattle.debug_json.proofs.offset.next_offset.Goals as goal

pub overflow_add-result : goal.overflow_add-result
overflow_add-result g c =
    let all = offset_small c.document-document.result.now.contents (c.args.place + 1) c.len.ensures.small in
    let at = ap (λ (d : Contents). offset_of d c.args.place) c.document-document.ensures in
    let fits : c.args.offset + c.size_at.result < 2 ^ 64 = omega (arith, all, at, c.requires, c.size_at.ensures) in
    search rules
