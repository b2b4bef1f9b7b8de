-- The size stays one of the document's.
use Rattle.std.proofs.Common.{◌≡◌, ◌<◌, ◌+◌, ◌^◌, ap, arith, rules}
use Rattle.pickle_doc.specs.Place.{offset_of}
use Rattle.debug_json.proofs.Offsets.{offset_small}
use Rattle.debug_json.proofs.offset.size_between.Goals as goal

pub overflow_add-size : goal.overflow_add-size
overflow_add-size c =
    let all = offset_small c.args.document.now.contents (c.loop-place.place + 1) c.requires.small in
    let fits : c.loop-place.size + c.size_at-size.result < 2 ^ 64 = omega (arith, all, c.size_at-size.ensures, c.loop-place.invariant.size) in
    search rules

pub returns : goal.returns
returns c =
    let same : c.loop-place.place ≡ c.args.to = omega (arith, c.loop-place-test.false, c.loop-place.invariant.within) in
    omega (arith, c.loop-place.invariant.size, ap (offset_of c.args.document.now.contents) same)
