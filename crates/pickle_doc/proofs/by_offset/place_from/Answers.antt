use Rattle.std.proofs.Common.{◌+◌, ◌<◌, ◌^◌, length, take, rules, arith}
use Rattle.pickle_doc.specs.declared.item.Item.{Item}
use Rattle.pickle_doc.specs.DocUnit.{sizes}
use Rattle.pickle_doc.proofs.Readers.{sizes-more, sizes-take}
use Rattle.pickle_doc.proofs.Offsets.{lower-first, lower-more, none-forward}
use Rattle.pickle_doc.proofs.by_offset.place_from.Goals as goal

pub loop-place-init : goal.loop-place-init
loop-place-init c = record {
  at = c.requires.start;
  lower = lower-first c.args.items.now.items c.args.from c.args.offset c.requires.place (omega (arith, c.requires.start, c.requires.order));
  within = c.requires.place;
}

pub returns-then-at-offset-2 : goal.returns-then-at-offset-2
returns-then-at-offset-2 c =
    none-forward c.args.items.now.items c.loop-place.place c.args.offset c.loop-place.invariant.lower (omega (arith, c.loop-place.invariant.at, c.if-at-offset-2.true))

pub overflow_add-at : goal.overflow_add-at
overflow_add-at c =
    let i : Item = c.at.result.now in
    let more = sizes-more c.args.items.now.items c.loop-place.place i (omega (arith, c.loop-place-test.true, c.len-len.ensures)) c.at.ensures in
    let all = sizes-take c.args.items.now.items (c.loop-place.place + 1) in
    let fits : c.loop-place.at + c.size.result < 2 ^ 64 = omega (arith, more, all, c.requires.small, c.size.ensures, c.loop-place.invariant.at) in
    search rules

pub loop-place-preserved : goal.loop-place-preserved
loop-place-preserved c =
    let i : Item = c.at.result.now in
    let items = c.args.items.now.items in
    let within : c.loop-place.place < length items = omega (arith, c.loop-place-test.true, c.len-len.ensures) in
    let more = sizes-more items c.loop-place.place i within c.at.ensures in
    let low : sizes (take c.loop-place.place items) < c.args.offset = omega (arith, c.loop-place.invariant.at, c.if-at-offset.false, c.if-at-offset-2.false) in
    record {
      at = omega (arith, more, c.size.ensures, c.loop-place.invariant.at);
      lower = lower-more items c.loop-place.place c.args.offset c.loop-place.invariant.lower low;
      within = omega (arith, within);
    }
