use Rattle.std.proofs.Common.{◌≡◌, ◌+◌, ◌-◌, ℕ, take, ap, arith}
use Rattle.pickle_doc.specs.declared.item.Item.{Item}
use Rattle.pickle_doc.specs.DocUnit.{sizes}
use Rattle.pickle_doc.proofs.Readers.{sizes-more}
use Rattle.pickle_doc.proofs.Offsets.{higher-first, higher-more, none-back, some-before}
use Rattle.pickle_doc.proofs.by_offset.place_back.Goals as goal

pub loop-at-init : goal.loop-at-init
loop-at-init c = record {
  at = c.requires.start;
  higher = higher-first c.args.items.now.items c.args.from c.args.offset (omega (arith, c.requires.start, c.requires.order));
  within = c.requires.place;
}

pub overflow_sub-at : goal.overflow_sub-at
overflow_sub-at c =
    let i : Item = c.at.result.now in
    let items = c.args.items.now.items in
    let place = c.loop-at.place - 1 in
    let some = some-before items c.loop-at.place c.args.offset (omega (arith, c.loop-at.invariant.at, c.loop-at-test.true)) in
    let back : place + 1 ≡ c.loop-at.place = omega (arith, some) in
    let more = sizes-more items place i (omega (arith, back, c.loop-at.invariant.within)) c.at.ensures in
    let whole = ap (λ (m : ℕ). sizes (take m items)) back in
    omega (arith, more, whole, c.size.ensures, c.loop-at.invariant.at)

pub loop-at-preserved : goal.loop-at-preserved
loop-at-preserved c =
    let i : Item = c.at.result.now in
    let items = c.args.items.now.items in
    let place = c.loop-at.place - 1 in
    let some = some-before items c.loop-at.place c.args.offset (omega (arith, c.loop-at.invariant.at, c.loop-at-test.true)) in
    let back : place + 1 ≡ c.loop-at.place = omega (arith, some) in
    let more = sizes-more items place i (omega (arith, back, c.loop-at.invariant.within)) c.at.ensures in
    let whole = ap (λ (m : ℕ). sizes (take m items)) back in
    record {
      at = omega (arith, more, whole, c.size.ensures, c.loop-at.invariant.at);
      higher = higher-more items c.loop-at.place place c.args.offset (omega (arith, back)) c.loop-at.invariant.higher (omega (arith, c.loop-at.invariant.at, c.loop-at-test.true));
      within = omega (arith, c.loop-at.invariant.within);
    }

pub returns : goal.returns
returns c =
    none-back c.args.items.now.items c.loop-at.place c.args.offset c.loop-at.invariant.higher (omega (arith, c.loop-at.invariant.at, c.loop-at-test.false, c.if-at-offset.false))
