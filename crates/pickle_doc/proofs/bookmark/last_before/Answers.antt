use Rattle.std.proofs.Common.{◌≡◌, ◌+◌, ◌-◌, ◌<◌, ℕ, false, length, take, ap, sym, ◌∙◌, arith}
use Rattle.pickle_doc.specs.declared.item.Item.{Item}
use Rattle.pickle_doc.specs.DocUnit.{is_frame, sizes}
use Rattle.pickle_doc.specs.Inside.Bookmark.{NoFrameBetween}
use Rattle.pickle_doc.proofs.Readers.{sizes-more}
use Rattle.pickle_doc.proofs.Replacements.{at_some}
use Rattle.pickle_doc.proofs.Bookmarks.{none-within, none-back}
use Rattle.pickle_doc.proofs.bookmark.last_before.Goals as goal

pub overflow_sub-behind : goal.overflow_sub-behind
overflow_sub-behind c =
    let i : Item = c.at.result.now in
    let place = c.loop-place.place - 1 in
    let back : place + 1 ≡ c.loop-place.place = omega (arith, c.loop-place-test.true) in
    let within : place < length c.args.items.now.items = omega (arith, c.loop-place-test.true, c.loop-place.invariant.within, c.requires.place) in
    let more = sizes-more c.args.items.now.items place i within c.at.ensures in
    let whole = ap (λ (m : ℕ). sizes (take m c.args.items.now.items)) back in
    omega (arith, more, whole, c.size.ensures, c.loop-place.invariant.behind)

pub loop-place-preserved : goal.loop-place-preserved
loop-place-preserved c =
    let i : Item = c.at.result.now in
    let items = c.args.items.now.items in
    let place = c.loop-place.place - 1 in
    let back : place + 1 ≡ c.loop-place.place = omega (arith, c.loop-place-test.true) in
    let within : place < length items = omega (arith, c.loop-place-test.true, c.loop-place.invariant.within, c.requires.place) in
    let more = sizes-more items place i within c.at.ensures in
    let whole = ap (λ (m : ℕ). sizes (take m items)) back in
    let miss : is_frame i.op.opcode ≡ false = ap is_frame (sym c.opcode.ensures) ∙ sym c.is_frame.ensures ∙ c.if-is_frame.false in
    let none : NoFrameBetween (place + 1) c.args.k items = none-within c.loop-place.place c.args.k (place + 1) c.args.k items (omega (arith, back)) (omega arith) c.loop-place.invariant.none in
    record {
      none = none-back place c.args.k items i none (at_some items place i within c.at.ensures) miss;
      behind = omega (arith, more, whole, c.size.ensures, c.loop-place.invariant.behind);
      within = omega (arith, c.loop-place.invariant.within);
    }
