use Rattle.std.proofs.Common.{◌≡◌, ◌+◌, ◌<◌, ◌^◌, length, take, rules, arith}
use Rattle.pickle_doc.specs.declared.item.Item.{Item}
use Rattle.pickle_doc.specs.DocUnit.{sizes}
use Rattle.pickle_doc.proofs.Readers.{sizes-more, sizes-take}
use Rattle.pickle_doc.proofs.Replacements.{at_some}
use Rattle.pickle_doc.proofs.Bookmarks.{last-forward}
use Rattle.pickle_doc.proofs.bookmark.forward.Goals as goal

pub overflow_add-offset : goal.overflow_add-offset
overflow_add-offset c =
    let i : Item = c.at.result.now in
    let more = sizes-more c.args.items.now.items c.loop-j.j i (omega (arith, c.loop-j-test.true, c.requires.place)) c.at.ensures in
    let all = sizes-take c.args.items.now.items (c.loop-j.j + 1) in
    let fits : c.loop-j.offset + c.size.result < 2 ^ 64 = omega (arith, more, all, c.requires.bookmark.small, c.size.ensures, c.loop-j.invariant.offset) in
    search rules

pub loop-j-preserved : goal.loop-j-preserved
loop-j-preserved c =
    let i : Item = c.at.result.now in
    let within : c.loop-j.j < length c.args.items.now.items = omega (arith, c.loop-j-test.true, c.requires.place) in
    let more = sizes-more c.args.items.now.items c.loop-j.j i within c.at.ensures in
    let there = at_some c.args.items.now.items c.loop-j.j i within c.at.ensures in
    let offset : c.loop-j.offset + c.size.result ≡ sizes (take (c.loop-j.j + 1) c.args.items.now.items) = omega (arith, more, c.size.ensures, c.loop-j.invariant.offset) in
    record {
      offset = offset;
      frame = rw c.last_with-frame.ensures (last-forward c.loop-j.frame c.loop-j.j (c.loop-j.offset + c.size.result) c.args.items.now.items i c.loop-j.invariant.frame there offset);
      within = omega (arith, c.loop-j-test.true);
    }
