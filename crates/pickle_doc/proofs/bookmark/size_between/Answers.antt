use Rattle.std.proofs.Common.{◌+◌, ◌<◌, ◌^◌, rules, arith}
use Rattle.pickle_doc.specs.declared.item.Item.{Item}
use Rattle.pickle_doc.proofs.Readers.{sizes-more, sizes-take}
use Rattle.pickle_doc.proofs.bookmark.size_between.Goals as goal

pub overflow_add-total : goal.overflow_add-total
overflow_add-total c =
    let i : Item = c.at.result.now in
    let more = sizes-more c.args.items.now.items c.loop-j.j i (omega (arith, c.loop-j-test.true, c.requires.place)) c.at.ensures in
    let all = sizes-take c.args.items.now.items (c.loop-j.j + 1) in
    let fits : c.loop-j.total + c.size.result < 2 ^ 64 = omega (arith, more, all, c.requires.small, c.size.ensures, c.loop-j.invariant.total) in
    search rules

pub loop-j-preserved : goal.loop-j-preserved
loop-j-preserved c =
    let i : Item = c.at.result.now in
    let more = sizes-more c.args.items.now.items c.loop-j.j i (omega (arith, c.loop-j-test.true, c.requires.place)) c.at.ensures in
    record { total = omega (arith, more, c.size.ensures, c.loop-j.invariant.total); within = omega (arith, c.loop-j-test.true) }
