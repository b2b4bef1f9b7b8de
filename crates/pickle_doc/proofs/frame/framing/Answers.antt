use Rattle.std.proofs.Common.{◌≡◌, ◌+◌, ◌-◌, ◌^◌, ◌<◌, arith, rules}
use Rattle.pickle_doc.specs.Document.{items_of}
use Rattle.pickle_doc.specs.Place.{offset_of}
use Rattle.pickle_doc.proofs.Readers.{items_few}
use Rattle.pickle_doc.proofs.Deletions.{sound}
use Rattle.pickle_doc.proofs.Spans.{sizes-span}
use Rattle.pickle_doc.proofs.Framings.{accepted, framing}
use Rattle.pickle_doc.proofs.frame.framing.Goals as goal

pub overflow_add-k : goal.overflow_add-k
overflow_add-k c =
    let d = c.args.document.now.contents in
    let n = sound d c.requires.document c.requires.small in
    let fits : c.args.k + c.args.count < 2 ^ 64 = omega (arith, (accepted d c.args.k c.args.count n c.requires.good).can.place, items_few (items_of d), n.bound) in
    search rules

pub overflow_sub-number : goal.overflow_sub-number
overflow_sub-number c = omega (arith, sizes-span (items_of c.args.document.now.contents) c.args.k c.args.count, c.offset_of.ensures, c.offset_of-2.ensures)

pub next_id-requires : goal.next_id-requires
next_id-requires c = (accepted _ c.args.k c.args.count (sound _ c.requires.document c.requires.small) c.requires.good).few

pub returns-clause-few : goal.returns-clause-few
returns-clause-few c = (accepted _ c.args.k c.args.count (sound _ c.requires.document c.requires.small) c.requires.good).few

pub returns-clause-leads : goal.returns-clause-leads
returns-clause-leads c =
    let d = c.args.document.now.contents in
    let number : c.offset_of.result - c.offset_of-2.result + offset_of d c.args.k ≡ offset_of d (c.args.k + c.args.count) = omega (arith, sizes-span (items_of d) c.args.k c.args.count, c.offset_of.ensures, c.offset_of-2.ensures) in
    rw (c.next_id.ensures, c.frame.ensures) (framing d c.args.k c.args.count _ (sound d c.requires.document c.requires.small) c.requires.good number).leads

pub returns-clause-room : goal.returns-clause-room
returns-clause-room c =
    let d = c.args.document.now.contents in
    let number : c.offset_of.result - c.offset_of-2.result + offset_of d c.args.k ≡ offset_of d (c.args.k + c.args.count) = omega (arith, sizes-span (items_of d) c.args.k c.args.count, c.offset_of.ensures, c.offset_of-2.ensures) in
    (framing d c.args.k c.args.count _ (sound d c.requires.document c.requires.small) c.requires.good number).long
