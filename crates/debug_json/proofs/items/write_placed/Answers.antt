-- The offset after an item is one of the document's.
use Rattle.std.proofs.Common.{◌≡◌, Some, arith, rules}
use Rattle.pickle_doc.specs.Place.{item_at}
use Rattle.pickle_script.proofs.PlaceLemmas.{offset_fits}
use Rattle.debug_json.proofs.items.write_placed.Goals as goal

pub overflow_add-next : goal.overflow_add-next
overflow_add-next g c =
    let there : item_at c.args.session.now.session.document c.args.place ≡ Some c.in-Some.op.now = search rules in
    let fits = offset_fits c.args.session.now.session.document c.args.place c.args.offset c.in-Some.op.now c.requires.small there c.requires.offset in
    omega (arith, fits, c.size.ensures)
