use Rattle.std.proofs.Common.{refl}
use Rattle.pickle_list.proofs.Cuts.{wrote_document, cut_document}
use Rattle.pickle_text.proofs.Sources.{items_give}
use Rattle.pickle_list.proofs.list.write_listing.Goals as goal

pub list_items-requires : goal.list_items-requires
list_items-requires g c κs =
    ((refl, tt), rw (c.new-items.ensures.value, c.is_many.ensures) (items_give c.args.document.now.contents c.new-items.ensures.again c.new-items.ensures.small))

pub returns-clause-listed : goal.returns-clause-listed
returns-clause-listed g c = wrote_document c.args.document.now.contents _ _ _ c.new-items.ensures.again (rw (c.new-items.ensures.value, c.is_many.ensures) at c.list_items.ensures.ok)

pub returns-clause-stopped : goal.returns-clause-stopped
returns-clause-stopped g c = cut_document c.args.document.now.contents _ _ _ c.new-items.ensures.again (rw (c.new-items.ensures.value, c.is_many.ensures) at c.list_items.ensures.err)
