-- The bytes of the document read as one with the same report.
use Rattle.std.proofs.Common.{refl}
use Rattle.object_texts.proofs.Rereading.{wrote_document, broke_document}
use Rattle.pickle_text.proofs.Sources.{items_give}
use Rattle.object_texts.proofs.report.write_document_report.Goals as goal

pub report_of_items-requires : goal.report_of_items-requires
report_of_items-requires g c κs =
    ((refl, tt), rw (c.new-items.ensures.value, c.is_many.ensures) (items_give c.args.document.now.contents c.new-items.ensures.again c.new-items.ensures.small))

pub returns-clause-ok : goal.returns-clause-ok
returns-clause-ok g c = wrote_document c.args.document.now.contents _ _ _ c.new-items.ensures.document c.new-items.ensures.small (rw (c.new-items.ensures.value, c.is_many.ensures) at c.report_of_items.ensures.ok)

pub returns-clause-failed : goal.returns-clause-failed
returns-clause-failed g c e = broke_document c.args.document.now.contents _ _ c.new-items.ensures.document c.new-items.ensures.small (rw (c.new-items.ensures.value, c.is_many.ensures) at c.report_of_items.ensures.failed e)
