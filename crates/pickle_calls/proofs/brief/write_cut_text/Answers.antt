-- The text by what was said of it.
use Rattle.pickle_calls.proofs.Cutting.{cut_good, cut_bad}
use Rattle.pickle_calls.proofs.brief.write_cut_text.Goals as goal

pub returns-then-reading : goal.returns-then-reading
returns-then-reading g c = rw (cut_good c.args.coding c.args.text.now c.read-reading.result c.read-reading.ensures c.if-reading.true) c.write_cut_value.ensures

pub returns-else-reading : goal.returns-else-reading
returns-else-reading g c = rw (cut_bad c.args.coding c.args.text.now c.read-reading.result c.read-reading.ensures c.if-reading.false) c.write_cut_after.ensures
