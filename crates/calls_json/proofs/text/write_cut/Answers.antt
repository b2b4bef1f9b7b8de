-- The text by what was said of it.
use Rattle.calls_json.proofs.Texts.{cut_good, cut_bad}
use Rattle.calls_json.proofs.text.write_cut.Goals as goal

pub returns-then-reading : goal.returns-then-reading
returns-then-reading g c = rw (cut_good c.args.coding c.args.bytes.now c.read-reading.result c.read-reading.ensures c.if-reading.true) c.write_front.ensures

pub returns-else-reading : goal.returns-else-reading
returns-else-reading g c = rw (cut_bad c.args.coding c.args.bytes.now c.read-reading.result c.read-reading.ensures c.if-reading.false) c.write_raw.ensures
