-- One item more, or the sink fails.
use Rattle.std.proofs.Common.{◌<◌, ◌-◌, arith}
use Rattle.pickle_doc.specs.Place.{ops_of}
use Rattle.pickle_io.proofs.Devices.{below-next, below-stopped, Writes-stop}
use Rattle.debug_json.specs.Array.{range_text}
use Rattle.debug_json.specs.ItemsFields.{item_json}
use Rattle.debug_json.proofs.Offsets.{next_in}
use Rattle.debug_json.proofs.items.write_items_between.Goals as goal

pub returns-in_err-offset : goal.returns-in_err-offset
returns-in_err-offset g c =
    let s = c.args.session.now.session in
    let within : c.loop-i.i < c.args.to - c.args.from = omega (arith, c.loop-i-test.true, c.loop-i.auto.i-end) in
    Writes-stop _ _ c.from_residual.result c.from_residual.result _ c.from_residual.ensures.0
    (below-stopped (range_text (item_json s) (ops_of s.document) c.args.from) _ _ _ c.loop-i.i _ within c.in_err-offset.ensures.line c.loop-i.invariant.wrote)

pub loop-i-preserved : goal.loop-i-preserved
loop-i-preserved g c =
    let s = c.args.session.now.session in
    record {
      wrote = below-next (range_text (item_json s) (ops_of s.document) c.args.from) _ _ _ c.loop-i.i c.in_ok-offset.ensures.line c.loop-i.invariant.wrote;
      offset = next_in s.document c.args.from c.loop-i.i _ c.in_ok-offset.ensures.next;
    }
