-- One item more, or the sink fails.
use Rattle.std.proofs.Common.{◌<◌, ◌-◌, arith}
use Rattle.pickle_io.proofs.Devices.{Writes-stop}
use Rattle.debug_json.specs.MadeFields.{changer_from, changer_json}
use Rattle.debug_json.proofs.Offsets.{next_in}
use Rattle.debug_json.proofs.Picks.{picked-next, picked-stopped, picked-count, count-few}
use Rattle.debug_json.proofs.made.write_changers.Goals as goal

pub loop-i-preserved : goal.loop-i-preserved
loop-i-preserved g c =
    let find = changer_from c.args.session.now.session.document c.args.first c.args.number in
    record {
      wrote = picked-next changer_json find _ _ _ c.loop-i.i _ _ c.changer_at-found.ensures c.loop-i.invariant.count c.in_ok-count.ensures.text c.loop-i.invariant.wrote;
      count = picked-count find c.loop-i.i _ _ _ c.changer_at-found.ensures c.loop-i.invariant.count c.in_ok-count.ensures.count;
      few = count-few _ c.loop-i.i _ _ c.loop-i.invariant.few c.in_ok-count.ensures.count;
      offset = next_in c.args.session.now.session.document c.args.first c.loop-i.i _ c.next_offset-offset.ensures;
    }

pub returns-in_err-count : goal.returns-in_err-count
returns-in_err-count g c =
    let s = c.args.session.now.session in
    let find = changer_from s.document c.args.first c.args.number in
    let within : c.loop-i.i < s.cursor - c.args.first = omega (arith, c.loop-i-test.true, c.loop-i.auto.i-end, c.cursor.ensures.value) in
    Writes-stop _ _ c.from_residual.result c.from_residual.result _ c.from_residual.ensures.0
    (picked-stopped changer_json find _ _ _ c.loop-i.i _ _ _ c.changer_at-found.ensures c.loop-i.invariant.count within c.in_err-count.ensures.text c.loop-i.invariant.wrote)
