-- Some blanks more, or an end.
use Rattle.std.proofs.Common.{◌≤◌, arith}
use Rattle.pickle_io.proofs.Devices.{Writes-stop}
use Rattle.pickle_text.proofs.Spaces.{blanks_more, blanks_stopped}
use Rattle.pickle_text.proofs.blanks.write_many_blanks.Goals as goal

pub returns-in_err-make_room-clause-text : goal.returns-in_err-make_room-clause-text
returns-in_err-make_room-clause-text g c =
    let some : c.min-n.result ≤ c.loop-left.left = omega (arith, c.min-n.ensures) in
    Writes-stop _ _ c.from_residual.result c.from_residual.result _ c.from_residual.ensures.0
    (blanks_stopped _ _ _ _ c.args.count c.loop-left.left c.min-n.result some c.loop-left.invariant.within c.in_err-make_room.ensures.writes c.push_block.ensures c.loop-left.invariant.wrote)

pub loop-left-preserved : goal.loop-left-preserved
loop-left-preserved g c =
    let some : c.min-n.result ≤ c.loop-left.left = omega (arith, c.min-n.ensures) in
    record {
      wrote = blanks_more _ _ _ _ c.args.count c.loop-left.left c.min-n.result some c.loop-left.invariant.within c.in_ok-make_room.ensures.writes c.push_block.ensures c.loop-left.invariant.wrote;
      within = omega (arith, c.loop-left.invariant.within);
      room = omega (arith, c.in_ok-make_room.ensures.room);
    }
