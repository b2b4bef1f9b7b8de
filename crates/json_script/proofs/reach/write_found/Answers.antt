use Rattle.std.proofs.Common.{refl}
use Rattle.pickle_text.specs.declared.stop.TextStop.TheVariants as stop
use Rattle.json_script.specs.ReachLine.{nothing_output, reached_output, ways_output, IsReachLine}
use Rattle.json_script.proofs.Stopped.{once_cut}
use Rattle.json_script.proofs.ReachLines.{nothing_is, reached_is, ways_are, shown_wrote, shown_broke}
use Rattle.json_script.proofs.reach.write_found.Goals as goal

pub returns-in_err-write_nothing_reached-in-Nothing-clause-err : goal.returns-in_err-write_nothing_reached-in-Nothing-clause-err
returns-in_err-write_nothing_reached-in-Nothing-clause-err g c =
    once_cut (IsReachLine c.args.granted c.args.bytes.now) _ _ stop.Failed _ c.from_residual.ensures.1
    (nothing_output c.in-Nothing.offset c.in-Nothing.settled, nothing_is _ _ _ _ _ c.requires.found c.in-Nothing.is, c.in_err-write_nothing_reached-in-Nothing.ensures)

pub returns-in_err-write_reached-in-At-clause-err : goal.returns-in_err-write_reached-in-At-clause-err
returns-in_err-write_reached-in-At-clause-err g c =
    once_cut (IsReachLine c.args.granted c.args.bytes.now) _ _ stop.Failed _ c.from_residual-in_err-write_reached-in-At.ensures.1
    (reached_output c.in-At.spot c.in-At.frames c.in_ok-op-in-At.op, reached_is _ _ _ _ _ _ c.requires.found c.in-At.is c.in_ok-op-in-At.ensures, shown_broke _ _ _ _ _ _ c.by_ref.ensures c.in_err-write_reached-in-At.ensures)

pub returns-in_err-write_too_many_ways-in-TooMany-clause-err : goal.returns-in_err-write_too_many_ways-in-TooMany-clause-err
returns-in_err-write_too_many_ways-in-TooMany-clause-err g c =
    once_cut (IsReachLine c.args.granted c.args.bytes.now) _ _ stop.Failed _ c.from_residual-in_err-write_too_many_ways-in-TooMany.ensures.1
    (ways_output, ways_are _ _ _ c.requires.found c.in-TooMany.is, c.in_err-write_too_many_ways-in-TooMany.ensures)

pub returns-in_ok-write_nothing_reached-in-Nothing-clause-ok : goal.returns-in_ok-write_nothing_reached-in-Nothing-clause-ok
returns-in_ok-write_nothing_reached-in-Nothing-clause-ok g c =
    (nothing_output c.in-Nothing.offset c.in-Nothing.settled, nothing_is _ _ _ _ _ c.requires.found c.in-Nothing.is, c.in_ok-write_nothing_reached-in-Nothing.ensures, refl)

pub returns-in_ok-write_reached-in-At-clause-ok : goal.returns-in_ok-write_reached-in-At-clause-ok
returns-in_ok-write_reached-in-At-clause-ok g c =
    (reached_output c.in-At.spot c.in-At.frames c.in_ok-op-in-At.op, reached_is _ _ _ _ _ _ c.requires.found c.in-At.is c.in_ok-op-in-At.ensures, shown_wrote _ _ _ _ _ _ c.by_ref.ensures c.in_ok-write_reached-in-At.ensures, refl)

pub returns-in_ok-write_too_many_ways-in-TooMany-clause-ok : goal.returns-in_ok-write_too_many_ways-in-TooMany-clause-ok
returns-in_ok-write_too_many_ways-in-TooMany-clause-ok g c = (ways_output, ways_are _ _ _ c.requires.found c.in-TooMany.is, c.in_ok-write_too_many_ways-in-TooMany.ensures, refl)
