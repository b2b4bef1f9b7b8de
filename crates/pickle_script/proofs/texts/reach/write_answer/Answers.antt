use Rattle.std.proofs.Common.{◌∙◌}
use Rattle.pickle_text.specs.declared.stop.TextStop.TheVariants as stop
use Rattle.pickle_script.proofs.ReachTexts.{nothing_wrote, nothing_broke, reached_wrote, reached_broke, ways_wrote, ways_broke, reach_cut}
use Rattle.pickle_script.proofs.texts.reach.write_answer.Goals as goal

pub returns-in_err-write_nothing-in-Nothing-clause-err : goal.returns-in_err-write_nothing-in-Nothing-clause-err
returns-in_err-write_nothing-in-Nothing-clause-err g c =
    reach_cut _ _ _ _ stop.Failed _ c.from_residual.ensures.1 (nothing_broke _ _ _ _ _ _ _ c.requires.found c.in-Nothing.is c.in_err-write_nothing-in-Nothing.ensures)

pub returns-in_err-write_reached-in-At-clause-err : goal.returns-in_err-write_reached-in-At-clause-err
returns-in_err-write_reached-in-At-clause-err g c =
    reach_cut _ _ _ _ stop.Failed _ c.from_residual-in_err-write_reached-in-At.ensures.1
    (reached_broke _ _ _ _ _ _ _ _ c.requires.found c.in-At.is c.in_ok-op-in-At.ensures c.in_err-write_reached-in-At.ensures)

pub returns-in_err-write_all-in-TooMany-clause-err : goal.returns-in_err-write_all-in-TooMany-clause-err
returns-in_err-write_all-in-TooMany-clause-err g c =
    reach_cut _ _ _ _ stop.Failed _ c.from_residual-in_err-write_all-in-TooMany.ensures.1
    (ways_broke _ _ _ _ _ _ c.requires.found c.in-TooMany.is (c.as_bytes.ensures.value ∙ c.ways_line.ensures) c.in_err-write_all-in-TooMany.ensures)

pub returns-in_ok-write_nothing-in-Nothing-clause-ok : goal.returns-in_ok-write_nothing-in-Nothing-clause-ok
returns-in_ok-write_nothing-in-Nothing-clause-ok g c = nothing_wrote _ _ _ _ _ _ _ c.requires.found c.in-Nothing.is c.in_ok-write_nothing-in-Nothing.ensures

pub returns-in_ok-write_reached-in-At-clause-ok : goal.returns-in_ok-write_reached-in-At-clause-ok
returns-in_ok-write_reached-in-At-clause-ok g c = reached_wrote _ _ _ _ _ _ _ _ c.requires.found c.in-At.is c.in_ok-op-in-At.ensures c.in_ok-write_reached-in-At.ensures

pub returns-in_ok-write_all-in-TooMany-clause-ok : goal.returns-in_ok-write_all-in-TooMany-clause-ok
returns-in_ok-write_all-in-TooMany-clause-ok g c =
    ways_wrote _ _ _ _ _ _ c.requires.found c.in-TooMany.is (c.as_bytes.ensures.value ∙ c.ways_line.ensures) c.in_ok-write_all-in-TooMany.ensures
