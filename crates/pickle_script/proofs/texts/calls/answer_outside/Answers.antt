use Rattle.pickle_calls.specs.Manner.{manner}
use Rattle.pickle_script.proofs.Outputs.{stopped_so, outside_broke, outside_wrote}
use Rattle.pickle_script.proofs.texts.calls.answer_outside.Goals as goal

pub returns-in_err-write_outside-clause-err : goal.returns-in_err-write_outside-clause-err
returns-in_err-write_outside-clause-err g c =
    stopped_so _ _ _ c.from_residual.ensures.1 (outside_broke (manner c.args.detail c.args.holes.now) c.args.pickles c.args.bytes.now c.args.hole _ _ c.requires c.in_err-write_outside.ensures)

pub returns-clause-ok : goal.returns-clause-ok
returns-clause-ok g c =
    outside_wrote (manner c.args.detail c.args.holes.now) c.args.pickles c.args.bytes.now c.args.hole _ _ c.requires c.in_ok-write_outside.ensures
