use Rattle.pickle_calls.specs.Manner.{manner}
use Rattle.pickle_further.proofs.Tales.{err_is}
use Rattle.calls_json.proofs.Answers.{lines_cut, status_broken, all_written}
use Rattle.calls_json.proofs.told.calls_lines.Goals as goal

pub returns-in_err-status-clause-err : goal.returns-in_err-status-clause-err
returns-in_err-status-clause-err g c =
    err_is _ _ _ c.from_residual.ensures.1 (lines_cut (manner c.args.detail c.args.holes.now) _ _ _ _ _ c.in_err-status.ensures.err)

pub returns-in_err-write_status-clause-err : goal.returns-in_err-write_status-clause-err
returns-in_err-write_status-clause-err g c =
    err_is _ _ _ c.from_residual-in_err-write_status.ensures.1
    (status_broken (manner c.args.detail c.args.holes.now) _ _ _ _ _ _ c.in_ok-status.ensures.ok c.in_err-write_status.ensures)

pub returns-clause-ok : goal.returns-clause-ok
returns-clause-ok g c = all_written (manner c.args.detail c.args.holes.now) _ _ _ _ _ _ c.in_ok-status.ensures.ok c.in_ok-write_status.ensures
