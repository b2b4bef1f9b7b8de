use Rattle.pickle_calls.specs.Manner.{manner}
use Rattle.pickle_further.specs.Parts.{wording}
use Rattle.pickle_further.proofs.Tales.{err_is}
use Rattle.mixes_text.proofs.Wholes.{lines_cut, mixes_cut, all_written}
use Rattle.mixes_text.proofs.whole.calls.Goals as goal

pub returns-in_err-status-clause-err : goal.returns-in_err-status-clause-err
returns-in_err-status-clause-err g c =
    err_is _ _ _ c.from_residual.ensures.1 (lines_cut (wording g.T.Teller.telling g.T.Worder.words) g.T.MixWorder.mixes (manner c.args.detail c.args.holes.now) _ _ _ _ _ c.in_err-status.ensures.err)

pub returns-in_err-write_mixes-clause-err : goal.returns-in_err-write_mixes-clause-err
returns-in_err-write_mixes-clause-err g c =
    err_is _ _ _ c.from_residual-in_err-write_mixes.ensures.1
    (mixes_cut (wording g.T.Teller.telling g.T.Worder.words) g.T.MixWorder.mixes (manner c.args.detail c.args.holes.now) _ _ _ _ _ _ _ c.in_ok-status.ensures.ok c.in_err-write_mixes.ensures)

pub returns-clause-ok : goal.returns-clause-ok
returns-clause-ok g c =
    all_written (wording g.T.Teller.telling g.T.Worder.words) g.T.MixWorder.mixes (manner c.args.detail c.args.holes.now) _ _ _ _ _ _ c.in_ok-status.ensures.ok c.in_ok-write_mixes.ensures
