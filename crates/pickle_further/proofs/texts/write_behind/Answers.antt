use Rattle.pickle_calls.specs.Manner.{manner}
use Rattle.pickle_further.specs.Parts.{wording}
use Rattle.pickle_further.proofs.Pieces.{stopped}
use Rattle.pickle_further.proofs.Kept.{losses_cut, behind_broken, behind_done}
use Rattle.pickle_further.proofs.texts.write_behind.Goals as goal

pub returns-in_err-write_losses_if : goal.returns-in_err-write_losses_if
returns-in_err-write_losses_if g c = stopped _ _ _ _ _ c.from_residual.ensures.1 (losses_cut (wording g.T.Teller.telling g.T.Worder.words) (manner c.args.detail c.args.holes.now) c.args.bytes.now c.args.loss c.args.mixed _ _ _ c.in_err-write_losses_if.ensures)

pub returns-in_err-write_mixed : goal.returns-in_err-write_mixed
returns-in_err-write_mixed g c =
    stopped _ _ _ _ _ c.from_residual-in_err-write_mixed.ensures.1
    (behind_broken (wording g.T.Teller.telling g.T.Worder.words) (manner c.args.detail c.args.holes.now) c.args.bytes.now c.args.loss c.args.mixed _ _ _ c.in_ok-write_losses_if.ensures c.in_err-write_mixed.ensures)

pub returns : goal.returns
returns g c = behind_done (wording g.T.Teller.telling g.T.Worder.words) (manner c.args.detail c.args.holes.now) c.args.bytes.now c.args.loss c.args.mixed _ _ _ c.in_ok-write_losses_if.ensures c.in_ok-write_mixed.ensures
