use Rattle.pickle_calls.specs.Manner.{manner}
use Rattle.pickle_further.specs.Parts.{wording}
use Rattle.pickle_further.proofs.Pieces.{stopped}
use Rattle.pickle_further.proofs.Kept.{loss_broken, loss_cut, loss_put}
use Rattle.pickle_further.proofs.texts.write_losses.Goals as goal

pub returns-in_err-write_losing : goal.returns-in_err-write_losing
returns-in_err-write_losing g c =
    let broken = rw c.in_file.ensures at c.in_err-write_losing.ensures in
    stopped _ _ _ _ _ c.from_residual.ensures.1 (loss_broken (wording g.T.Teller.telling g.T.Worder.words) (manner c.args.detail c.args.holes.now) c.args.bytes.now c.args.offset _ _ broken)

pub returns-in_err-write_lost : goal.returns-in_err-write_lost
returns-in_err-write_lost g c =
    let line = rw c.in_file.ensures at c.in_ok-write_losing.ensures in
    stopped _ _ _ _ _ c.from_residual-in_err-write_lost.ensures.1 (loss_cut (wording g.T.Teller.telling g.T.Worder.words) (manner c.args.detail c.args.holes.now) c.args.bytes.now c.args.offset _ _ _ _ line c.in_err-write_lost.ensures)

pub returns : goal.returns
returns g c =
    let line = rw c.in_file.ensures at c.in_ok-write_losing.ensures in
    loss_put (wording g.T.Teller.telling g.T.Worder.words) (manner c.args.detail c.args.holes.now) c.args.bytes.now c.args.offset _ _ _ _ _ line c.in_ok-write_lost.ensures c.write_lost-2.ensures
