use Rattle.pickle_further.specs.Parts.{wording}
use Rattle.pickle_further.proofs.Pieces.{stopped}
use Rattle.pickle_further.proofs.Partly.{tale_cut, end_cut, end_done}
use Rattle.pickle_further.proofs.parts.write_tale.Goals as goal

pub returns-in_err-end : goal.returns-in_err-end
returns-in_err-end g c = stopped _ _ _ _ _ c.from_residual.ensures.1 (tale_cut (wording g.T.Teller.telling g.T.Worder.words) _ _ _ _ _ c.in_err-end.ensures.err)

pub returns-in_err-write_closed : goal.returns-in_err-write_closed
returns-in_err-write_closed g c =
    let cut = rw c.closing_in.ensures at c.in_err-write_closed.ensures in
    stopped _ _ _ _ _ c.from_residual-in_err-write_closed.ensures.1 (end_cut (wording g.T.Teller.telling g.T.Worder.words) _ _ _ _ _ _ c.in_ok-end.ensures.ok cut)

pub returns : goal.returns
returns g c = let done = rw c.closing_in.ensures at c.in_ok-write_closed.ensures in end_done (wording g.T.Teller.telling g.T.Worder.words) _ _ _ _ _ _ c.in_ok-end.ensures.ok done
