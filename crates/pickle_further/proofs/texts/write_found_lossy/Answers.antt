use Rattle.pickle_calls.specs.Manner.{manner}
use Rattle.pickle_further.specs.Parts.{wording}
use Rattle.pickle_further.proofs.Pieces.{stopped}
use Rattle.pickle_further.proofs.Mixing.{lossy_cut, lossy_first, lossy_broken, lossy_done}
use Rattle.pickle_further.proofs.texts.write_found_lossy.Goals as goal

pub returns-in_err-write_lost : goal.returns-in_err-write_lost
returns-in_err-write_lost g c = stopped _ _ _ _ _ c.from_residual.ensures.1 (lossy_cut (wording g.T.Teller.telling g.T.Worder.words) (manner c.args.detail c.args.holes.now) c.args.pickles c.args.bytes.now _ _ _ c.in_err-write_lost.ensures)

pub returns-in_err-mixed : goal.returns-in_err-mixed
returns-in_err-mixed g c =
    stopped _ _ _ _ _ c.from_residual-in_err-mixed.ensures.1
    (lossy_first (wording g.T.Teller.telling g.T.Worder.words) (manner c.args.detail c.args.holes.now) c.args.pickles c.args.bytes.now _ _ _ c.in_err-mixed.ensures.err c.in_ok-write_lost.ensures)

pub returns-in_err-write_mixed : goal.returns-in_err-write_mixed
returns-in_err-write_mixed g c =
    stopped _ _ _ _ _ c.from_residual-in_err-write_mixed.ensures.1
    (lossy_broken (wording g.T.Teller.telling g.T.Worder.words) (manner c.args.detail c.args.holes.now) c.args.pickles c.args.bytes.now _ _ _ _ c.in_ok-mixed.ensures.ok c.in_ok-write_lost.ensures c.in_err-write_mixed.ensures)

pub returns : goal.returns
returns g c = lossy_done (wording g.T.Teller.telling g.T.Worder.words) (manner c.args.detail c.args.holes.now) c.args.pickles c.args.bytes.now _ _ _ _ c.in_ok-mixed.ensures.ok c.in_ok-write_lost.ensures c.in_ok-write_mixed.ensures
