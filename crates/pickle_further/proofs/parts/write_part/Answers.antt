use Rattle.pickle_further.specs.Parts.{wording}
use Rattle.pickle_further.proofs.Pieces.{stopped}
use Rattle.pickle_further.proofs.Partly.{header_broken, tale_puts}
use Rattle.pickle_further.proofs.parts.write_part.Goals as goal

pub returns-in_err-write_heading : goal.returns-in_err-write_heading
returns-in_err-write_heading g c =
    λ s e. stopped _ _ _ _ _ c.from_residual.ensures.1 (header_broken (wording g.T.Teller.telling g.T.Worder.words) c.args.holes.now c.args.way s c.args.machine.now.state c.args.item _ _ e c.in_err-write_heading.ensures)

pub returns : goal.returns
returns g c = λ s e. tale_puts (wording g.T.Teller.telling g.T.Worder.words) c.args.holes.now c.args.way s c.args.machine.now.state c.args.item _ _ _ _ e c.in_ok-write_heading.ensures c.write_tale.ensures
