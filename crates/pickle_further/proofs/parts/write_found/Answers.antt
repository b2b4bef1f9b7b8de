use Rattle.pickle_further.specs.Parts.{wording}
use Rattle.pickle_further.proofs.Pieces.{stopped, memory_first}
use Rattle.pickle_further.proofs.Partly.{lost_puts}
use Rattle.pickle_further.proofs.parts.write_found.Goals as goal

pub returns-in_err-found : goal.returns-in_err-found
returns-in_err-found g c = stopped _ _ _ _ _ c.from_residual.ensures.1 (memory_first _ _ _ c.in_err-found.ensures.err)

pub returns-in-Some : goal.returns-in-Some
returns-in-Some g c = lost_puts (wording g.T.Teller.telling g.T.Worder.words) c.args.holes.now c.args.way _ c.in-Some.found c.in_ok-found.field-0 _ _ _ _ c.in-Some.is c.in_ok-found.ensures.finds c.write_visited.ensures
