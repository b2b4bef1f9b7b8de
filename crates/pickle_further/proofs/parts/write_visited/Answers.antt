use Rattle.pickle_further.specs.Inside.{standing_of}
use Rattle.pickle_further.specs.Parts.{wording}
use Rattle.pickle_further.proofs.Pieces.{stopped, memory_first}
use Rattle.pickle_further.proofs.Partly.{event_puts, no_event_puts}
use Rattle.pickle_further.proofs.parts.write_visited.Goals as goal

pub returns-in_err-found : goal.returns-in_err-found
returns-in_err-found g c = λ s e. stopped _ _ _ _ _ c.from_residual.ensures.1 (memory_first _ _ _ c.in_err-found.ensures.err)

pub returns-in-Some : goal.returns-in-Some
returns-in-Some g c =
    λ s e. event_puts (wording g.T.Teller.telling g.T.Worder.words) c.args.holes.now c.args.way (standing_of s c.args.item) c.in-Some.found c.in_ok-found.field-0 _ _ _ _ c.in-Some.is (c.in_ok-found.ensures.finds s e) c.write_part.ensures

pub returns-in-None : goal.returns-in-None
returns-in-None g c = λ s e. no_event_puts (wording g.T.Teller.telling g.T.Worder.words) c.args.holes.now c.args.way (standing_of s c.args.item) c.in_ok-found.field-0 _ _ c.in-None.is (c.in_ok-found.ensures.finds s e)
