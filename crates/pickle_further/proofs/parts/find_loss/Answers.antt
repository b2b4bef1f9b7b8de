use Rattle.pickle_further.proofs.Partly.{found_offset, no_offset}
use Rattle.pickle_further.proofs.parts.find_loss.Goals as goal

pub returns-in-Some-clause-ok : goal.returns-in-Some-clause-ok
returns-in-Some-clause-ok c = found_offset c.args.way _ c.in-Some.found c.in_ok-found.field-0 _ c.in-Some.is c.in_ok-found.ensures.finds

pub returns-in-None-clause-ok : goal.returns-in-None-clause-ok
returns-in-None-clause-ok c = no_offset c.args.way _ c.in_ok-found.field-0 _ c.in-None.is c.in_ok-found.ensures.finds
