use Rattle.std.proofs.Common.{◌∙◌}
use Rattle.pickle_further.proofs.Mixing.{mixed_found, none_mixed}
use Rattle.pickle_further.proofs.parts.find_mixed.Goals as goal

pub returns-in-Some-clause-ok : goal.returns-in-Some-clause-ok
returns-in-Some-clause-ok c = c.mixed_there.ensures ∙ mixed_found c.args.way _ c.in-Some.found c.in_ok-found.field-0 _ c.in-Some.is c.in_ok-found.ensures.finds

pub returns-in-None-clause-ok : goal.returns-in-None-clause-ok
returns-in-None-clause-ok c = none_mixed c.args.way _ c.in_ok-found.field-0 _ c.in-None.is c.in_ok-found.ensures.finds
