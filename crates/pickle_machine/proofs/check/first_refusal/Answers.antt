use Rattle.std.proofs.Common.{◌∙◌}
use Rattle.pickle_machine.proofs.Firsts.{first_refusals}
use Rattle.pickle_machine.proofs.check.first_refusal.Goals as goal

pub returns-clause-first : goal.returns-clause-first
returns-clause-first c = λ s. c.refusal.ensures.first ∙ first_refusals c.args.row s
