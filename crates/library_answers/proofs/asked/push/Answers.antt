use Rattle.library_answers.proofs.Left.{end_added}
use Rattle.library_answers.proofs.asked.push.Goals as goal

pub returns-clause-end : goal.returns-clause-end
returns-clause-end c = end_added c.push.result _ _ _ c.push.ensures.ok
