use Rattle.program_answers.proofs.Gates.{first_zero, first_not}
use Rattle.program_answers.proofs.gate.first_other.Goals as goal

pub returns-then-status-eq0 : goal.returns-then-status-eq0
returns-then-status-eq0 c = first_zero _ _ c.if-status-eq0.true

pub returns-else-status-eq0 : goal.returns-else-status-eq0
returns-else-status-eq0 c = first_not _ _ c.if-status-eq0.false
