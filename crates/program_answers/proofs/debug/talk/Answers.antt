use Rattle.program_answers.proofs.AtDevice.{unopened}
use Rattle.program_answers.proofs.debug.talk.Goals as goal

pub returns-in_err-session-in-None-clause-talks : goal.returns-in_err-session-in-None-clause-talks
returns-in_err-session-in-None-clause-talks g c = unopened _ _ _ _ _ _ _ c.from_residual.ensures.1 c.in_err-session-in-None.ensures.memory

pub returns-in_err-session-in-Some-clause-talks : goal.returns-in_err-session-in-Some-clause-talks
returns-in_err-session-in-Some-clause-talks g c =
    unopened _ _ _ _ _ _ _ c.from_residual-in_err-session-in-Some.ensures.1 c.in_err-session-in-Some.ensures.memory
