use Rattle.picklestep.proofs.answer_here.Goals as goal

pub returns-clause-answers : goal.returns-clause-answers
returns-clause-answers g c = record { source = _; left = _; old = _; new = _; answers = c.answer.ensures }
