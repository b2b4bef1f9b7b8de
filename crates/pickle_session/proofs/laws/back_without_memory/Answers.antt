use Rattle.pickle_session.proofs.Reached.{obeys_back}
use Rattle.pickle_session.proofs.laws.back_without_memory.Goals as goal

pub returns-clause-answers : goal.returns-clause-answers
returns-clause-answers g c = obeys_back _ _ _ _ c.requires.whole c.requires.back c.obey.ensures.answers
