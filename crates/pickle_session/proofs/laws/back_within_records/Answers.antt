use Rattle.pickle_session.proofs.Reached.{obeys_near}
use Rattle.pickle_session.proofs.laws.back_within_records.Goals as goal

pub returns-clause-answers : goal.returns-clause-answers
returns-clause-answers g c = obeys_near _ _ _ _ c.requires.near c.requires.back c.obey.ensures.answers
