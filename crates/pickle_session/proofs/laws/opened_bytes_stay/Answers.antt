use Rattle.pickle_session.proofs.Reached as reached
use Rattle.pickle_session.proofs.laws.opened_bytes_stay.Goals as goal

pub returns : goal.returns
returns c = reached.opened_stays
