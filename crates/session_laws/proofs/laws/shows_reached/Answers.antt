use Rattle.session_laws.proofs.Walked as walked
use Rattle.session_laws.proofs.laws.shows_reached.Goals as goal

pub returns : goal.returns
returns c = walked.shows_reached
