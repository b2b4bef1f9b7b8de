use Rattle.pickle_allow.proofs.Together.{together}
use Rattle.pickle_allow.proofs.laws.lists_together.Goals as goal

pub returns : goal.returns
returns c = together
