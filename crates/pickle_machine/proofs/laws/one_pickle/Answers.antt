use Rattle.pickle_machine.proofs.Single.{one_pickle as law}
use Rattle.pickle_machine.proofs.laws.one_pickle.Goals as goal

pub returns : goal.returns
returns c = law
