use Rattle.pickle_loader.proofs.Keys.{keys_agree as law}
use Rattle.pickle_loader.proofs.laws.keys_agree.Goals as goal

pub returns : goal.returns
returns c = law
