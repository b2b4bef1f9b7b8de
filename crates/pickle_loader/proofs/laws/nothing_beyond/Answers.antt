use Rattle.pickle_loader.proofs.Ways.{nothing_beyond as law}
use Rattle.pickle_loader.proofs.laws.nothing_beyond.Goals as goal

pub returns : goal.returns
returns c = law
