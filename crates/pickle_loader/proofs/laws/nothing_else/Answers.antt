use Rattle.pickle_loader.proofs.Bytes.{nothing_else as law}
use Rattle.pickle_loader.proofs.laws.nothing_else.Goals as goal

pub returns : goal.returns
returns c = law
