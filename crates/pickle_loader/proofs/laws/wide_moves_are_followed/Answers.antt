use Rattle.pickle_loader.proofs.Beyond.{wide_moves_are_followed as law}
use Rattle.pickle_loader.proofs.laws.wide_moves_are_followed.Goals as goal

pub returns : goal.returns
returns c = law
