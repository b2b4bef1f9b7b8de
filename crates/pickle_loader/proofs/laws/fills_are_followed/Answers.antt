use Rattle.pickle_loader.proofs.Viewed.{fills_are_followed as law}
use Rattle.pickle_loader.proofs.laws.fills_are_followed.Goals as goal

pub returns : goal.returns
returns c = law
