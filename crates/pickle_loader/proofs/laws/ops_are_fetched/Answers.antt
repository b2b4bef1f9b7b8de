use Rattle.pickle_loader.proofs.Fetching.{ops_are_fetched as law}
use Rattle.pickle_loader.proofs.laws.ops_are_fetched.Goals as goal

pub returns : goal.returns
returns c = law
