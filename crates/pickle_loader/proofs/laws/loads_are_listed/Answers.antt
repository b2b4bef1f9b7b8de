use Rattle.pickle_loader.proofs.Listing.{loads_are_listed as law}
use Rattle.pickle_loader.proofs.laws.loads_are_listed.Goals as goal

pub returns : goal.returns
returns c = law
