use Rattle.pickle_mixes.proofs.Stands.{places_are_found as law}
use Rattle.pickle_mixes.proofs.laws.places_are_found.Goals as goal

pub returns : goal.returns
returns c = law
