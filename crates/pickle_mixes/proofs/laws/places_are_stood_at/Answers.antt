use Rattle.pickle_mixes.proofs.Stands.{places_are_stood_at as law}
use Rattle.pickle_mixes.proofs.laws.places_are_stood_at.Goals as goal

pub returns : goal.returns
returns c = law
