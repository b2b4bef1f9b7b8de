use Rattle.pickle_loader.proofs.Details.{detail_tells_alike as law}
use Rattle.pickle_loader.proofs.laws.detail_tells_alike.Goals as goal

pub returns : goal.returns
returns c = law
