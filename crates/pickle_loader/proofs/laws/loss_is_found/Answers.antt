use Rattle.pickle_loader.proofs.Losses.{loss_is_found as law}
use Rattle.pickle_loader.proofs.laws.loss_is_found.Goals as goal

pub returns : goal.returns
returns c = law
