use Rattle.pickle_loader.proofs.Lines.{all_listed as law}
use Rattle.pickle_loader.proofs.laws.all_listed.Goals as goal

pub returns : goal.returns
returns c = law
