use Rattle.pickle_script.proofs.Cuts.{one_cut as law}
use Rattle.pickle_script.proofs.laws.one_cut.Goals as goal

pub returns : goal.returns
returns c = law
