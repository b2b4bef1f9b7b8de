use Rattle.pickle_script.proofs.OneLine.{one_by_one as law}
use Rattle.pickle_script.proofs.laws.one_by_one.Goals as goal

pub returns : goal.returns
returns c = law
