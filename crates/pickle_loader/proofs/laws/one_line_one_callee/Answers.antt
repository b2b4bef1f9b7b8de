use Rattle.pickle_loader.proofs.Callees.{one_line_one_callee as law}
use Rattle.pickle_loader.proofs.laws.one_line_one_callee.Goals as goal

pub returns : goal.returns
returns c = law
