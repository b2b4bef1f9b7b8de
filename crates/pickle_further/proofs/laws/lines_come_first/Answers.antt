use Rattle.pickle_further.proofs.Behind.{lines_come_first as law}
use Rattle.pickle_further.proofs.laws.lines_come_first.Goals as goal

pub returns : goal.returns
returns c = law
