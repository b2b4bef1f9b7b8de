use Rattle.pickle_further.proofs.Behind.{no_line_no_reach_behind as law}
use Rattle.pickle_further.proofs.laws.no_line_no_reach_behind.Goals as goal

pub returns : goal.returns
returns c = law
