use Rattle.pickle_further.proofs.PartLines.{parts_begin_at_lines as law}
use Rattle.pickle_further.proofs.laws.parts_begin_at_lines.Goals as goal

pub returns : goal.returns
returns c = law
