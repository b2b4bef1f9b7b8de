use Rattle.python_literals.proofs.Floating.{floats_read_back as law}
use Rattle.python_literals.proofs.laws.floats_read_back.Goals as goal

pub returns : goal.returns
returns c = law
