use Rattle.python_literals.proofs.Numerals.{ints_read_back as law}
use Rattle.python_literals.proofs.laws.ints_read_back.Goals as goal

pub returns : goal.returns
returns c = law
