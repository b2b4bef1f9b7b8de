use Rattle.python_literals.proofs.ReadBack.{bytes_read_back as law}
use Rattle.python_literals.proofs.laws.bytes_read_back.Goals as goal

pub returns : goal.returns
returns c = law
