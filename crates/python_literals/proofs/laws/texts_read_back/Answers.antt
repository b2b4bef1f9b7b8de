use Rattle.python_literals.proofs.ReadBack.{texts_read_back as law}
use Rattle.python_literals.proofs.laws.texts_read_back.Goals as goal

pub returns : goal.returns
returns c = law
