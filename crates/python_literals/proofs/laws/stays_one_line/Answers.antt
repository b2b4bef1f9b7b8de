use Rattle.python_literals.proofs.Lawful.{stays_one_line as law}
use Rattle.python_literals.proofs.laws.stays_one_line.Goals as goal

pub returns : goal.returns
returns c = law
