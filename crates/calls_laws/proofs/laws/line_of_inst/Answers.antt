use Rattle.calls_laws.proofs.Imports.{line_of_inst as law}
use Rattle.calls_laws.proofs.laws.line_of_inst.Goals as goal

pub returns : goal.returns
returns c = law
