use Rattle.gate_laws.proofs.Uses.{imports_are_in_the_list as law}
use Rattle.gate_laws.proofs.laws.imports_are_in_the_list.Goals as goal

pub returns : goal.returns
returns c = law
