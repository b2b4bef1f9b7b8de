use Rattle.gate_laws.proofs.Untouching.{nothing_is_touched_in_a_file as law}
use Rattle.gate_laws.proofs.laws.nothing_is_touched_in_a_file.Goals as goal

pub returns : goal.returns
returns c = law
