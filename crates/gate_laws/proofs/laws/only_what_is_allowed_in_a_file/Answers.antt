use Rattle.gate_laws.proofs.Files.{only_what_is_allowed_in_a_file as law}
use Rattle.gate_laws.proofs.laws.only_what_is_allowed_in_a_file.Goals as goal

pub returns : goal.returns
returns c = law
