use Rattle.gate_laws.proofs.Files.{only_what_is_allowed_of_a_pipe as law}
use Rattle.gate_laws.proofs.laws.only_what_is_allowed_of_a_pipe.Goals as goal

pub returns : goal.returns
returns c = law
