use Rattle.reach_laws.proofs.Lossless.{each_act_of_a_file_has_its_line as law}
use Rattle.reach_laws.proofs.laws.each_act_of_a_file_has_its_line.Goals as goal

pub returns : goal.returns
returns c = law
