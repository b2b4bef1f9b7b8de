use Rattle.reach_laws.proofs.Told.{each_act_of_a_file_is_told as law}
use Rattle.reach_laws.proofs.laws.each_act_of_a_file_is_told.Goals as goal

pub returns : goal.returns
returns c = law
