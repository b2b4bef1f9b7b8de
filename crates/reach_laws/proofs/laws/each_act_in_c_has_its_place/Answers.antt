use Rattle.reach_laws.proofs.Placing.{each_act_in_c_has_its_place as law}
use Rattle.reach_laws.proofs.laws.each_act_in_c_has_its_place.Goals as goal

pub returns : goal.returns
returns c = law
