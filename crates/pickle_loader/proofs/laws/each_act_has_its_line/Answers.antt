use Rattle.pickle_loader.proofs.ActLines.{each_act_has_its_line as law}
use Rattle.pickle_loader.proofs.laws.each_act_has_its_line.Goals as goal

pub returns : goal.returns
returns c = law
