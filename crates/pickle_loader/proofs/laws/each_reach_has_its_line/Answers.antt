use Rattle.pickle_loader.proofs.OneMemo.{each_reach_has_its_line as law}
use Rattle.pickle_loader.proofs.laws.each_reach_has_its_line.Goals as goal

pub returns : goal.returns
returns c = law
