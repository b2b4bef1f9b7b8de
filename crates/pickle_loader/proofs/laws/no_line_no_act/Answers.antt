use Rattle.pickle_loader.proofs.Lines.{no_line_no_act as law}
use Rattle.pickle_loader.proofs.laws.no_line_no_act.Goals as goal

pub returns : goal.returns
returns c = law
