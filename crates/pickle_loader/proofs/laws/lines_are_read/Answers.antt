use Rattle.pickle_loader.proofs.Readings.{lines_are_read as law}
use Rattle.pickle_loader.proofs.laws.lines_are_read.Goals as goal

pub returns : goal.returns
returns c = law
