use Rattle.pickle_loader.proofs.Lines.{acts_have_lines as law}
use Rattle.pickle_loader.proofs.laws.acts_have_lines.Goals as goal

pub returns : goal.returns
returns c = law
