use Rattle.pickle_loader.proofs.WholeText.{whole_text_is_its_lines as law}
use Rattle.pickle_loader.proofs.laws.whole_text_is_its_lines.Goals as goal

pub returns : goal.returns
returns c = law
