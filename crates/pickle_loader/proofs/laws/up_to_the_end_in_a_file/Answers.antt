use Rattle.pickle_loader.proofs.FileLines.{up_to_the_end_in_a_file as law}
use Rattle.pickle_loader.proofs.laws.up_to_the_end_in_a_file.Goals as goal

pub returns : goal.returns
returns c = law
