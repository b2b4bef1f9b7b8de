use Rattle.pickle_loader.proofs.ShownFiles.{nothing_else_in_a_file_with_one_memo as law}
use Rattle.pickle_loader.proofs.laws.nothing_else_in_a_file_with_one_memo.Goals as goal

pub returns : goal.returns
returns c = law
