use Rattle.pickle_loader.proofs.ShortReads.{pipe_is_file as law}
use Rattle.pickle_loader.proofs.laws.pipe_is_file.Goals as goal

pub returns : goal.returns
returns c = law
