use Rattle.pickle_loader.proofs.Bytes.{bytes_are_listed as law}
use Rattle.pickle_loader.proofs.laws.bytes_are_listed.Goals as goal

pub returns : goal.returns
returns c = law
