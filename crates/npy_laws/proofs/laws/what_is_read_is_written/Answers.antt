use Rattle.npy_laws.proofs.Header.{what_is_read_is_written as law}
use Rattle.npy_laws.proofs.laws.what_is_read_is_written.Goals as goal

pub returns : goal.returns
returns c = law
