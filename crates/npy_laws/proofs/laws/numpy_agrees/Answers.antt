use Rattle.npy_laws.proofs.Agreeing.{numpy_agrees as law}
use Rattle.npy_laws.proofs.laws.numpy_agrees.Goals as goal

pub returns : goal.returns
returns c = law
