use Rattle.npy_laws.proofs.Agreeing.{one_npy as law}
use Rattle.npy_laws.proofs.laws.one_npy.Goals as goal

pub returns : goal.returns
returns c = law
