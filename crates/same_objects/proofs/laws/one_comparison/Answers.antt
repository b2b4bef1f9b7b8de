use Rattle.same_objects.proofs.Endings.{alone as law}
use Rattle.same_objects.proofs.laws.one_comparison.Goals as goal

pub returns : goal.returns
returns c = law
