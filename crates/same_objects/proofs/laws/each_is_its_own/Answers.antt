use Rattle.same_objects.proofs.Endings.{each_own as law}
use Rattle.same_objects.proofs.laws.each_is_its_own.Goals as goal

pub returns : goal.returns
returns c = law
