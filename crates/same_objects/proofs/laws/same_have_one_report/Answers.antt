use Rattle.same_objects.proofs.Endings.{one_text as law}
use Rattle.same_objects.proofs.laws.same_have_one_report.Goals as goal

pub returns : goal.returns
returns c = law
