use Rattle.object_texts.proofs.Reports.{one_report as law}
use Rattle.object_texts.proofs.laws.one_report.Goals as goal

pub returns : goal.returns
returns c = law
