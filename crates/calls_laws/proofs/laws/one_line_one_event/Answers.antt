use Rattle.calls_laws.proofs.OneEvent.{one_line_one_event as law}
use Rattle.calls_laws.proofs.laws.one_line_one_event.Goals as goal

pub returns : goal.returns
returns c = law
