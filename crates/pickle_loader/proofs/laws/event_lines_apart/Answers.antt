use Rattle.pickle_loader.proofs.EventLines.{event_lines_apart as law}
use Rattle.pickle_loader.proofs.laws.event_lines_apart.Goals as goal

pub returns : goal.returns
returns c = law
