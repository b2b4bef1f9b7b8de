use Rattle.pickle_machine.proofs.Outlines.{moves_read_outlines as law}
use Rattle.pickle_machine.proofs.outline_laws.moves_read_outlines.Goals as goal

pub returns : goal.returns
returns c = law
