use Rattle.pickle_machine.proofs.Outlines.{refusals_read_outlines as law}
use Rattle.pickle_machine.proofs.outline_laws.refusals_read_outlines.Goals as goal

pub returns : goal.returns
returns c = law
