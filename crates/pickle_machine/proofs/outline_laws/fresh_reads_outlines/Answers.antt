use Rattle.pickle_machine.proofs.Outlines.{fresh_reads_outlines as law}
use Rattle.pickle_machine.proofs.outline_laws.fresh_reads_outlines.Goals as goal

pub returns : goal.returns
returns c = law
