use Rattle.pickle_machine.proofs.LoaderRows.{loaders_take_moves as law}
use Rattle.pickle_machine.proofs.outline_laws.loaders_take_moves.Goals as goal

pub returns : goal.returns
returns c = law
