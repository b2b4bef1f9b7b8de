use Rattle.pickle_machine.proofs.LoaderRows.{loaders_take_what_is_accepted as law}
use Rattle.pickle_machine.proofs.outline_laws.loaders_take_what_is_accepted.Goals as goal

pub returns : goal.returns
returns c = law
