use Rattle.pickle_loader.proofs.FlatStacks.{one_stack as law}
use Rattle.pickle_loader.proofs.laws.one_stack.Goals as goal

pub returns : goal.returns
returns c = law
