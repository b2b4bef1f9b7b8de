use Rattle.pickle_loader.proofs.OneMemo.{nothing_else_with_one_memo as law}
use Rattle.pickle_loader.proofs.laws.nothing_else_with_one_memo.Goals as goal

pub returns : goal.returns
returns c = law
