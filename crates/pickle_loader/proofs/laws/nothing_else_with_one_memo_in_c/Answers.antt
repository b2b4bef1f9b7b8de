use Rattle.pickle_loader.proofs.OneMemo.{nothing_else_with_one_memo_in_c as law}
use Rattle.pickle_loader.proofs.laws.nothing_else_with_one_memo_in_c.Goals as goal

pub returns : goal.returns
returns c = law
