use Rattle.pickle_loader.proofs.OneMemo.{one_whole_text as law}
use Rattle.pickle_loader.proofs.laws.one_whole_text.Goals as goal

pub returns : goal.returns
returns c = law
