use Rattle.pickle_source.proofs.Reaching.{acts_come_first as law}
use Rattle.pickle_source.proofs.laws.acts_come_first.Goals as goal

pub returns : goal.returns
returns c = law
