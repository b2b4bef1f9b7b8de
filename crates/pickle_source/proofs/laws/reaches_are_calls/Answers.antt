use Rattle.pickle_source.proofs.Reaching.{reaches_are_calls as law}
use Rattle.pickle_source.proofs.laws.reaches_are_calls.Goals as goal

pub returns : goal.returns
returns c = law
