use Rattle.pickle_script.proofs.GateLaws.{zero_where_passing as law}
use Rattle.pickle_script.proofs.laws.zero_where_passing.Goals as goal

pub returns : goal.returns
returns c = law
