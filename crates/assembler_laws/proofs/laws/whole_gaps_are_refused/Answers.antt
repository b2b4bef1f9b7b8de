use Rattle.assembler_laws.proofs.Listings.{whole_gaps_are_refused}
use Rattle.assembler_laws.proofs.laws.whole_gaps_are_refused.Goals as goal

pub returns : goal.returns
returns c = whole_gaps_are_refused
