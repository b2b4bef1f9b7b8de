use Rattle.assembler_laws.proofs.Listings.{gaps_are_refused}
use Rattle.assembler_laws.proofs.laws.gaps_are_refused.Goals as goal

pub returns : goal.returns
returns c = gaps_are_refused
