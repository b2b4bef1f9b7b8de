use Rattle.assembler_laws.proofs.Listings.{listing_read_back}
use Rattle.assembler_laws.proofs.laws.listing_read_back.Goals as goal

pub returns : goal.returns
returns c = listing_read_back
