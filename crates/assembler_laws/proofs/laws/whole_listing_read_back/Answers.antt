use Rattle.assembler_laws.proofs.Listings.{whole_listing_read_back}
use Rattle.assembler_laws.proofs.laws.whole_listing_read_back.Goals as goal

pub returns : goal.returns
returns c = whole_listing_read_back
