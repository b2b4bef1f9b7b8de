use Rattle.assembler_laws.proofs.Listings.{whole_line_read_back}
use Rattle.assembler_laws.proofs.laws.whole_line_read_back.Goals as goal

pub returns : goal.returns
returns c = whole_line_read_back
