use Rattle.assembler_laws.proofs.Listings.{item_line_read_back}
use Rattle.assembler_laws.proofs.laws.item_line_read_back.Goals as goal

pub returns : goal.returns
returns c = item_line_read_back
