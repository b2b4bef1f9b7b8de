use Rattle.session_laws.proofs.Pieces.{pieces}
use Rattle.session_laws.proofs.laws.pieces_are_lines.Goals as goal

pub returns : goal.returns
returns c = pieces
