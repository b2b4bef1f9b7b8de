use Rattle.session_laws.proofs.Letters as letters
use Rattle.session_laws.proofs.laws.lines_apart.Goals as goal

pub returns : goal.returns
returns c = letters.lines_apart
