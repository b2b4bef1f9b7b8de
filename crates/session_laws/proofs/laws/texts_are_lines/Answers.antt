use Rattle.session_laws.proofs.Texts.{texts}
use Rattle.session_laws.proofs.laws.texts_are_lines.Goals as goal

pub returns : goal.returns
returns c = texts
