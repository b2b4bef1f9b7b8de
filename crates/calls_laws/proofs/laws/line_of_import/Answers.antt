use Rattle.calls_laws.proofs.Imports.{line_of_import as law}
use Rattle.calls_laws.proofs.laws.line_of_import.Goals as goal

pub returns : goal.returns
returns c = law
