use Rattle.calls_laws.proofs.LinesApart.{quotes_stay as law}
use Rattle.calls_laws.proofs.laws.quotes_stay.Goals as goal

pub returns : goal.returns
returns c = law
