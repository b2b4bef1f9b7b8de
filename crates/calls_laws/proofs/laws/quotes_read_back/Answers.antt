use Rattle.calls_laws.proofs.QuotesApart.{quotes_read_back as law}
use Rattle.calls_laws.proofs.laws.quotes_read_back.Goals as goal

pub returns : goal.returns
returns c = law
