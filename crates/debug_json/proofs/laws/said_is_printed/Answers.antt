use Rattle.debug_json.proofs.Printed.{said_is_printed as law}
use Rattle.debug_json.proofs.laws.said_is_printed.Goals as goal

pub returns : goal.returns
returns c = law
