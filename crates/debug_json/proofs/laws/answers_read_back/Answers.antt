use Rattle.debug_json.proofs.Readable.{answers_read_back as law}
use Rattle.debug_json.proofs.laws.answers_read_back.Goals as goal

pub returns : goal.returns
returns c = law
