use Rattle.calls_json.proofs.Readable.{event_lines_read_back as law}
use Rattle.calls_json.proofs.laws.event_lines_read_back.Goals as goal

pub returns : goal.returns
returns c = law
