use Rattle.pickle_json.proofs.Readable.{end_lines_read_back as law}
use Rattle.pickle_json.proofs.laws.end_lines_read_back.Goals as goal

pub returns : goal.returns
returns c = law
