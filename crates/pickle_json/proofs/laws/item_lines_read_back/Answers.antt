use Rattle.pickle_json.proofs.Readable.{item_lines_read_back as law}
use Rattle.pickle_json.proofs.laws.item_lines_read_back.Goals as goal

pub returns : goal.returns
returns c = law
