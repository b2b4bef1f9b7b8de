use Rattle.pickle_json.proofs.ReachReadable.{reach_lines_read_back as law}
use Rattle.pickle_json.proofs.laws.reach_lines_read_back.Goals as goal

pub returns : goal.returns
returns c = law
