use Rattle.pickle_json.proofs.FormReadable.{form_lines_read_back as law}
use Rattle.pickle_json.proofs.laws.form_lines_read_back.Goals as goal

pub returns : goal.returns
returns c = law
