use Rattle.objects_json.proofs.Readable.{object_lines_read_back as law}
use Rattle.objects_json.proofs.laws.object_lines_read_back.Goals as goal

pub returns : goal.returns
returns c = law
