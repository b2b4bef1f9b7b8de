use Rattle.opcode_lines.proofs.Readable.{entry_lines_read_back as law}
use Rattle.opcode_lines.proofs.laws.entry_lines_read_back.Goals as goal

pub returns : goal.returns
returns c = law
