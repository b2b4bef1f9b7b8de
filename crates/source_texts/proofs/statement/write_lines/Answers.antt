use Rattle.std.proofs.Common.{arith}
use Rattle.pickle_io.proofs.Devices.{text_steps}
use Rattle.source_texts.specs.Statement.{lines_text}
use Rattle.source_texts.proofs.statement.write_lines.Goals as goal

pub returns-in_err-write_acts : goal.returns-in_err-write_acts
unfolding lines_text
returns-in_err-write_acts g c = grind (arith, text_steps)

pub returns : goal.returns
unfolding lines_text
returns g c = grind (arith, text_steps)
