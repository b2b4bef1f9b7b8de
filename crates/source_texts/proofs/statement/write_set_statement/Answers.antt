use Rattle.std.proofs.Common.{arith}
use Rattle.pickle_io.proofs.Devices.{text_steps}
use Rattle.source_texts.proofs.statement.write_set_statement.Goals as goal

pub returns-in_err-write_set : goal.returns-in_err-write_set
returns-in_err-write_set g c = grind (arith, text_steps)

pub returns : goal.returns
returns g c = grind (arith, text_steps)
