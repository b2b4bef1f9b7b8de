use Rattle.source_texts.specs.Statement.{given_text}
use Rattle.std.proofs.Common.{arith}
use Rattle.pickle_io.proofs.Devices.{text_steps}
use Rattle.source_texts.proofs.statement.write_given.Goals as goal

pub returns-in_err-write_assignment : goal.returns-in_err-write_assignment
unfolding given_text
returns-in_err-write_assignment g c = grind (arith, text_steps)

pub returns-in_err-write_held : goal.returns-in_err-write_held
unfolding given_text
returns-in_err-write_held g c = grind (arith, text_steps)

pub returns : goal.returns
unfolding given_text
returns g c = grind (arith, text_steps)
