use Rattle.std.proofs.Common.{arith}
use Rattle.pickle_io.proofs.Devices.{text_steps}
use Rattle.source_texts.specs.Statement.{stack_text}
use Rattle.source_texts.proofs.statement.write_stack.Goals as goal

pub returns-in_err-write_all : goal.returns-in_err-write_all
unfolding stack_text
returns-in_err-write_all g c = grind (arith, text_steps)

pub returns-in_err-write_left : goal.returns-in_err-write_left
unfolding stack_text
returns-in_err-write_left g c = grind (arith, text_steps)

pub returns : goal.returns
unfolding stack_text
returns g c = grind (arith, text_steps)
