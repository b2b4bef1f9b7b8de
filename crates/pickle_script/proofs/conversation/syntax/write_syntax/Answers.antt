use Rattle.std.proofs.Common.{arith}
use Rattle.pickle_io.proofs.Devices.{text_steps}
use Rattle.pickle_script.specs.ReplyText.{syntax_line}
use Rattle.pickle_script.proofs.conversation.syntax.write_syntax.Goals as goal

pub returns-in_err-write_all : goal.returns-in_err-write_all
unfolding syntax_line
returns-in_err-write_all g c = grind (arith, text_steps)

pub returns-in_err-write_all-2 : goal.returns-in_err-write_all-2
unfolding syntax_line
returns-in_err-write_all-2 g c = grind (arith, text_steps)

pub returns-in_err-write_syntax_rest : goal.returns-in_err-write_syntax_rest
unfolding syntax_line
returns-in_err-write_syntax_rest g c = grind (arith, text_steps)

pub returns : goal.returns
unfolding syntax_line
returns g c = grind (arith, text_steps)
