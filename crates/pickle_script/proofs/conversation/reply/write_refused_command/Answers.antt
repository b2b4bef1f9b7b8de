use Rattle.std.proofs.Common.{arith}
use Rattle.pickle_io.proofs.Devices.{text_steps}
use Rattle.pickle_script.specs.ReplyText.{refused_command}
use Rattle.pickle_script.proofs.conversation.reply.write_refused_command.Goals as goal

pub returns-in_err-write_all : goal.returns-in_err-write_all
unfolding refused_command
returns-in_err-write_all g c = grind (arith, text_steps)

pub returns-in_err-write_all-2 : goal.returns-in_err-write_all-2
unfolding refused_command
returns-in_err-write_all-2 g c = grind (arith, text_steps)

pub returns-in_err-write_fault_rest : goal.returns-in_err-write_fault_rest
unfolding refused_command
returns-in_err-write_fault_rest g c = grind (arith, text_steps)

pub returns : goal.returns
unfolding refused_command
returns g c = grind (arith, text_steps)
