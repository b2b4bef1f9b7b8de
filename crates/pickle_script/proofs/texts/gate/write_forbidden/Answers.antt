use Rattle.std.proofs.Common.{arith}
use Rattle.pickle_io.proofs.Devices.{text_steps}
use Rattle.pickle_script.specs.GateText.{forbidden_line}
use Rattle.pickle_script.proofs.texts.gate.write_forbidden.Goals as goal

pub returns-in_err-write_decimal : goal.returns-in_err-write_decimal
unfolding forbidden_line
returns-in_err-write_decimal g c = grind (arith, text_steps)

pub returns-in_err-write_all : goal.returns-in_err-write_all
unfolding forbidden_line
returns-in_err-write_all g c = grind (arith, text_steps)

pub returns : goal.returns
unfolding forbidden_line
returns g c = grind (arith, text_steps)
