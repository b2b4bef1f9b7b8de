use Rattle.std.proofs.Common.{arith}
use Rattle.pickle_io.proofs.Devices.{text_steps}
use Rattle.archive_script.specs.GateText.{no_list_line}
use Rattle.archive_script.proofs.gate.write_no_list.Goals as goal

pub returns-in_err-write_all : goal.returns-in_err-write_all
unfolding no_list_line
returns-in_err-write_all g c = grind (arith, text_steps)

pub returns-in_err-write_decimal : goal.returns-in_err-write_decimal
unfolding no_list_line
returns-in_err-write_decimal g c = grind (arith, text_steps)

pub returns-in_err-write_all-2 : goal.returns-in_err-write_all-2
unfolding no_list_line
returns-in_err-write_all-2 g c = grind (arith, text_steps)

pub returns : goal.returns
unfolding no_list_line
returns g c = grind (arith, text_steps)
