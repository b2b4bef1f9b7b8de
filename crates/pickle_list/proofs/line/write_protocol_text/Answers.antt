use Rattle.std.proofs.Common.{arith}
use Rattle.pickle_io.proofs.Devices.{text_steps}
use Rattle.pickle_list.specs.Line.{protocol_text}
use Rattle.pickle_list.proofs.line.write_protocol_text.Goals as goal

pub returns-in_err-write_all : goal.returns-in_err-write_all
unfolding protocol_text
returns-in_err-write_all g c = grind (arith, text_steps)

pub returns-in_err-write_decimal : goal.returns-in_err-write_decimal
unfolding protocol_text
returns-in_err-write_decimal g c = grind (arith, text_steps)

pub returns : goal.returns
unfolding protocol_text
returns g c = grind (arith, text_steps)
