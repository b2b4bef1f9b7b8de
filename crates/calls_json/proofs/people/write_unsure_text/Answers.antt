use Rattle.std.proofs.Common.{arith}
use Rattle.pickle_io.proofs.Devices.{text_steps}
use Rattle.pickle_calls.specs.CallsLine.{unsure_line}
use Rattle.calls_json.proofs.people.write_unsure_text.Goals as goal

pub returns-in_err-write_all : goal.returns-in_err-write_all
unfolding unsure_line
returns-in_err-write_all g c = grind (arith, text_steps)

pub returns-in_err-write_decimal : goal.returns-in_err-write_decimal
unfolding unsure_line
returns-in_err-write_decimal g c = grind (arith, text_steps)

pub returns : goal.returns
unfolding unsure_line
returns g c = grind (arith, text_steps)
