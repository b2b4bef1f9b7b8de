use Rattle.std.proofs.Common.{arith}
use Rattle.pickle_io.proofs.Devices.{text_steps}
use Rattle.json_lines.specs.Line.{name_text}
use Rattle.calls_json.proofs.value.write_name.Goals as goal

pub returns-in_err-write_all : goal.returns-in_err-write_all
unfolding name_text
returns-in_err-write_all g c = grind (arith, text_steps)

pub returns-in_err-write_string : goal.returns-in_err-write_string
unfolding name_text
returns-in_err-write_string g c = grind (arith, text_steps)

pub returns : goal.returns
unfolding name_text
returns g c = grind (arith, text_steps)
