use Rattle.std.proofs.Common.{arith}
use Rattle.pickle_io.proofs.Devices.{text_steps}
use Rattle.gate_json.specs.MembersFields.{opened_lines}
use Rattle.gate_json.proofs.members.write_one_opened.Goals as goal

pub returns-in_err-write_opened_line : goal.returns-in_err-write_opened_line
unfolding opened_lines
returns-in_err-write_opened_line g c = grind (arith, text_steps)

pub returns : goal.returns
unfolding opened_lines
returns g c = grind (arith, text_steps)
