use Rattle.std.proofs.Common.{arith}
use Rattle.pickle_io.proofs.Devices.{text_steps}
use Rattle.gate_json.specs.MembersFields.{tarred_lines}
use Rattle.gate_json.proofs.members.write_all_tarred.Goals as goal

pub returns-in_err-write_each_tarred : goal.returns-in_err-write_each_tarred
unfolding tarred_lines
returns-in_err-write_each_tarred g c = grind (arith, text_steps)

pub returns : goal.returns
unfolding tarred_lines
returns g c = grind (arith, text_steps)
