use Rattle.std.proofs.Common.{arith}
use Rattle.pickle_io.proofs.Devices.{text_steps}
use Rattle.gate_json.specs.MembersFields.{entry_lines}
use Rattle.gate_json.proofs.members.write_entries.Goals as goal

pub returns-in_err-write_each_entry : goal.returns-in_err-write_each_entry
unfolding entry_lines
returns-in_err-write_each_entry g c = grind (arith, text_steps)

pub returns : goal.returns
unfolding entry_lines
returns g c = grind (arith, text_steps)
