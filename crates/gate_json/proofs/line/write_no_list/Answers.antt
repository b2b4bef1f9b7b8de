use Rattle.std.proofs.Common.{arith}
use Rattle.json_lines.proofs.Lines.{fields_steps}
use Rattle.gate_json.specs.VerdictFields.{no_list_fields}
use Rattle.gate_json.proofs.line.write_no_list.Goals as goal

pub returns-in_err-write_how : goal.returns-in_err-write_how
unfolding no_list_fields
returns-in_err-write_how g c = grind (arith, fields_steps)

pub returns-in_err-write_number : goal.returns-in_err-write_number
unfolding no_list_fields
returns-in_err-write_number g c = grind (arith, fields_steps)

pub returns : goal.returns
unfolding no_list_fields
returns g c = grind (arith, fields_steps)
