use Rattle.std.proofs.Common.{arith}
use Rattle.json_lines.proofs.Lines.{fields_steps}
use Rattle.calls_json.specs.EventFields.{inst_fields}
use Rattle.calls_json.proofs.event.write_inst.Goals as goal

pub returns-in_err-write_names : goal.returns-in_err-write_names
unfolding inst_fields
returns-in_err-write_names g c = grind (arith, fields_steps)

pub returns : goal.returns
unfolding inst_fields
returns g c = grind (arith, fields_steps)
