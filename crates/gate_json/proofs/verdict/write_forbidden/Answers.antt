use Rattle.std.proofs.Common.{arith}
use Rattle.json_lines.proofs.Lines.{fields_steps}
use Rattle.gate_json.specs.VerdictFields.{forbidden_fields}
use Rattle.gate_json.proofs.verdict.write_forbidden.Goals as goal

pub returns-in_err-write_how : goal.returns-in_err-write_how
unfolding forbidden_fields
returns-in_err-write_how g c = grind (arith, fields_steps)

pub returns-in_err-write_offset : goal.returns-in_err-write_offset
unfolding forbidden_fields
returns-in_err-write_offset g c = grind (arith, fields_steps)

pub returns : goal.returns
unfolding forbidden_fields
returns g c = grind (arith, fields_steps)
