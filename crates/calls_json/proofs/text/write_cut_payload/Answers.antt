use Rattle.std.proofs.Common.{arith}
use Rattle.json_lines.proofs.Lines.{fields_steps}
use Rattle.calls_json.specs.TextFields.{cut_payload}
use Rattle.calls_json.proofs.text.write_cut_payload.Goals as goal

pub returns-in_err-write_own : goal.returns-in_err-write_own
unfolding cut_payload
returns-in_err-write_own g c = grind (arith, fields_steps)

pub returns : goal.returns
unfolding cut_payload
returns g c = grind (arith, fields_steps)
