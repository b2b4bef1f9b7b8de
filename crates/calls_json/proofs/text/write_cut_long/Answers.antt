use Rattle.std.proofs.Common.{arith}
use Rattle.json_lines.proofs.Lines.{fields_steps}
use Rattle.calls_json.specs.TextFields.{cut_long}
use Rattle.calls_json.proofs.text.write_cut_long.Goals as goal

pub returns-in_err-write_whole_long : goal.returns-in_err-write_whole_long
unfolding cut_long
returns-in_err-write_whole_long g c = grind (arith, fields_steps)

pub returns : goal.returns
unfolding cut_long
returns g c = grind (arith, fields_steps)
