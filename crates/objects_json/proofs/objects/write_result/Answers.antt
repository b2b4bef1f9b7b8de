use Rattle.std.proofs.Common.{arith}
use Rattle.json_lines.proofs.Lines.{line_steps}
use Rattle.objects_json.specs.Objects.{result_line}
use Rattle.objects_json.proofs.objects.write_result.Goals as goal

pub returns-in_err-begin_line : goal.returns-in_err-begin_line
unfolding result_line
returns-in_err-begin_line g c = grind (arith, line_steps)

pub returns-in_err-write_number_field : goal.returns-in_err-write_number_field
unfolding result_line
returns-in_err-write_number_field g c = grind (arith, line_steps)

pub returns : goal.returns
unfolding result_line
returns g c = grind (arith, line_steps)
