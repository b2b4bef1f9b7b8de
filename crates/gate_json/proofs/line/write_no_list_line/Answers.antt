use Rattle.std.proofs.Common.{arith}
use Rattle.json_lines.proofs.Lines.{line_steps}
use Rattle.gate_json.specs.GateLine.{no_list_json}
use Rattle.gate_json.proofs.line.write_no_list_line.Goals as goal

pub returns-in_err-begin_line : goal.returns-in_err-begin_line
unfolding no_list_json
returns-in_err-begin_line g c = grind (arith, line_steps)

pub returns-in_err-write_no_list : goal.returns-in_err-write_no_list
unfolding no_list_json
returns-in_err-write_no_list g c = grind (arith, line_steps)

pub returns : goal.returns
unfolding no_list_json
returns g c = grind (arith, line_steps)
