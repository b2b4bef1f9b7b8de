use Rattle.std.proofs.Common.{arith}
use Rattle.json_lines.proofs.Lines.{line_steps}
use Rattle.calls_json.specs.MixFields.{many_line}
use Rattle.calls_json.proofs.mixes.write_too_many.Goals as goal

pub returns-in_err-begin_line : goal.returns-in_err-begin_line
unfolding many_line
returns-in_err-begin_line g c = grind (arith, line_steps)

pub returns-in_err-write_many_shown : goal.returns-in_err-write_many_shown
unfolding many_line
returns-in_err-write_many_shown g c = grind (arith, line_steps)

pub returns : goal.returns
unfolding many_line
returns g c = grind (arith, line_steps)
