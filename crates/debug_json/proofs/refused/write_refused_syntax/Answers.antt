use Rattle.std.proofs.Common.{arith}
use Rattle.json_lines.proofs.Lines.{line_steps}
use Rattle.debug_json.specs.RefusedFields.{refused_syntax}
use Rattle.debug_json.proofs.refused.write_refused_syntax.Goals as goal

pub returns-in_err-begin_line : goal.returns-in_err-begin_line
unfolding refused_syntax
returns-in_err-begin_line g c = grind (arith, line_steps)

pub returns-in_err-write_syntax : goal.returns-in_err-write_syntax
unfolding refused_syntax
returns-in_err-write_syntax g c = grind (arith, line_steps)

pub returns : goal.returns
unfolding refused_syntax
returns g c = grind (arith, line_steps)
