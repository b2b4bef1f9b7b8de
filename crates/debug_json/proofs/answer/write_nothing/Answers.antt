use Rattle.std.proofs.Common.{arith}
use Rattle.debug_json.proofs.Arrays.{bare_steps}
use Rattle.debug_json.specs.Lines.{nothing_line}
use Rattle.debug_json.proofs.answer.write_nothing.Goals as goal

pub returns-in_err-begin_line : goal.returns-in_err-begin_line
unfolding nothing_line
returns-in_err-begin_line g c = grind (arith, bare_steps)

pub returns : goal.returns
unfolding nothing_line
returns g c = grind (arith, bare_steps)
