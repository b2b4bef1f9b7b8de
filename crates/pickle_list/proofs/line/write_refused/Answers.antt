use Rattle.std.proofs.Common.{arith}
use Rattle.pickle_io.proofs.Devices.{text_steps}
use Rattle.pickle_list.specs.Line.{refused_line}
use Rattle.pickle_list.proofs.line.write_refused.Goals as goal

pub returns-in_err-write_all : goal.returns-in_err-write_all
unfolding refused_line
returns-in_err-write_all g c = grind (arith, text_steps)

pub returns-in_err-write_refusal : goal.returns-in_err-write_refusal
unfolding refused_line
returns-in_err-write_refusal g c = grind (arith, text_steps)

pub returns : goal.returns
unfolding refused_line
returns g c = grind (arith, text_steps)
