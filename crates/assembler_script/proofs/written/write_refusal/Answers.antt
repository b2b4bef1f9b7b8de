use Rattle.std.proofs.Common.{arith}
use Rattle.pickle_io.proofs.Devices.{text_steps}
use Rattle.assembler_script.specs.AssemblyText.{refused_line}
use Rattle.assembler_script.proofs.written.write_refusal.Goals as goal

pub returns-in_err-write_all : goal.returns-in_err-write_all
unfolding refused_line
returns-in_err-write_all g c = grind (arith, text_steps)

pub returns-in_err-write_decimal : goal.returns-in_err-write_decimal
unfolding refused_line
returns-in_err-write_decimal g c = grind (arith, text_steps)

pub returns-in_err-write_all-2 : goal.returns-in_err-write_all-2
unfolding refused_line
returns-in_err-write_all-2 g c = grind (arith, text_steps)

pub returns-in_err-write_all-3 : goal.returns-in_err-write_all-3
unfolding refused_line
returns-in_err-write_all-3 g c = grind (arith, text_steps)

pub returns : goal.returns
unfolding refused_line
returns g c = grind (arith, text_steps)
