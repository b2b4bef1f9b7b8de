use Rattle.std.proofs.Common.{arith}
use Rattle.pickle_io.proofs.Devices.{text_steps}
use Rattle.pickle_calls.specs.CallsLine.{inst_text}
use Rattle.pickle_calls.proofs.calls_line.write_inst.Goals as goal

pub returns-in_err-write_names_after : goal.returns-in_err-write_names_after
unfolding inst_text
returns-in_err-write_names_after g c = grind (arith, text_steps)

pub returns-in_err-write_all : goal.returns-in_err-write_all
unfolding inst_text
returns-in_err-write_all g c = grind (arith, text_steps)

pub returns : goal.returns
unfolding inst_text
returns g c = grind (arith, text_steps)
