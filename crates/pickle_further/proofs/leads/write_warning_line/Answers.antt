use Rattle.std.proofs.Common.{arith}
use Rattle.pickle_io.proofs.Devices.{text_steps}
use Rattle.pickle_further.specs.Leads.{warning_line}
use Rattle.pickle_further.proofs.leads.write_warning_line.Goals as goal

pub returns-in_err-write_all : goal.returns-in_err-write_all
unfolding warning_line
returns-in_err-write_all g c = grind (arith, text_steps)

pub returns-in_err-write_id : goal.returns-in_err-write_id
unfolding warning_line
returns-in_err-write_id g c = grind (arith, text_steps)

pub returns-in_err-write_all-2 : goal.returns-in_err-write_all-2
unfolding warning_line
returns-in_err-write_all-2 g c = grind (arith, text_steps)

pub returns : goal.returns
unfolding warning_line
returns g c = grind (arith, text_steps)
