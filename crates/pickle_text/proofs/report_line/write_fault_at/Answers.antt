use Rattle.std.proofs.Common.{arith}
use Rattle.pickle_io.proofs.Devices.{text_steps}
use Rattle.pickle_text.specs.ReportLine.{fault_at}
use Rattle.pickle_text.proofs.report_line.write_fault_at.Goals as goal

pub returns-in_err-write_fault_text : goal.returns-in_err-write_fault_text
unfolding fault_at
returns-in_err-write_fault_text g c = grind (arith, text_steps)

pub returns-in_err-write_all : goal.returns-in_err-write_all
unfolding fault_at
returns-in_err-write_all g c = grind (arith, text_steps)

pub returns : goal.returns
unfolding fault_at
returns g c = grind (arith, text_steps)
