use Rattle.std.proofs.Common.{arith}
use Rattle.pickle_io.proofs.Devices.{text_steps}
use Rattle.object_texts.specs.Report.{result_line}
use Rattle.object_texts.proofs.report.write_result.Goals as goal

pub returns-in_err-write_all : goal.returns-in_err-write_all
unfolding result_line
returns-in_err-write_all g c = grind (arith, text_steps)

pub returns-in_err-write_next : goal.returns-in_err-write_next
unfolding result_line
returns-in_err-write_next g c = grind (arith, text_steps)

pub returns : goal.returns
unfolding result_line
returns g c = grind (arith, text_steps)
