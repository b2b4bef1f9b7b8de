use Rattle.std.proofs.Common.{arith}
use Rattle.pickle_io.proofs.Devices.{text_steps}
use Rattle.pickle_text.specs.ReportLine.{refusal_text}
use Rattle.pickle_text.proofs.report_line.write_refusal.Goals as goal

pub returns-in_err-write_all : goal.returns-in_err-write_all
unfolding refusal_text
returns-in_err-write_all g c = grind (arith, text_steps)

pub returns : goal.returns
unfolding refusal_text
returns g c = grind (arith, text_steps)
