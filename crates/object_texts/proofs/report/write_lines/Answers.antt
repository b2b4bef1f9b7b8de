use Rattle.std.proofs.Common.{arith}
use Rattle.pickle_io.proofs.Devices.{text_steps}
use Rattle.object_texts.specs.Report.{report_text}
use Rattle.object_texts.proofs.report.write_lines.Goals as goal

pub returns-in_err-write_objects : goal.returns-in_err-write_objects
unfolding report_text
returns-in_err-write_objects g c = grind (arith, text_steps)

pub returns-in_err-write_results : goal.returns-in_err-write_results
unfolding report_text
returns-in_err-write_results g c = grind (arith, text_steps)

pub returns : goal.returns
unfolding report_text
returns g c = grind (arith, text_steps)
