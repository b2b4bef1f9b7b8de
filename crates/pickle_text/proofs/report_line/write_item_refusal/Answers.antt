use Rattle.std.proofs.Common.{arith}
use Rattle.pickle_io.proofs.Devices.{text_steps}
use Rattle.pickle_text.specs.ReportLine.{item_text}
use Rattle.pickle_text.proofs.report_line.write_item_refusal.Goals as goal

pub returns-in_err-write_decimal : goal.returns-in_err-write_decimal
unfolding item_text
returns-in_err-write_decimal g c = grind (arith, text_steps)

pub returns-in_err-write_all : goal.returns-in_err-write_all
unfolding item_text
returns-in_err-write_all g c = grind (arith, text_steps)

pub returns : goal.returns
unfolding item_text
returns g c = grind (arith, text_steps)
