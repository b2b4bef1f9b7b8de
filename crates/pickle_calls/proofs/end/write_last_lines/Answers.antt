use Rattle.std.proofs.Common.{arith}
use Rattle.pickle_io.proofs.Devices.{text_steps}
use Rattle.pickle_calls.specs.CallsLine.{calls_end_text}
use Rattle.pickle_calls.proofs.end.write_last_lines.Goals as goal

pub returns-in_err-write_begins : goal.returns-in_err-write_begins
unfolding calls_end_text
returns-in_err-write_begins g c = grind (arith, text_steps)

pub returns-in_err-write_totals : goal.returns-in_err-write_totals
unfolding calls_end_text
returns-in_err-write_totals g c = grind (arith, text_steps)

pub returns : goal.returns
unfolding calls_end_text
returns g c = grind (arith, text_steps)
