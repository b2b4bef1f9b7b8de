use Rattle.std.proofs.Common.{arith}
use Rattle.pickle_io.proofs.Devices.{text_steps}
use Rattle.calls_json.specs.LastFields.{end_text}
use Rattle.calls_json.proofs.last.write_end_lines.Goals as goal

pub returns-in_err-write_begins : goal.returns-in_err-write_begins
unfolding end_text
returns-in_err-write_begins g c = grind (arith, text_steps)

pub returns-in_err-write_counts : goal.returns-in_err-write_counts
unfolding end_text
returns-in_err-write_counts g c = grind (arith, text_steps)

pub returns : goal.returns
unfolding end_text
returns g c = grind (arith, text_steps)
