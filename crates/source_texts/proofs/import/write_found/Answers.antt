use Rattle.std.proofs.Common.{arith}
use Rattle.pickle_io.proofs.Devices.{text_steps}
use Rattle.source_texts.specs.Import.{found_text}
use Rattle.source_texts.proofs.import.write_found.Goals as goal

pub returns-in_err-write_member_name : goal.returns-in_err-write_member_name
unfolding found_text
returns-in_err-write_member_name g c = grind (arith, text_steps)

pub returns : goal.returns
unfolding found_text
returns g c = grind (arith, text_steps)
