use Rattle.std.proofs.Common.{arith}
use Rattle.pickle_io.proofs.Devices.{text_steps}
use Rattle.source_texts.proofs.reach.write_member_called.Goals as goal

pub returns-in_err-write_member_name : goal.returns-in_err-write_member_name
returns-in_err-write_member_name g c = grind (arith, text_steps)

pub returns : goal.returns
returns g c = grind (arith, text_steps)
