use Rattle.std.proofs.Common.{arith}
use Rattle.pickle_io.proofs.Devices.{text_steps}
use Rattle.object_texts.proofs.memo.write_parts.Goals as goal

pub returns-in_err-write_slots : goal.returns-in_err-write_slots
returns-in_err-write_slots g c = grind (arith, text_steps)

pub returns : goal.returns
returns g c = grind (arith, text_steps)
