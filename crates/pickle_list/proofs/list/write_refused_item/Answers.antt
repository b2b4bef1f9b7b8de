use Rattle.std.proofs.Common.{arith}
use Rattle.pickle_io.proofs.Devices.{text_steps}
use Rattle.pickle_list.proofs.list.write_refused_item.Goals as goal

pub returns-in_err-write_bare_item : goal.returns-in_err-write_bare_item
returns-in_err-write_bare_item g c = grind (arith, text_steps)

pub returns : goal.returns
returns g c = grind (arith, text_steps)
