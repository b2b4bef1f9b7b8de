use Rattle.std.proofs.Common.{arith}
use Rattle.pickle_io.proofs.Devices.{text_steps}
use Rattle.pickle_script.specs.PlaceText.{some_results}
use Rattle.pickle_script.proofs.conversation.place.write_some_results.Goals as goal

pub returns-in_err-write_id : goal.returns-in_err-write_id
unfolding some_results
returns-in_err-write_id g c = grind (arith, text_steps)

pub returns : goal.returns
unfolding some_results
returns g c = grind (arith, text_steps)
