use Rattle.std.proofs.Common.{arith}
use Rattle.pickle_io.proofs.Devices.{text_steps}
use Rattle.pickle_script.specs.PlaceText.{where_text}
use Rattle.pickle_script.proofs.conversation.place.write_where.Goals as goal

pub returns-in_err-write_cursor : goal.returns-in_err-write_cursor
unfolding where_text
returns-in_err-write_cursor g c = grind (arith, text_steps)

pub returns-in_err-write_offset : goal.returns-in_err-write_offset
unfolding where_text
returns-in_err-write_offset g c = grind (arith, text_steps)

pub returns-in_err-write_reached : goal.returns-in_err-write_reached
unfolding where_text
returns-in_err-write_reached g c = grind (arith, text_steps)

pub returns : goal.returns
unfolding where_text
returns g c = grind (arith, text_steps)
