use Rattle.pickle_further.proofs.Pieces.{stopped, nothing_written}
use Rattle.mixes_text.proofs.Lines.{place_wrote, place_broke, place_none}
use Rattle.mixes_text.proofs.text.write_place.Goals as goal

pub returns-in_err-write_taken-in-Ok : goal.returns-in_err-write_taken-in-Ok
returns-in_err-write_taken-in-Ok g c =
    stopped _ _ _ _ _ c.from_residual.ensures.1
    (place_broke g.T.MixWorder.mixes c.args.holes.now c.args.bytes.now c.rest_of.result.now c.args.place c.in-Ok.taken c.in_file.result _ _ c.rest_of.ensures c.in-Ok.ensures.ok c.in_file.ensures c.in_err-write_taken-in-Ok.ensures)

pub returns-in_ok-write_taken-in-Ok : goal.returns-in_ok-write_taken-in-Ok
returns-in_ok-write_taken-in-Ok g c =
    place_wrote g.T.MixWorder.mixes c.args.holes.now c.args.bytes.now c.rest_of.result.now c.args.place c.in-Ok.taken c.in_file.result _ _ c.rest_of.ensures c.in-Ok.ensures.ok c.in_file.ensures c.in_ok-write_taken-in-Ok.ensures

pub returns-in-Err-Fault : goal.returns-in-Err-Fault
returns-in-Err-Fault g c =
    place_none g.T.MixWorder.mixes c.args.holes.now c.args.bytes.now c.rest_of.result.now c.args.place c.in-Err-Fault.field-0 c.in-Err-Fault.field-0-0 _ c.in-Err-Fault.field-0-is c.rest_of.ensures c.in-Err-Fault.ensures.err

pub returns-in-Err-Memory : goal.returns-in-Err-Memory
returns-in-Err-Memory g c = nothing_written _ _
