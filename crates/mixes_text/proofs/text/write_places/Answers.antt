use Rattle.pickle_io.proofs.Devices.{each-none, each-next}
use Rattle.pickle_further.proofs.Pieces.{stopped}
use Rattle.mixes_text.specs.MixText.{place_text}
use Rattle.mixes_text.proofs.Lines.{each_cut}
use Rattle.mixes_text.proofs.text.write_places.Goals as goal

pub loop-place-init : goal.loop-place-init
loop-place-init g c = each-none (place_text g.T.MixWorder.mixes c.args.holes.now c.args.bytes.now) _

pub returns-in_err-write_place : goal.returns-in_err-write_place
returns-in_err-write_place g c =
    stopped _ _ _ _ _ c.from_residual.ensures.1
    (each_cut (place_text g.T.MixWorder.mixes c.args.holes.now c.args.bytes.now) _ _ _ c.args.places.now c.loop-place.place-index _ _ c.loop-place-test.true c.in_err-write_place.ensures c.loop-place.invariant)

pub loop-place-preserved : goal.loop-place-preserved
loop-place-preserved g c =
    each-next (place_text g.T.MixWorder.mixes c.args.holes.now c.args.bytes.now) _ _ _ c.args.places.now c.loop-place.place-index _ c.loop-place-test.true c.in_ok-write_place.ensures c.loop-place.invariant
