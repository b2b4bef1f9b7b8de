-- What is taken leaves the rest held; a failure leaves it too.
use Rattle.std.proofs.Common.{arith}
use Rattle.pickle_io.proofs.Devices.{Wrote-none, Broke-after}
use Rattle.pickle_io.proofs.Holding.{holding-next, holding-still}
use Rattle.pickle_io.proofs.buffered.hand_on.Goals as goal

pub loop-place-init : goal.loop-place-init
loop-place-init g c = record { within = c.requires; told = Wrote-none _ }

pub loop-place-preserved : goal.loop-place-preserved
loop-place-preserved g c = record {
  within = omega (arith, c.in-Ok.ensures.within);
  told = holding-next _ _ _ _ _ _ _ c.in-Ok.ensures.within c.loop-place.invariant.told c.in-Ok.ensures.ok;
}

pub returns-in-Err-clause-told : goal.returns-in-Err-clause-told
returns-in-Err-clause-told g c = Broke-after _ _ _ _ _ c.loop-place.invariant.told (holding-still _ _ _ c.in-Err.ensures.err)
