-- What the loop over what is left keeps.
use Rattle.std.proofs.Common.{length}
use Rattle.pickle_io.specs.Device.{WroteAllBut}
use Rattle.pickle_io.proofs.sink.write_all.Given as goal

abbrev pub invariant-loop-rest : goal.invariant-loop-rest
invariant-loop-rest g l = WroteAllBut (g.S.Sink.told l.initial.sink) (g.S.Sink.told l.sink) l.text l.rest

abbrev pub decreases-loop-rest : goal.decreases-loop-rest
decreases-loop-rest g l = length l.rest
