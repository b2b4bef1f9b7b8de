-- What is left of the map is not yet written.
use Rattle.std.proofs.Common.{length}
use Rattle.pickle_io.specs.Device.{WroteAllBut}
use Rattle.debug_json.specs.Inside.Led.{led}
use Rattle.debug_json.proofs.memo.write_map.Given as goal

abbrev pub invariant-loop-key : goal.invariant-loop-key
invariant-loop-key g l = WroteAllBut (g.P.Sink.told l.fn.page) (g.P.Sink.told l.page) (led l.fn.first l.memo.entries) (led l.first l.rest)

abbrev pub decreases-loop-key : goal.decreases-loop-key
decreases-loop-key g l = length l.rest
