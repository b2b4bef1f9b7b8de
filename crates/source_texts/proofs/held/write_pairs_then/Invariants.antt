-- All pairs are written but those that are left.
use Rattle.std.proofs.Common.{length}
use Rattle.pickle_io.specs.Device.{WroteAllBut}
use Rattle.source_texts.specs.Held.{pairs_text}
use Rattle.source_texts.proofs.held.write_pairs_then.Given as goal

abbrev pub invariant-pairs : goal.invariant-pairs
invariant-pairs g l = WroteAllBut (g.S.Sink.told l.initial.page) (g.S.Sink.told l.page) (pairs_text (g.P.Say.says l.inner) l.parts) (pairs_text (g.P.Say.says l.inner) l.rest)

abbrev pub decreases-pairs : goal.decreases-pairs
decreases-pairs g l = length l.rest
