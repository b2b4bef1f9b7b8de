-- What the loop over the entries keeps.
use Rattle.std.proofs.Common.{length}
use Rattle.pickle_io.specs.Device.{WroteAllBut, each}
use Rattle.object_texts.specs.MemoText.{entry_text}
use Rattle.object_texts.proofs.memo.write_map.Given as goal

abbrev pub invariant-loop-key : goal.invariant-loop-key
invariant-loop-key g l = WroteAllBut (g.S.Sink.told l.initial.page) (g.S.Sink.told l.page) (each entry_text l.memo.entries) (each entry_text l.rest)

abbrev pub decreases-loop-key : goal.decreases-loop-key
decreases-loop-key g l = length l.rest
