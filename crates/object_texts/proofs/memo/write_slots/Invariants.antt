-- What the loop over the slots keeps.
use Rattle.std.proofs.Common.{take}
use Rattle.pickle_io.specs.Device.{Wrote}
use Rattle.object_texts.proofs.Memos.{slots_text}
use Rattle.object_texts.proofs.memo.write_slots.Given as goal

abbrev pub invariant-loop-key : goal.invariant-loop-key
invariant-loop-key g l = Wrote (g.S.Sink.told l.initial.page) (g.S.Sink.told l.page) (slots_text 0 (take l.key l.slots))
