use Rattle.std.proofs.Common.{refl, arith}
use Rattle.gap_list.proofs.Buffers.{item-low, item-high}
use Rattle.gap_list.proofs.buffer.GapBuffer.place.Goals as goal

pub returns-then-k-self-clause-item : goal.returns-then-k-self-clause-item
returns-then-k-self-clause-item g c = item-low c.args.self.now c.requires.0 c.args.k c.if-k-self.true

pub returns-else-k-self-clause-item : goal.returns-else-k-self-clause-item
returns-else-k-self-clause-item g c = item-high c.args.self.now c.requires.0 c.args.k _ (omega arith) refl
