-- The characters so far are written.
use Rattle.std.proofs.Common.{◌≤◌}
use Rattle.python_literals.specs.Signs.{sign_text}
use Rattle.python_literals.specs.Inside.Turns.{AllHaveRoom}
use Rattle.python_literals.proofs.Reading.{SoFar}
use Rattle.python_literals.proofs.text.write_each.Given as goal

abbrev pub invariant-loop-byte : goal.invariant-loop-byte
invariant-loop-byte g l = record {
  so_far : SoFar (sign_text l.quote) l.text l.byte-index l.pending (g.P.Sink.told l.initial.page) (g.P.Sink.told l.page);
  small : AllHaveRoom l.pending;
  room : 61 ≤ g.P.Page.room l.page;
}
