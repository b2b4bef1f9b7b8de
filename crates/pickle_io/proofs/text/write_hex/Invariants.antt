-- What the loop over the bytes keeps.
use Rattle.std.proofs.Common.{ℕ, [], ◌∷◌, ◌≤◌, take}
use Rattle.pickle_io.specs.Text.{hexadecimal}
use Rattle.pickle_io.specs.Device.{Wrote, each}
use Rattle.pickle_io.proofs.text.write_hex.Given as goal

abbrev pub invariant-loop-byte : goal.invariant-loop-byte
invariant-loop-byte g l = record {
  wrote : Wrote (g.P.Sink.told l.initial.page) (g.P.Sink.told l.page) (each (λ (byte : ℕ). hexadecimal (byte ∷ [])) (take l.byte-index l.bytes));
  room : 60 ≤ g.P.Page.room l.page;
}
