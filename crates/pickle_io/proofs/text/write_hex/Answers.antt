-- One byte more, or an end.
use Rattle.std.proofs.Common.{ℕ, [], ◌∷◌, arith}
use Rattle.pickle_io.specs.Text.{hexadecimal}
use Rattle.pickle_io.proofs.Devices.{Wrote-there, Broke-there, Broke-first, each-none, each-next, each-stopped, each-all, Writes-stop}
use Rattle.pickle_io.proofs.Texts.{hexadecimal_is_each}
use Rattle.pickle_io.proofs.text.write_hex.Goals as goal

pub loop-byte-init : goal.loop-byte-init
loop-byte-init g c = record { wrote = each-none _ _; room = omega (arith, c.in_ok-make_room.ensures.room) }

pub returns-in_err-make_room-2-clause-text : goal.returns-in_err-make_room-2-clause-text
returns-in_err-make_room-2-clause-text g c =
    rw (hexadecimal_is_each c.args.bytes.now) (Writes-stop _ _ c.from_residual-in_err-make_room-2.result c.from_residual-in_err-make_room-2.result _ c.from_residual-in_err-make_room-2.ensures.0
    (Broke-there _ _ _ _ (each-stopped (λ (byte : ℕ). hexadecimal (byte ∷ [])) _ _ _ _ c.loop-byte.byte-index 0 c.loop-byte-test.true (Broke-first _ _ _ c.in_err-make_room-2.ensures.writes) c.loop-byte.invariant.wrote) c.in_ok-make_room.ensures.writes))

pub loop-byte-preserved : goal.loop-byte-preserved
loop-byte-preserved g c = record {
  wrote = each-next (λ (byte : ℕ). hexadecimal (byte ∷ [])) _ _ _ _ c.loop-byte.byte-index 0 c.loop-byte-test.true (Wrote-there _ _ _ _ (rw c.hex_digits.ensures at c.push_text.ensures.text) c.in_ok-make_room-2.ensures.writes) c.loop-byte.invariant.wrote;
  room = omega (arith, c.in_ok-make_room-2.ensures.room, c.push_text.ensures.room);
}

pub returns-clause-text : goal.returns-clause-text
returns-clause-text g c =
    rw (hexadecimal_is_each c.args.bytes.now) (Wrote-there _ _ _ _ (each-all (λ (byte : ℕ). hexadecimal (byte ∷ [])) _ _ _ c.loop-byte.byte-index c.loop-byte-test.false c.loop-byte.invariant.wrote) c.in_ok-make_room.ensures.writes)
