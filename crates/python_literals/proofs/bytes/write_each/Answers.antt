-- One byte more, or an end.
use Rattle.std.proofs.Common.{arith}
use Rattle.pickle_io.proofs.Devices.{Wrote-there, Broke-first, each-none, each-next, each-stopped, each-all, Writes-stop}
use Rattle.python_literals.specs.Signs.{ascii_text}
use Rattle.python_literals.proofs.bytes.write_each.Goals as goal

pub loop-byte-init : goal.loop-byte-init
loop-byte-init g c = record { wrote = each-none (ascii_text c.args.quote) _; room = c.requires }

pub returns-in_err-make_room-clause-text : goal.returns-in_err-make_room-clause-text
returns-in_err-make_room-clause-text g c =
    Writes-stop _ _ c.from_residual.result c.from_residual.result _ c.from_residual.ensures.0
    (each-stopped (ascii_text c.args.quote) _ _ _ _ c.loop-byte.byte-index 0 c.loop-byte-test.true (Broke-first _ _ _ c.in_err-make_room.ensures.writes) c.loop-byte.invariant.wrote)

pub loop-byte-preserved : goal.loop-byte-preserved
loop-byte-preserved g c = record {
  wrote = each-next (ascii_text c.args.quote) _ _ _ _ c.loop-byte.byte-index 0 c.loop-byte-test.true (Wrote-there _ _ _ _ c.push_byte.ensures.text c.in_ok-make_room.ensures.writes) c.loop-byte.invariant.wrote;
  room = omega (arith, c.in_ok-make_room.ensures.room, c.push_byte.ensures.room);
}

pub returns-clause-text : goal.returns-clause-text
returns-clause-text g c = each-all (ascii_text c.args.quote) _ _ _ c.loop-byte.byte-index c.loop-byte-test.false c.loop-byte.invariant.wrote
