-- One byte more, or an end.
use Rattle.std.proofs.Common.{arith}
use Rattle.pickle_io.proofs.Devices.{Writes-stop}
use Rattle.python_literals.specs.Signs.{sign_text}
use Rattle.python_literals.proofs.Reading.{so_far_none, so_far_next, so_far_stopped, so_far_all}
use Rattle.python_literals.proofs.text.write_each.Goals as goal

pub loop-byte-init : goal.loop-byte-init
loop-byte-init g c = record { so_far = so_far_none (sign_text c.args.quote) c.args.text.now _; small = tt; room = c.requires }

pub returns-in_err-write_finished-clause-text : goal.returns-in_err-write_finished-clause-text
returns-in_err-write_finished-clause-text g c =
    Writes-stop _ _ c.from_residual.result c.from_residual.result _ c.from_residual.ensures.0
    (so_far_stopped (sign_text c.args.quote) c.args.text.now c.loop-byte.byte-index c.loop-byte.pending _ _ _ c.loop-byte-test.true c.loop-byte.invariant.so_far c.in_err-write_finished.ensures.text)

pub loop-byte-preserved : goal.loop-byte-preserved
loop-byte-preserved g c = record {
  so_far = rw c.pending_after.ensures.value
      (so_far_next (sign_text c.args.quote) c.args.text.now c.loop-byte.byte-index c.loop-byte.pending _ _ _ c.loop-byte-test.true c.loop-byte.invariant.so_far c.in_ok-write_finished.ensures.text);
  small = c.pending_after.ensures.room;
  room = omega (arith, c.in_ok-write_finished.ensures.room);
}

pub returns-clause-text : goal.returns-clause-text
returns-clause-text g c =
    so_far_all (sign_text c.args.quote) c.args.text.now c.loop-byte.byte-index c.loop-byte.pending _ _ _ c.write_finished-2.result c.loop-byte-test.false c.loop-byte.invariant.so_far c.write_finished-2.ensures.text
