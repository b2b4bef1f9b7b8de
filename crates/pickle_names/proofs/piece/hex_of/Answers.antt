-- A byte that is no digit, and room for one digit more.
use Rattle.std.proofs.Common.{arith}
use Rattle.pickle_names.proofs.Numbers.{small, fails}
use Rattle.pickle_names.proofs.piece.hex_of.Goals as goal

pub returns-in-None : goal.returns-in-None
returns-in-None c = fails c.args.digits.now c.loop-byte.byte-index c.loop-byte.number c.loop-byte-test.true c.in-None.ensures.value c.loop-byte.invariant.value

pub overflow_mul-number : goal.overflow_mul-number
overflow_mul-number c =
    let s = small c.loop-byte.byte-index c.loop-byte.number (omega (arith, c.loop-byte-test.true, c.requires)) c.loop-byte.invariant.small in
    omega (arith, s)

pub overflow_add-number : goal.overflow_add-number
overflow_add-number c =
    let s = small c.loop-byte.byte-index c.loop-byte.number (omega (arith, c.loop-byte-test.true, c.requires)) c.loop-byte.invariant.small in
    omega (arith, s, c.from.ensures, c.in-Some.ensures.small)
