use Rattle.std.proofs.Common.{arith}
use Rattle.pickle_lenient.proofs.Passings.{first_passes, plain_passes}
use Rattle.pickle_lenient.proofs.pass.pass_plain.Goals as goal

pub returns-then-left-eq0-clause-passes : goal.returns-then-left-eq0-clause-passes
returns-then-left-eq0-clause-passes c = rw c.size-size.ensures (first_passes c.args.left c.args.bytes.now c.args.op.now c.requires.read c.requires.frame c.if-left-eq0.true)

pub returns-then-size-left-clause-passes : goal.returns-then-size-left-clause-passes
returns-then-size-left-clause-passes c =
    rw c.size-size.ensures (plain_passes c.args.left c.args.bytes.now c.args.op.now c.requires.read c.requires.frame c.requires.stop (omega (arith, c.size-size.ensures, c.if-size-left.true)) c.requires.few)
