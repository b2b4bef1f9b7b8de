use Rattle.std.proofs.Common.{◌∙◌, arith}
use Rattle.pickle_lenient.proofs.Passings.{first_passes, last_passes}
use Rattle.pickle_lenient.proofs.pass.pass_stop.Goals as goal

pub returns-then-left-eq0-clause-passes : goal.returns-then-left-eq0-clause-passes
returns-then-left-eq0-clause-passes c = rw c.size-size.ensures (first_passes c.args.left c.args.bytes.now c.args.op.now c.requires.read c.requires.frame c.if-left-eq0.true)

pub returns-then-left-size-clause-passes : goal.returns-then-left-size-clause-passes
returns-then-left-size-clause-passes c = rw c.size-size.ensures (last_passes c.args.left c.args.bytes.now c.args.op.now c.requires.read c.requires.frame (c.if-left-size.true ∙ c.size-size.ensures) c.requires.few)
