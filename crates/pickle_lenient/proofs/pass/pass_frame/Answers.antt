use Rattle.std.proofs.Common.{arith}
use Rattle.pickle_lenient.proofs.Passings.{frame_passes}
use Rattle.pickle_lenient.proofs.pass.pass_frame.Goals as goal

pub returns-clause-passes : goal.returns-clause-passes
returns-clause-passes c = rw (c.at_most.ensures.is, c.frame_number.ensures, c.size-size.ensures) (frame_passes c.args.left c.args.bytes.now c.args.op.now c.requires.read c.requires.frame (omega (arith, c.if-left-gt0.false)))
