-- One object more, or an end.
use Rattle.std.proofs.Common.{arith}
use Rattle.pickle_machine.specs.State.{stack_of}
use Rattle.pickle_machine.proofs.Shown.{length-stack_of}
use Rattle.pickle_io.proofs.Devices.{Writes-stop}
use Rattle.source_texts.specs.Held.{then_part}
use Rattle.source_texts.proofs.Stacks.{wrote_none, wrote_next, broke_at, wrote_all}
use Rattle.source_texts.proofs.statement.write_left.Goals as goal

pub loop-below-init : goal.loop-below-init
loop-below-init g c = wrote_none (then_part (g.P.Say.says c.args.say.now)) _

pub returns-in_err-write_at : goal.returns-in_err-write_at
returns-in_err-write_at g c =
    Writes-stop _ _ c.from_residual.result c.from_residual.result _ c.from_residual.ensures.0
    (broke_at (then_part (g.P.Say.says c.args.say.now)) _ _ _ (stack_of c.args.machine.now.state) c.loop-below.below c.in_err-write_at.ensures c.loop-below.invariant)

pub loop-below-preserved : goal.loop-below-preserved
loop-below-preserved g c =
    wrote_next (then_part (g.P.Say.says c.args.say.now)) _ _ _ (stack_of c.args.machine.now.state) c.loop-below.below c.in_ok-write_at.ensures c.loop-below.invariant

pub returns : goal.returns
returns g c =
    wrote_all (then_part (g.P.Say.says c.args.say.now)) _ _ (stack_of c.args.machine.now.state) c.loop-below.below
    (omega (arith, c.loop-below-test.false, c.stack_len-below-end.ensures, length-stack_of c.args.machine.now.state)) c.loop-below.invariant
