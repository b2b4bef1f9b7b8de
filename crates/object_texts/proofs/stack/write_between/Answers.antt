-- One object more, or an end.
use Rattle.std.proofs.Common.{arith}
use Rattle.pickle_machine.specs.State.{stack_of}
use Rattle.pickle_io.proofs.Devices.{Writes-stop}
use Rattle.object_texts.proofs.Stacks.{nexts-none, nexts-next, nexts-stopped, nexts-all}
use Rattle.object_texts.proofs.stack.write_between.Goals as goal

pub loop-below-init : goal.loop-below-init
loop-below-init g c = record { wrote = nexts-none _ (stack_of c.args.machine.now.state) c.args.from; stays = λ h. omega arith }

pub returns-in_err-write_at : goal.returns-in_err-write_at
returns-in_err-write_at g c =
    Writes-stop _ _ c.from_residual.result c.from_residual.result _ c.from_residual.ensures.0
    (nexts-stopped _ _ _ (stack_of c.args.machine.now.state) c.args.from c.loop-below.below c.args.to c.loop-below.auto.below c.loop-below-test.true
    c.in_err-write_at.ensures c.loop-below.invariant.wrote)

pub loop-below-preserved : goal.loop-below-preserved
loop-below-preserved g c = record {
  wrote = nexts-next _ _ _ (stack_of c.args.machine.now.state) c.args.from c.loop-below.below c.loop-below.auto.below c.in_ok-write_at.ensures c.loop-below.invariant.wrote;
  stays = λ h. omega (arith, h, c.loop-below.auto.below, c.loop-below-test.true);
}

pub returns : goal.returns
returns g c =
    nexts-all _ _ (stack_of c.args.machine.now.state) c.args.from c.loop-below.below c.args.to c.loop-below.auto.below c.loop-below-test.false c.loop-below.auto.below-end
    c.loop-below.invariant.stays c.loop-below.invariant.wrote
