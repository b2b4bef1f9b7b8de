use Rattle.same_objects.proofs.Wholes.{made, unstopped, both_compare}
use Rattle.same_objects.proofs.pickles.compared_objects.Goals as goal

pub returns-then-not-is_stopped : goal.returns-then-not-is_stopped
returns-then-not-is_stopped c = (unstopped c.is_stopped.result c.in_ok-closing.closing c.is_stopped.ensures c.if-not-is_stopped.true, (c.run.new.machine.state, c.in_ok-closing.ensures))

pub returns-then-not-is_stopped-2 : goal.returns-then-not-is_stopped-2
returns-then-not-is_stopped-2 c = (unstopped c.is_stopped-2.result c.in_ok-ending.ending c.is_stopped-2.ensures c.if-not-is_stopped-2.true, (c.run-2.new.machine.state, c.in_ok-ending.ensures))

pub returns : goal.returns
returns c =
    let one = made c.args.many c.args.one.now c.run.new.machine.state c.in_ok-closing.closing c.in_ok-closing.ensures (c.is_stopped.ensures.0 c.if-not-is_stopped.false) in
    let other = made c.args.many c.args.other.now c.run-2.new.machine.state c.in_ok-ending.ending c.in_ok-ending.ensures (c.is_stopped-2.ensures.0 c.if-not-is_stopped-2.false) in
    both_compare c.args.many c.args.one.now c.args.other.now c.run.new.machine.state c.run-2.new.machine.state c.compared.result one other c.compared.ensures
