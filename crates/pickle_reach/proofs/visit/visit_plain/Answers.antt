use Rattle.std.proofs.Common.{arith}
use Rattle.pickle_reach.proofs.Steps.{plain_reached, plain_none}
use Rattle.pickle_reach.proofs.Alike.{plain_at}
use Rattle.pickle_reach.proofs.visit.visit_plain.Goals as goal

pub returns-then-branch : goal.returns-then-branch
returns-then-branch c =
    let at = plain_at c.args.granted c.args.bytes.now c.args.spot c.args.op.now c.step_of-step.result c.size-size.result c.saturating_sub-left.result c.requires.within c.requires.reads c.requires.plain c.requires.sizes
    c.size-size.ensures (omega (arith, c.saturating_sub-left.ensures, c.size-size.ensures)) c.step_of-step.ensures in
    rw c.settled.ensures (plain_reached c.args.granted c.args.bytes.now c.args.spot c.args.waiting.now.items c.follow.new.waiting.items c.in_ok-follow.field-0 c.step_of-step.result at.0 at.1 c.in_ok-follow.ensures c.if-branch.true)

pub returns : goal.returns
returns c =
    let at = plain_at c.args.granted c.args.bytes.now c.args.spot c.args.op.now c.step_of-step.result c.size-size.result c.saturating_sub-left.result c.requires.within c.requires.reads c.requires.plain c.requires.sizes
    c.size-size.ensures (omega (arith, c.saturating_sub-left.ensures, c.size-size.ensures)) c.step_of-step.ensures in
    rw c.settled-2.ensures (plain_none c.args.granted c.args.bytes.now c.args.spot c.args.waiting.now.items c.follow.new.waiting.items c.in_ok-follow.field-0 c.step_of-step.result at.0 at.1 c.in_ok-follow.ensures c.if-branch.false)
