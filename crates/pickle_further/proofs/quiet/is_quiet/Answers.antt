use Rattle.std.proofs.Common.{arith}
use Rattle.pickle_further.proofs.Quiets.{fits, less, ends_quiet, goes_quiet, stays_within}
use Rattle.pickle_further.proofs.quiet.is_quiet.Goals as goal

pub returns-in-Ends-clause-ok : goal.returns-in-Ends-clause-ok
returns-in-Ends-clause-ok c =
    let a = rw c.in-Ends.is at c.in_ok-pass_any.ensures.ok in
    λ _. ends_quiet 0 c.items.left c.pass_ops-passed.result.left c.pass_ops-passed.result.size c.args.bytes.now c.items.rest.now c.split_at.result.1.now c.pass_ops-passed.ensures.passes c.split_at.ensures.back a c.items.invariant.2

pub split_at-requires-in-Goes : goal.split_at-requires-in-Goes
split_at-requires-in-Goes c = fits c.pass_ops-passed.result.left c.split_at.result.1.now c.in-Goes.to (rw c.in-Goes.is at c.in_ok-pass_any.ensures.ok)

pub items-smaller : goal.items-smaller
items-smaller c =
    less c.items.rest.now c.split_at.result.1.now c.split_at-in-Goes.result.1.now c.pass_ops-passed.result.size c.pass_ops-passed.result.left c.in-Goes.to c.split_at.ensures.back c.split_at-in-Goes.ensures.back (rw c.in-Goes.is at c.in_ok-pass_any.ensures.ok)

pub items-preserved : goal.items-preserved
items-preserved c =
    let a = rw c.in-Goes.is at c.in_ok-pass_any.ensures.ok in
    let shorter = less c.items.rest.now c.split_at.result.1.now c.split_at-in-Goes.result.1.now c.pass_ops-passed.result.size c.pass_ops-passed.result.left c.in-Goes.to c.split_at.ensures.back c.split_at-in-Goes.ensures.back a in (
      stays_within c.split_at.result.1.now c.split_at-in-Goes.result.1.now c.pass_ops-passed.result.left c.in-Goes.to c.split_at-in-Goes.ensures.back a,
      omega (arith, shorter, c.items.invariant.1),
      goes_quiet 0 c.items.left c.pass_ops-passed.result.left c.pass_ops-passed.result.size c.args.bytes.now c.items.rest.now c.split_at.result.1.now c.split_at-in-Goes.result.1.now c.in-Goes.to c.pass_ops-passed.ensures.passes c.split_at.ensures.back c.split_at-in-Goes.ensures.back a c.items.invariant.2,
    )
