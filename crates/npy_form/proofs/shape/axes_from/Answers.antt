use Rattle.std.proofs.Common.{arith}
use Rattle.std.proofs.lemmas.Result.{err_from_is_err_and}
use Rattle.npy_form.proofs.Axes.{fails_at, ends_at, goes_at, none_left}
use Rattle.npy_form.proofs.shape.axes_from.Goals as goal

pub returns-in_err-axis-clause-value : goal.returns-in_err-axis-clause-value
returns-in_err-axis-clause-value c =
    let p = err_from_is_err_and c.from_residual.result c.from_residual.ensures.1 in
    rw (p.1, p.2) (fails_at c.loop-more._more c.args.bytes.now c.loop-more.at c.loop-more.count _ _ c.loop-more.invariant.0 (omega arith) c.in_err-axis.ensures.value)

pub returns-then-axis-clause-value : goal.returns-then-axis-clause-value
returns-then-axis-clause-value c =
    ends_at c.loop-more._more c.args.bytes.now c.loop-more.at c.loop-more.count _ _ c.loop-more.invariant.0 (omega arith) c.in_ok-axis.ensures.value c.if-axis.true

pub loop-more-preserved : goal.loop-more-preserved
loop-more-preserved c = (
  goes_at c.loop-more._more c.args.bytes.now c.loop-more.at c.loop-more.count _ _ c.loop-more.invariant.0 (omega arith) c.in_ok-axis.ensures.value c.if-axis.false,
  c.in_ok-axis.ensures.small.1,
)

pub returns-clause-value : goal.returns-clause-value
returns-clause-value c = rw c.refused.ensures (none_left c.loop-more._more c.args.bytes.now c.loop-more.at c.loop-more.count _ c.loop-more.invariant.0 (omega arith))
