use Rattle.std.proofs.Common.{sym}
use Rattle.pickle_further.specs.declared.way.Pickles.TheVariants as pickles
use Rattle.pickle_further.proofs.Quiets.{none_lost, none_mixed}
use Rattle.pickle_further.proofs.texts.find_doubts.Goals as goal

pub returns-then-branch-clause-loss : goal.returns-then-branch-clause-loss
returns-then-branch-clause-loss c = sym (none_lost c.args.detail c.args.bytes.now (c.in_ok-is_quiet.ensures.ok c.if-branch.true))

pub returns-then-branch-clause-mixed : goal.returns-then-branch-clause-mixed
returns-then-branch-clause-mixed c = sym (none_mixed c.args.detail pickles.OneMemo c.args.bytes.now (c.in_ok-is_quiet.ensures.ok c.if-branch.true))
