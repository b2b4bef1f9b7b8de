use Rattle.std.proofs.Common.{sym}
use Rattle.pickle_further.proofs.Quiets.{none_mixed}
use Rattle.pickle_further.proofs.texts.first_mixed.Goals as goal

pub returns-then-branch-clause-ok : goal.returns-then-branch-clause-ok
returns-then-branch-clause-ok c = sym (none_mixed c.args.detail c.args.pickles c.args.bytes.now (c.in_ok-is_quiet.ensures.ok c.if-branch.true))
