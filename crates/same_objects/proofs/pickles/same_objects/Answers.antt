use Rattle.std.proofs.lemmas.Result.{IfOk-weaker}
use Rattle.same_objects.proofs.Wholes.{acts_compare}
use Rattle.same_objects.proofs.pickles.same_objects.Goals as goal

pub returns-in-Same : goal.returns-in-Same
returns-in-Same c = IfOk-weaker c.compared_acts.result _ _ (acts_compare c.args.many c.args.one.now c.args.other.now (rw c.in-Same.is at c.in_ok-differ.ensures)) c.compared_acts.ensures
