use Rattle.std.proofs.lemmas.Result.{IfOk-weaker}
use Rattle.pickle_further.proofs.parts.first_sought.Goals as goal

pub returns-clause-finds : goal.returns-clause-finds
returns-clause-finds c =
    IfOk-weaker c.seek.result _ _ (λ found f. rw (c.begin-naming.ensures) at (f c.args.machine.now.state (c.in_ok-gone.ensures.ok c.begin-naming.result))) c.seek.ensures.finds
