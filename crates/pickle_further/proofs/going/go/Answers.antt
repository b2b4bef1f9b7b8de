use Rattle.std.proofs.Common.{refl}
use Rattle.pickle_further.proofs.Goings.{go_ok, go_some, not_taken_goes, not_taken_some}
use Rattle.pickle_further.proofs.going.go.Goals as goal

pub returns-in-Ok-clause-ok : goal.returns-in-Ok-clause-ok
returns-in-Ok-clause-ok c =
    go_ok c.args.way c.args.machine.now.state c.args.rest.now c.args.at _ _ _ _ c.in-Ok.ensures.ok refl c.go_over.ensures.ok

pub returns-in-Err-clause-ok : goal.returns-in-Err-clause-ok
returns-in-Err-clause-ok c =
    not_taken_goes c.args.way c.args.machine.now.state c.args.rest.now c.args.at _ _ _ c.in-Err.ensures.err c.not_taken.ensures.ok

pub returns-in-Ok-clause-some : goal.returns-in-Ok-clause-some
returns-in-Ok-clause-some c =
    go_some c.args.way c.args.machine.now.state c.args.rest.now c.args.at _ _ _ _ c.in-Ok.ensures.ok refl c.go_over.ensures.ok

pub returns-in-Err-clause-some : goal.returns-in-Err-clause-some
returns-in-Err-clause-some c = not_taken_some _ _ _ c.not_taken.ensures.ok
