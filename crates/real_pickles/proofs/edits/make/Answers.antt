use Rattle.real_pickles.proofs.Risen.{given}
use Rattle.real_pickles.proofs.edits.make.Goals as goal

pub returns-clause-back : goal.returns-clause-back
returns-clause-back c = given _ _ _ _ c.in_ok-record.ensures.back
