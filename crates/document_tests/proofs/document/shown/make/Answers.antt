use Rattle.document_tests.proofs.Given.{room_back}
use Rattle.document_tests.proofs.document.shown.make.Goals as goal

pub returns-clause-back : goal.returns-clause-back
returns-clause-back c = (_, c.in_ok-record.ensures.back, room_back _ _ _ _ c.in_ok-record.ensures.total)
