use Rattle.pickle_further.specs.Parts.{wording}
use Rattle.pickle_further.proofs.Documents.{first_ok, first_err, all_ok, all_err}
use Rattle.pickle_further.proofs.texts.calls.Goals as goal

pub returns-in-First-clause-ok : goal.returns-in-First-clause-ok
returns-in-First-clause-ok g c = rw c.in-First.is (first_ok (wording g.T.Teller.telling g.T.Worder.words) _ _ _ _ _ c.write_document.ensures.ok)

pub returns-in-First-clause-err : goal.returns-in-First-clause-err
returns-in-First-clause-err g c = rw c.in-First.is (first_err (wording g.T.Teller.telling g.T.Worder.words) _ _ _ _ _ c.write_document.ensures.err)

pub returns-in-All-clause-ok : goal.returns-in-All-clause-ok
returns-in-All-clause-ok g c = rw c.in-All.is (all_ok (wording g.T.Teller.telling g.T.Worder.words) _ _ _ _ _ c.write_document-in-All.ensures.ok)

pub returns-in-All-clause-err : goal.returns-in-All-clause-err
returns-in-All-clause-err g c = rw c.in-All.is (all_err (wording g.T.Teller.telling g.T.Worder.words) _ _ _ _ _ c.write_document-in-All.ensures.err)

pub returns-in-OneMemo-clause-ok : goal.returns-in-OneMemo-clause-ok
returns-in-OneMemo-clause-ok g c = rw c.in-OneMemo.is c.write_kept.ensures.ok

pub returns-in-OneMemo-clause-err : goal.returns-in-OneMemo-clause-err
returns-in-OneMemo-clause-err g c = rw c.in-OneMemo.is c.write_kept.ensures.err
