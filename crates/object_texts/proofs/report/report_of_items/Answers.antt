-- The report is that of the run that was made.
use Rattle.object_texts.proofs.Reported.{wrote_report, broke_report}
use Rattle.object_texts.proofs.report.report_of_items.Goals as goal

pub returns-clause-ok : goal.returns-clause-ok
returns-clause-ok g c = wrote_report _ _ _ _ _ _ _ c.in_ok-closing.ensures.closes c.in_ok-status.ensures.status c.in_ok-status.ensures.text

pub returns-in_err-status-clause-failed : goal.returns-in_err-status-clause-failed
returns-in_err-status-clause-failed g c _ = broke_report _ _ _ _ _ _ c.in_ok-closing.ensures.closes c.in_err-status.ensures.text
