-- The lines are those of the run that was made.
use Rattle.objects_json.proofs.Answered.{wrote_objects, broke_objects}
use Rattle.objects_json.proofs.objects.lines_of_items.Goals as goal

pub returns-clause-ok : goal.returns-clause-ok
returns-clause-ok g c = wrote_objects _ _ _ _ _ _ _ _ c.in_ok-closing.ensures.closes c.in_ok-status.ensures.status c.in_ok-status.ensures.text

pub returns-in_err-status-clause-failed : goal.returns-in_err-status-clause-failed
returns-in_err-status-clause-failed g c _ = broke_objects _ _ _ _ _ _ _ c.in_ok-closing.ensures.closes c.in_err-status.ensures.text
