-- What its record tells is what the step did.
use Rattle.debug_json.proofs.Making.{changes_there}
use Rattle.debug_json.proofs.made.changed_at.Goals as goal

pub returns-in-Some : goal.returns-in-Some
returns-in-Some g c =
    changes_there c.args.session.now c.args.place c.in-Some.step.now c.changed.result c.requires.from c.requires.before c.requires.reached c.in-Some.ensures.step c.changed.ensures
