-- A record that tells of no object is of a step that made none.
use Rattle.std.proofs.Common.{◌∙◌, sym}
use Rattle.pickle_session.specs.Allowed.{kept_of}
use Rattle.debug_json.proofs.Making.{makes_none}
use Rattle.debug_json.proofs.made.made_at.Goals as goal

pub returns-else-is_made : goal.returns-else-is_made
returns-else-is_made g c =
    let p = c.args.session.now in
    makes_none p.session.document (kept_of p) p.session.cursor c.args.place c.args.objects c.in-Some.step.now c.requires.from c.requires.before c.requires.objects
    c.in-Some.ensures.step (sym c.is_made.ensures ∙ c.if-is_made.false)
