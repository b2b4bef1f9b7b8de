use Rattle.std.proofs.Common.{Some, ap, ◌∙◌}
use Rattle.pickle_session.proofs.Living.{cursor_within}
use Rattle.pickle_session.proofs.Offsets.{offset_is}
use Rattle.pickle_session.proofs.session.Session.offset.Goals as goal

pub returns-clause-same : goal.returns-clause-same
returns-clause-same g c = rw (← c.self.view_is) (offset_is c.self.inside.document.contents _ (cursor_within _ _ _ c.self.invariant.0) ∙ ap Some c.self.invariant.0.stands.offset)
