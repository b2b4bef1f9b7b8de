-- The marks are made.
use Rattle.std.proofs.Common.{sym, ◌∙◌}
use Rattle.object_texts.proofs.Walks.{filled}
use Rattle.object_texts.proofs.show.none_seen.Goals as goal

pub returns-clause-ok : goal.returns-clause-ok
returns-clause-ok c =
    filled c.resize.result _ _ _ _ (sym c.is_err.ensures.value ∙ c.if-is_err.false) c.new-seen.ensures.items c.new-seen.ensures.len c.resize.ensures.items
