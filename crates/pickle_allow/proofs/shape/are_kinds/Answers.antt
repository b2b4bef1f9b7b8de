use Rattle.std.proofs.Common.{sym, ◌∙◌}
use Rattle.pickle_allow.specs.Grammar.{is_bar, is_kind}
use Rattle.pickle_allow.proofs.Cuts.{rest_smaller}
use Rattle.pickle_allow.proofs.Reading.{all_read, all_wrong}
use Rattle.pickle_allow.proofs.shape.are_kinds.Goals as goal

pub returns-then-not-is_kind : goal.returns-then-not-is_kind
returns-then-not-is_kind c = all_wrong is_bar is_kind _ _ _ _ c.in-Some.is c.cut-piece.ensures.front (sym c.is_kind.ensures ∙ c.if-not-is_kind.true) c.loop-rest.invariant

pub loop-rest-smaller : goal.loop-rest-smaller
loop-rest-smaller c = rest_smaller is_bar c.loop-rest.rest c.cut-piece.result.rest c.in-Some.left c.in-Some.is c.cut-piece.ensures.rest

pub loop-rest-preserved : goal.loop-rest-preserved
loop-rest-preserved c = all_read is_bar is_kind c.loop-rest.rest c.cut-piece.result.rest c.in-Some.left _ _ c.in-Some.is c.cut-piece.ensures.front c.cut-piece.ensures.rest (sym c.is_kind.ensures ∙ c.if-not-is_kind.false) c.loop-rest.invariant
