use Rattle.std.proofs.Common.{sym, ◌∙◌}
use Rattle.pickle_allow.specs.Grammar.{is_blank, is_item}
use Rattle.pickle_allow.proofs.Cuts.{rest_smaller}
use Rattle.pickle_allow.proofs.Reading.{all_read, all_wrong}
use Rattle.pickle_allow.proofs.shape.is_shape.Goals as goal

pub returns-then-not-is_item : goal.returns-then-not-is_item
returns-then-not-is_item c = all_wrong is_blank is_item _ _ _ _ c.in-Some.is c.cut-piece.ensures.front (sym c.is_item.ensures ∙ c.if-not-is_item.true) c.loop-rest.invariant

pub loop-rest-smaller : goal.loop-rest-smaller
loop-rest-smaller c = rest_smaller is_blank c.loop-rest.rest c.cut-piece.result.rest c.in-Some.left c.in-Some.is c.cut-piece.ensures.rest

pub loop-rest-preserved : goal.loop-rest-preserved
loop-rest-preserved c = all_read is_blank is_item c.loop-rest.rest c.cut-piece.result.rest c.in-Some.left _ _ c.in-Some.is c.cut-piece.ensures.front c.cut-piece.ensures.rest (sym c.is_item.ensures ∙ c.if-not-is_item.false) c.loop-rest.invariant
