use Rattle.std.proofs.Common.{sym, ◌∙◌}
use Rattle.pickle_allow.specs.Allow.{is_point}
use Rattle.pickle_allow.specs.Grammar.{is_part}
use Rattle.pickle_allow.proofs.Cuts.{rest_smaller}
use Rattle.pickle_allow.proofs.Reading.{all_read, all_wrong}
use Rattle.pickle_allow.proofs.spelling.are_parts.Goals as goal

pub returns-then-not-is_part : goal.returns-then-not-is_part
returns-then-not-is_part c = all_wrong is_point is_part _ _ _ _ c.in-Some.is c.cut-piece.ensures.front (sym c.is_part.ensures ∙ c.if-not-is_part.true) c.loop-rest.invariant

pub loop-rest-smaller : goal.loop-rest-smaller
loop-rest-smaller c = rest_smaller is_point c.loop-rest.rest c.cut-piece.result.rest c.in-Some.left c.in-Some.is c.cut-piece.ensures.rest

pub loop-rest-preserved : goal.loop-rest-preserved
loop-rest-preserved c = all_read is_point is_part c.loop-rest.rest c.cut-piece.result.rest c.in-Some.left _ _ c.in-Some.is c.cut-piece.ensures.front c.cut-piece.ensures.rest (sym c.is_part.ensures ∙ c.if-not-is_part.false) c.loop-rest.invariant
