use Rattle.pickle_allow.specs.Grammar.{is_blank}
use Rattle.pickle_allow.proofs.Cuts.{rest_smaller}
use Rattle.pickle_allow.proofs.Reading.{piece_read, piece_wrong}
use Rattle.pickle_allow.proofs.words.with_rest.Goals as goal

pub returns-in_default-with_piece : goal.returns-in_default-with_piece
returns-in_default-with_piece c = piece_wrong c.loop-rest.said c.loop-rest.rest c.in-Some.left _ _ c.in-Some.is c.cut-piece.ensures.front c.in_default-with_piece.ensures c.loop-rest.invariant

pub loop-rest-smaller : goal.loop-rest-smaller
loop-rest-smaller c = rest_smaller is_blank c.loop-rest.rest c.cut-piece.result.rest c.in-Some.left c.in-Some.is c.cut-piece.ensures.rest

pub loop-rest-preserved : goal.loop-rest-preserved
loop-rest-preserved c = piece_read c.loop-rest.said c.in-Some-with_piece.more c.loop-rest.rest c.cut-piece.result.rest c.in-Some.left _ _ c.in-Some.is c.cut-piece.ensures.front c.cut-piece.ensures.rest c.in-Some-with_piece.ensures c.loop-rest.invariant
