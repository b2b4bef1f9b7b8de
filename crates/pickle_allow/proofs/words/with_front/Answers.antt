use Rattle.pickle_allow.specs.Grammar.{is_blank, with_piece, with_shape}
use Rattle.pickle_allow.proofs.Reading.{last_read, first_read, first_wrong, next_smaller}
use Rattle.pickle_allow.proofs.words.with_front.Goals as goal

pub returns-in_default : goal.returns-in_default
returns-in_default c = last_read is_blank with_piece with_shape c.pieces.said c.cut-piece.result.rest c.pieces.left.now c.cut-piece.result.front.now c.with_shape.result _ c.cut-piece.ensures.front c.cut-piece.ensures.rest c.in_default.is c.with_shape.ensures c.pieces.invariant

pub returns-in_default-with_piece : goal.returns-in_default-with_piece
returns-in_default-with_piece c = first_wrong is_blank with_piece with_shape c.pieces.said c.cut-piece.result.rest c.pieces.left.now c.cut-piece.result.front.now c.in-Some.next _ c.cut-piece.ensures.front c.cut-piece.ensures.rest c.in-Some.is c.in_default-with_piece.ensures c.pieces.invariant

pub pieces-smaller : goal.pieces-smaller
pieces-smaller c = next_smaller is_blank c.cut-piece.result.rest c.pieces.left.now c.in-Some.next c.cut-piece.ensures.rest c.in-Some.is

pub pieces-preserved : goal.pieces-preserved
pieces-preserved c = first_read is_blank with_piece with_shape c.pieces.said c.in-Some-with_piece.more c.cut-piece.result.rest c.pieces.left.now c.cut-piece.result.front.now c.in-Some.next _ c.cut-piece.ensures.front c.cut-piece.ensures.rest c.in-Some.is c.in-Some-with_piece.ensures c.pieces.invariant
