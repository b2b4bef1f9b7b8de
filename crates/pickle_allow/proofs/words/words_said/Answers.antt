use Rattle.pickle_allow.specs.Grammar.{is_close, with_chunk, with_rest}
use Rattle.pickle_allow.proofs.Reading.{last_read, first_read, first_wrong, next_smaller}
use Rattle.pickle_allow.proofs.words.words_said.Goals as goal

pub returns-in_default : goal.returns-in_default
returns-in_default c = last_read is_close with_chunk with_rest c.pieces.said c.cut-piece.result.rest c.pieces.left.now c.cut-piece.result.front.now c.with_rest.result _ c.cut-piece.ensures.front c.cut-piece.ensures.rest c.in_default.is c.with_rest.ensures c.pieces.invariant

pub returns-in_default-with_chunk : goal.returns-in_default-with_chunk
returns-in_default-with_chunk c = first_wrong is_close with_chunk with_rest c.pieces.said c.cut-piece.result.rest c.pieces.left.now c.cut-piece.result.front.now c.in-Some.next _ c.cut-piece.ensures.front c.cut-piece.ensures.rest c.in-Some.is c.in_default-with_chunk.ensures c.pieces.invariant

pub pieces-smaller : goal.pieces-smaller
pieces-smaller c = next_smaller is_close c.cut-piece.result.rest c.pieces.left.now c.in-Some.next c.cut-piece.ensures.rest c.in-Some.is

pub pieces-preserved : goal.pieces-preserved
pieces-preserved c = first_read is_close with_chunk with_rest c.pieces.said c.in-Some-with_chunk.more c.cut-piece.result.rest c.pieces.left.now c.cut-piece.result.front.now c.in-Some.next _ c.cut-piece.ensures.front c.cut-piece.ensures.rest c.in-Some.is c.in-Some-with_chunk.ensures c.pieces.invariant
