-- What is said and the pieces that are left say the whole.
use Rattle.std.proofs.Common.{◌≡◌, length}
use Rattle.std.specs.List.{slice_split}
use Rattle.pickle_allow.specs.Grammar.{is_blank, to_last, with_front, with_piece, with_shape}
use Rattle.pickle_allow.proofs.words.with_front.Given as goal

abbrev pub invariant-pieces : goal.invariant-pieces
invariant-pieces l = to_last with_piece with_shape l.said (slice_split is_blank l.left) ≡ with_front l.fn.said l.front

abbrev pub decreases-pieces : goal.decreases-pieces
decreases-pieces l = length l.left
