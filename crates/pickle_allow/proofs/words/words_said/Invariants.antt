-- What is said and the pieces that are left say the whole.
use Rattle.std.proofs.Common.{◌≡◌, length, Some}
use Rattle.std.specs.List.{slice_split}
use Rattle.pickle_allow.specs.Grammar.{is_close, to_last, uses_said, with_chunk, with_rest}
use Rattle.pickle_allow.proofs.words.words_said.Given as goal

abbrev pub invariant-pieces : goal.invariant-pieces
invariant-pieces l = to_last with_chunk with_rest l.said (slice_split is_close l.left) ≡ uses_said (Some l.bytes)

abbrev pub decreases-pieces : goal.decreases-pieces
decreases-pieces l = length l.left
