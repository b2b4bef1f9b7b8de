-- What is said and the pieces that are left say the whole.
use Rattle.std.proofs.Common.{◌≡◌, option_map}
use Rattle.pickle_allow.specs.Grammar.{is_blank, with_pieces, with_rest}
use Rattle.pickle_allow.proofs.Cuts.{split_left, size_left}
use Rattle.pickle_allow.proofs.words.with_rest.Given as goal

abbrev pub invariant-loop-rest : goal.invariant-loop-rest
invariant-loop-rest l = with_pieces l.said (split_left is_blank (option_map (λ r. r.now) l.rest)) ≡ with_rest l.fn.said l.bytes

abbrev pub decreases-loop-rest : goal.decreases-loop-rest
decreases-loop-rest l = size_left (option_map (λ r. r.now) l.rest)
