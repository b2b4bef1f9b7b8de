-- The pieces that are left decide.
use Rattle.std.proofs.Common.{◌≡◌, option_map}
use Rattle.std.specs.List.{list_all, slice_split}
use Rattle.pickle_allow.specs.Grammar.{is_bar, is_kind}
use Rattle.pickle_allow.proofs.Cuts.{split_left, size_left}
use Rattle.pickle_allow.proofs.shape.are_kinds.Given as goal

abbrev pub invariant-loop-rest : goal.invariant-loop-rest
invariant-loop-rest l = list_all is_kind (split_left is_bar (option_map (λ r. r.now) l.rest)) ≡ list_all is_kind (slice_split is_bar l.item)

abbrev pub decreases-loop-rest : goal.decreases-loop-rest
decreases-loop-rest l = size_left (option_map (λ r. r.now) l.rest)
