-- The parts that are left decide.
use Rattle.std.proofs.Common.{◌≡◌, option_map}
use Rattle.std.specs.List.{list_all, slice_split}
use Rattle.pickle_allow.specs.Allow.{is_point}
use Rattle.pickle_allow.specs.Grammar.{is_part}
use Rattle.pickle_allow.proofs.Cuts.{split_left, size_left}
use Rattle.pickle_allow.proofs.spelling.are_parts.Given as goal

abbrev pub invariant-loop-rest : goal.invariant-loop-rest
invariant-loop-rest l = list_all is_part (split_left is_point (option_map (λ r. r.now) l.rest)) ≡ list_all is_part (slice_split is_point l.bytes)

abbrev pub decreases-loop-rest : goal.decreases-loop-rest
decreases-loop-rest l = size_left (option_map (λ r. r.now) l.rest)
