-- The alternatives that are left decide.
use Rattle.std.proofs.Common.{◌≡◌, option_map}
use Rattle.std.specs.List.{list_any}
use Rattle.pickle_allow.specs.Grammar.{is_bar}
use Rattle.pickle_allow.specs.Arguments.{word_takes, item_takes}
use Rattle.pickle_allow.specs.Given.{given_view}
use Rattle.pickle_allow.proofs.Cuts.{split_left, size_left}
use Rattle.pickle_allow.proofs.takes.item_takes.Given as goal

abbrev pub invariant-loop-rest : goal.invariant-loop-rest
invariant-loop-rest l = list_any (word_takes l.list (given_view l.given)) (split_left is_bar (option_map (λ r. r.now) l.rest)) ≡ item_takes l.list l.item (given_view l.given)

abbrev pub decreases-loop-rest : goal.decreases-loop-rest
decreases-loop-rest l = size_left (option_map (λ r. r.now) l.rest)
