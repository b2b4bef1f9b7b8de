-- The words that are left decide.
use Rattle.std.proofs.Common.{◌≡◌, option_map}
use Rattle.std.specs.List.{list_any}
use Rattle.pickle_allow.specs.Grammar.{is_close}
use Rattle.pickle_allow.specs.Arguments.{chunk_takes, words_take}
use Rattle.pickle_allow.proofs.Cuts.{split_left, size_left}
use Rattle.pickle_allow.proofs.arguments.words_take.Given as goal

abbrev pub invariant-loop-rest : goal.invariant-loop-rest
invariant-loop-rest g l =
    list_any (chunk_takes l.list l.protocol (g.M.Inspect.state l.machine).heap l.limit l.ids) (split_left is_close (option_map (λ r. r.now) l.rest))
    ≡ words_take l.list l.protocol (g.M.Inspect.state l.machine).heap l.limit l.words l.ids

abbrev pub decreases-loop-rest : goal.decreases-loop-rest
decreases-loop-rest g l = size_left (option_map (λ r. r.now) l.rest)
