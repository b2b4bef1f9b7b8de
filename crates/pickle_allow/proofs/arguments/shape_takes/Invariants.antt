-- The items that are left decide.
use Rattle.std.proofs.Common.{◌≡◌, option_map}
use Rattle.pickle_allow.specs.Grammar.{is_blank}
use Rattle.pickle_allow.specs.Arguments.{items_take, shape_takes}
use Rattle.pickle_allow.proofs.Cuts.{split_left, size_left}
use Rattle.pickle_allow.proofs.arguments.shape_takes.Given as goal

abbrev pub invariant-loop-rest : goal.invariant-loop-rest
invariant-loop-rest g l =
    items_take l.list l.protocol (g.M.Inspect.state l.machine).heap l.ids l.n (split_left is_blank (option_map (λ r. r.now) l.rest))
    ≡ shape_takes l.list l.protocol (g.M.Inspect.state l.machine).heap l.shape l.ids

abbrev pub decreases-loop-rest : goal.decreases-loop-rest
decreases-loop-rest g l = size_left (option_map (λ r. r.now) l.rest)
