-- The entries that are left decide.
use Rattle.std.proofs.Common.{◌≡◌, drop, option_map}
use Rattle.std.specs.List.{list_any}
use Rattle.pickle_allow.specs.Arguments.{entry_allows, entries_allow}
use Rattle.pickle_allow.proofs.arguments.entries_allow.Given as goal

abbrev pub invariant-loop-i : goal.invariant-loop-i
invariant-loop-i g l =
    list_any (entry_allows l.list l.protocol (g.M.Inspect.state l.machine).heap l.limit l.name (option_map (λ t. t.now) l.ids)) (drop l.i l.list)
    ≡ entries_allow l.list l.protocol (g.M.Inspect.state l.machine).heap l.limit l.name (option_map (λ t. t.now) l.ids)
