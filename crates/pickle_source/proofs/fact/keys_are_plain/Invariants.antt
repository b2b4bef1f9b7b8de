-- What is left decides.
use Rattle.std.proofs.Common.{◌≡◌, drop}
use Rattle.std.specs.List.{list_all}
use Rattle.pickle_source.specs.Fact.{key_is_plain}
use Rattle.pickle_source.proofs.fact.keys_are_plain.Given as goal

abbrev pub invariant-loop-change : goal.invariant-loop-change
invariant-loop-change l = list_all (key_is_plain l.facts) (drop l.change-index l.changes) ≡ list_all (key_is_plain l.facts) l.changes
