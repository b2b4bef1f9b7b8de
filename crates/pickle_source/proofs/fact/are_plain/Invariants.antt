-- What is left decides.
use Rattle.std.proofs.Common.{◌≡◌, ℕ, drop}
use Rattle.std.specs.List.{list_all}
use Rattle.pickle_source.specs.Fact.{fact_at}
use Rattle.pickle_source.proofs.fact.are_plain.Given as goal

abbrev pub invariant-loop-id : goal.invariant-loop-id
invariant-loop-id l = list_all (λ (id : ℕ). (fact_at l.facts id).plain) (drop l.id-index l.ids) ≡ list_all (λ (id : ℕ). (fact_at l.facts id).plain) l.ids
