-- What is left, from the greatest so far, gives the greatest of all.
use Rattle.std.proofs.Common.{◌≡◌, ℕ, drop}
use Rattle.std.specs.Prelude.{max}
use Rattle.std.specs.List.{fold}
use Rattle.pickle_source.specs.Fact.{fact_at, over}
use Rattle.pickle_source.proofs.fact.deepest.Given as goal

abbrev pub invariant-loop-id : goal.invariant-loop-id
invariant-loop-id l =
    fold (λ (most id : ℕ). max most (over (fact_at l.facts id).depth)) l.most (drop l.id-index l.ids)
    ≡ fold (λ (most id : ℕ). max most (over (fact_at l.facts id).depth)) 0 l.ids
