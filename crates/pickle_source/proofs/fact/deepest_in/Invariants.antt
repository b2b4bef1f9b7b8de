-- What is left, from the greatest so far, gives the greatest of all.
use Rattle.std.proofs.Common.{◌≡◌, ℕ, drop}
use Rattle.std.specs.Prelude.{max}
use Rattle.std.specs.List.{fold}
use Rattle.pickle_ops.specs.declared.object.Change.{Change}
use Rattle.pickle_source.specs.Fact.{change_depth}
use Rattle.pickle_source.proofs.fact.deepest_in.Given as goal

abbrev pub invariant-loop-change : goal.invariant-loop-change
invariant-loop-change l =
    fold (λ (most : ℕ) (c : Change). max most (change_depth l.facts c)) l.most (drop l.change-index l.changes)
    ≡ fold (λ (most : ℕ) (c : Change). max most (change_depth l.facts c)) 0 l.changes
