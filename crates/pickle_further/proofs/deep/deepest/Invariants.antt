-- What is left, from the greatest so far, gives the greatest of all.
use Rattle.std.proofs.Common.{◌≡◌, ℕ, drop}
use Rattle.std.specs.Prelude.{max, get_or}
use Rattle.std.specs.List.{fold}
use Rattle.pickle_further.proofs.deep.deepest.Given as goal

abbrev pub invariant-loop-id : goal.invariant-loop-id
invariant-loop-id l = fold (λ (most id : ℕ). max most (get_or l.depths id 0)) l.most (drop l.id-index l.ids) ≡ fold (λ (most id : ℕ). max most (get_or l.depths id 0)) 0 l.ids
