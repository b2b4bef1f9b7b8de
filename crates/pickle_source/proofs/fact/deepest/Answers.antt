use Rattle.std.proofs.Common.{ℕ, sym, ◌∙◌, arith}
use Rattle.std.specs.Prelude.{max}
use Rattle.std.specs.List.{fold}
use Rattle.std.proofs.lemmas.List.{at_drop_all}
use Rattle.pickle_source.specs.Fact.{fact_at, over}
use Rattle.pickle_source.proofs.fact.deepest.Goals as goal

pub returns : goal.returns
returns c = sym (sym c.loop-id.invariant ∙ at_drop_all (fold (λ (most id : ℕ). max most (over (fact_at c.args.facts.now id).depth)) c.loop-id.most) c.args.ids.now c.loop-id.id-index (omega arith))
