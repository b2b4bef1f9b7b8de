use Rattle.std.proofs.Common.{ℕ, sym, ◌∙◌, arith}
use Rattle.std.specs.Prelude.{max}
use Rattle.std.specs.List.{fold}
use Rattle.std.proofs.lemmas.List.{at_drop_all}
use Rattle.pickle_ops.specs.declared.object.Change.{Change}
use Rattle.pickle_source.specs.Fact.{change_depth}
use Rattle.pickle_source.proofs.fact.deepest_in.Goals as goal

pub returns : goal.returns
returns c = sym (sym c.loop-change.invariant ∙ at_drop_all (fold (λ (most : ℕ) (d : Change). max most (change_depth c.args.facts.now d)) c.loop-change.most) c.args.changes.now c.loop-change.change-index (omega arith))
