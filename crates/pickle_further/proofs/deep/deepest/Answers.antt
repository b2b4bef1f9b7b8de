use Rattle.std.proofs.Common.{sym, ◌∙◌, arith}
use Rattle.std.specs.Prelude.{max, get_or}
use Rattle.std.specs.List.{fold}
use Rattle.std.proofs.lemmas.List.{at_drop_all}
use Rattle.pickle_further.proofs.deep.deepest.Goals as goal

pub returns : goal.returns
returns c = sym (sym c.loop-id.invariant ∙ at_drop_all (fold (λ (most id : _). max most (get_or c.args.depths.now id 0)) c.loop-id.most) c.args.ids.now c.loop-id.id-index (omega arith))
