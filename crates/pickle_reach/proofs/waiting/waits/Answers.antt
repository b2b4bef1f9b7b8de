use Rattle.std.proofs.Common.{sym, arith}
use Rattle.std.specs.Prelude.{◌≢◌}
use Rattle.std.proofs.lemmas.List.Elements.{All-more, All-same}
use Rattle.std.proofs.lemmas.List.{take_all}
use Rattle.pickle_reach.proofs.waiting.waits.Goals as goal

pub loop-other-preserved : goal.loop-other-preserved
loop-other-preserved c = All-more (λ s. s ≢ c.args.spot) c.args.waiting.now c.loop-other.other-index _ c.loop-other-test.true c.loop-other.invariant (c.is_same.ensures.no c.if-is_same.false)

pub returns-clause-no : goal.returns-clause-no
returns-clause-no c = λ e. All-same (λ s. s ≢ c.args.spot) c.args.waiting.now _ (sym (take_all _ _ (omega (arith, c.loop-other-test.false)))) c.loop-other.invariant
