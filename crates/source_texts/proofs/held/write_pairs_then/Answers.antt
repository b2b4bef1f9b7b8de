-- One pair more, or a beginning of it.
use Rattle.source_texts.specs.Inside.Pairs.{pair_view}
use Rattle.source_texts.proofs.Pairs.{pair_written, pair_broken, stopped}
use Rattle.source_texts.proofs.held.write_pairs_then.Goals as goal

pub returns-in_err-write_pair_then-in-Some : goal.returns-in_err-write_pair_then-in-Some
returns-in_err-write_pair_then-in-Some g c =
    stopped _ _ _ _ _ c.from_residual.ensures.1 (pair_broken _ _ _ _ _ _ (pair_view c.in-Some.pair) c.pairs.invariant c.in-Some.ensures c.in_err-write_pair_then-in-Some.ensures)

pub pairs-preserved : goal.pairs-preserved
pairs-preserved g c = pair_written _ _ _ _ _ _ (pair_view c.in-Some.pair) c.pairs.invariant c.in-Some.ensures c.in_ok-write_pair_then-in-Some.ensures
