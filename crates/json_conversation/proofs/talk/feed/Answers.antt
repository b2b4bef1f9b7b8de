use Rattle.std.proofs.Common.{[], ◌++◌, Ok, take, ap, refl, ◌∙◌, rules, arith}
use Rattle.std.proofs.lemmas.List.{take_all}
use Rattle.std.proofs.lemmas.Result.{err_from_is_err_and}
use Rattle.pickle_io.proofs.Devices.{Wrote-none, Wrote-trans, Broke-after}
use Rattle.pickle_script.proofs.Feeding.{split_byte, one_byte}
use Rattle.json_conversation.proofs.Feeding.{fed_on, fed_quit, fed_broken}
use Rattle.pickle_script.proofs.Flushes.{no_newline_before}
use Rattle.json_conversation.proofs.Flushes.{quit_flushed, so_far_flushed, so_far_none, quit_unflushed, so_far_unflushed}
use Rattle.json_conversation.proofs.talk.feed.Goals as goal

pub returns-in_err-feed_byte-clause-feeds : goal.returns-in_err-feed_byte-clause-feeds
returns-in_err-feed_byte-clause-feeds g c = λ s old given w.
    let p = err_from_is_err_and c.from_residual.result c.from_residual.ensures.1 in
    let f = c.feed_byte.ensures.feeds s old (given ++ take c.loop-byte.byte-index c.args.bytes.now) (c.loop-byte.invariant.fed s old given w) in
    rw p.1 (fed_broken _ _ _ _ _ _ _ _ _ _ f c.in_err-feed_byte.was (split_byte given c.args.bytes.now c.loop-byte.byte-index _ c.loop-byte-test.true refl))

pub returns-in-Quits-clause-feeds : goal.returns-in-Quits-clause-feeds
returns-in-Quits-clause-feeds g c = λ s old given w.
    let f = c.in_ok-feed_byte.ensures.feeds s old (given ++ take c.loop-byte.byte-index c.args.bytes.now) (c.loop-byte.invariant.fed s old given w) in
    let q = fed_quit _ _ _ _ _ _ _ _ _ f (ap Ok c.in-Quits.is) (split_byte given c.args.bytes.now c.loop-byte.byte-index _ c.loop-byte-test.true refl) in
    quit_flushed _ _ _ _ _ _ _ q c.in_ok-flush-in-Quits.ensures.writes

pub returns-in_err-flush-in-Quits-clause-feeds : goal.returns-in_err-flush-in-Quits-clause-feeds
returns-in_err-flush-in-Quits-clause-feeds g c = λ s old given w.
    let p = err_from_is_err_and c.from_residual-in_err-flush-in-Quits.result c.from_residual-in_err-flush-in-Quits.ensures.1 in
    let f = c.in_ok-feed_byte.ensures.feeds s old (given ++ take c.loop-byte.byte-index c.args.bytes.now) (c.loop-byte.invariant.fed s old given w) in
    let q = fed_quit _ _ _ _ _ _ _ _ _ f (ap Ok c.in-Quits.is) (split_byte given c.args.bytes.now c.loop-byte.byte-index _ c.loop-byte-test.true refl) in
    rw p.1 (quit_unflushed _ _ _ _ _ _ _ q c.in_err-flush-in-Quits.ensures.writes)

pub returns-in_err-flush-clause-feeds : goal.returns-in_err-flush-clause-feeds
returns-in_err-flush-clause-feeds g c = λ s old given w.
    let p = err_from_is_err_and c.from_residual-in_err-flush.result c.from_residual-in_err-flush.ensures.1 in
    let whole = take_all c.loop-byte.byte-index c.args.bytes.now (omega (arith, c.loop-byte-test.false)) in
    let q = rw whole at c.loop-byte.invariant.fed s old given w in
    rw p.1 (so_far_unflushed _ _ _ _ _ given c.args.bytes.now _ q (search rules) c.in_err-flush.ensures.writes)

pub loop-byte-preserved : goal.loop-byte-preserved
loop-byte-preserved g c =
    let at = c.loop-byte-test.true in
    record {
      writes = (_, Wrote-trans _ _ _ _ _ c.loop-byte.invariant.writes.1 c.in_ok-feed_byte.ensures.writes.1);
      fed = λ s old given w.
          let f = c.in_ok-feed_byte.ensures.feeds s old (given ++ take c.loop-byte.byte-index c.args.bytes.now) (c.loop-byte.invariant.fed s old given w) in
          fed_on _ _ _ _ _ _ _ _ f (ap Ok c.in-GoesOn.is) (one_byte given c.args.bytes.now c.loop-byte.byte-index _ at refl);
      calm = λ none.
          let before = no_newline_before c.args.bytes.now c.loop-byte.byte-index _ at refl none in
          c.in_ok-feed_byte.ensures.calm before.1 ∙ c.loop-byte.invariant.calm before.0;
    }

pub returns-in_err-feed_byte-clause-writes : goal.returns-in_err-feed_byte-clause-writes
returns-in_err-feed_byte-clause-writes g c =
    let p = err_from_is_err_and c.from_residual.result c.from_residual.ensures.1 in
    rw p.1 (_, Broke-after _ _ _ _ _ c.loop-byte.invariant.writes.1 c.in_err-feed_byte.ensures.writes.1)

pub returns-in-Quits-clause-writes : goal.returns-in-Quits-clause-writes
returns-in-Quits-clause-writes g c =
    (_, Wrote-trans _ _ _ _ _ (Wrote-trans _ _ _ _ _ c.loop-byte.invariant.writes.1 c.in_ok-feed_byte.ensures.writes.1) c.in_ok-flush-in-Quits.ensures.writes)

pub returns-in_err-flush-in-Quits-clause-writes : goal.returns-in_err-flush-in-Quits-clause-writes
returns-in_err-flush-in-Quits-clause-writes g c =
    let p = err_from_is_err_and c.from_residual-in_err-flush-in-Quits.result c.from_residual-in_err-flush-in-Quits.ensures.1 in
    rw p.1 (_, Broke-after _ _ _ _ _ (Wrote-trans _ _ _ _ _ c.loop-byte.invariant.writes.1 c.in_ok-feed_byte.ensures.writes.1) c.in_err-flush-in-Quits.ensures.writes)

pub returns-in_err-flush-clause-writes : goal.returns-in_err-flush-clause-writes
returns-in_err-flush-clause-writes g c =
    let p = err_from_is_err_and c.from_residual-in_err-flush.result c.from_residual-in_err-flush.ensures.1 in
    rw p.1 (_, Broke-after _ _ _ _ _ c.loop-byte.invariant.writes.1 c.in_err-flush.ensures.writes)

pub returns-clause-feeds : goal.returns-clause-feeds
returns-clause-feeds g c = λ s old given w.
    let whole = take_all c.loop-byte.byte-index c.args.bytes.now (omega (arith, c.loop-byte-test.false)) in
    let q = rw whole at c.loop-byte.invariant.fed s old given w in
    so_far_flushed _ _ _ _ _ _ _ q c.in_ok-flush.ensures.writes

pub returns-clause-writes : goal.returns-clause-writes
returns-clause-writes g c = (_, Wrote-trans _ _ _ _ _ c.loop-byte.invariant.writes.1 c.in_ok-flush.ensures.writes)

pub loop-byte-init : goal.loop-byte-init
loop-byte-init g c = record {
  writes = ([], Wrote-none _);
  fed = λ s old given w. so_far_none _ _ _ _ _ _ w;
  calm = λ none. refl;
}
