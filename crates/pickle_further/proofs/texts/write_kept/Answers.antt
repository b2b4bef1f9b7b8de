use Rattle.std.proofs.Common.{arith}
use Rattle.pickle_further.specs.declared.way.Pickles.TheVariants as pickles
use Rattle.pickle_calls.specs.Manner.{manner}
use Rattle.pickle_further.specs.Parts.{wording}
use Rattle.pickle_further.proofs.Pieces.{no_text_yet}
use Rattle.pickle_further.proofs.Tales.{err_is}
use Rattle.pickle_further.proofs.Kept.{kept_cut, kept_broken, warning_broken, behind_cut, kept_done}
use Rattle.pickle_further.proofs.texts.write_kept.Goals as goal

pub returns-in_err-doubts-clause-err : goal.returns-in_err-doubts-clause-err
returns-in_err-doubts-clause-err g c =
    err_is _ _ _ c.from_residual.ensures.1 (rw c.in_err-doubts.ensures.err (no_text_yet (wording g.T.Teller.telling g.T.Worder.words) (manner c.args.detail c.args.holes.now) pickles.OneMemo c.args.bytes.now _ (λ i. omega (arith, c.type_inv.bytes i))))

pub returns-in_err-first-clause-err : goal.returns-in_err-first-clause-err
returns-in_err-first-clause-err g c =
    err_is _ _ _ c.from_residual-in_err-first.ensures.1 (rw c.in_err-first.ensures.err (no_text_yet (wording g.T.Teller.telling g.T.Worder.words) (manner c.args.detail c.args.holes.now) pickles.OneMemo c.args.bytes.now _ (λ i. omega (arith, c.type_inv.bytes i))))

pub returns-in_err-end-clause-err : goal.returns-in_err-end-clause-err
returns-in_err-end-clause-err g c =
    let first = rw (c.new-machine.ensures, c.start.ensures) at c.in_ok-first.ensures.ok in
    let cut = rw c.begin.ensures at c.in_err-end.ensures.err in
    err_is _ _ _ c.from_residual-in_err-end.ensures.1 (kept_cut (wording g.T.Teller.telling g.T.Worder.words) (manner c.args.detail c.args.holes.now) _ _ _ _ _ _ (first _) cut)

pub returns-in_err-status-clause-err : goal.returns-in_err-status-clause-err
returns-in_err-status-clause-err g c =
    let first = rw (c.new-machine.ensures, c.start.ensures) at c.in_ok-first.ensures.ok in
    let wrote = rw c.begin.ensures at c.in_ok-end.ensures.ok in
    err_is _ _ _ c.from_residual-in_err-status.ensures.1 (rw c.in_err-status.ensures.failed (kept_broken (wording g.T.Teller.telling g.T.Worder.words) (manner c.args.detail c.args.holes.now) _ _ _ _ _ _ _ (first _) wrote c.in_err-status.ensures.text))

pub returns-in_err-write_leading-clause-err : goal.returns-in_err-write_leading-clause-err
returns-in_err-write_leading-clause-err g c =
    let first = rw (c.new-machine.ensures, c.start.ensures) at c.in_ok-first.ensures.ok in
    let wrote = rw c.begin.ensures at c.in_ok-end.ensures.ok in
    err_is _ _ _ c.from_residual-in_err-write_leading.ensures.1
    (warning_broken (wording g.T.Teller.telling g.T.Worder.words) (manner c.args.detail c.args.holes.now) _ _ _ _ _ _ _ _ (first _) wrote c.in_ok-status.ensures.text c.in_err-write_leading.ensures)

pub returns-in_err-write_behind-clause-err : goal.returns-in_err-write_behind-clause-err
returns-in_err-write_behind-clause-err g c =
    let first = rw (c.new-machine.ensures, c.start.ensures) at c.in_ok-first.ensures.ok in
    let wrote = rw c.begin.ensures at c.in_ok-end.ensures.ok in
    err_is _ _ _ c.from_residual-in_err-write_behind.ensures.1
    (behind_cut (wording g.T.Teller.telling g.T.Worder.words) (manner c.args.detail c.args.holes.now) _ _ _ _ _ _ _ _ _ _ _ _ (first _) wrote c.in_ok-status.ensures.text c.in_ok-write_leading.ensures c.in_ok-doubts.ensures.loss c.in_ok-doubts.ensures.mixed c.in_err-write_behind.ensures)

pub returns-clause-ok : goal.returns-clause-ok
returns-clause-ok g c =
    let first = rw (c.new-machine.ensures, c.start.ensures) at c.in_ok-first.ensures.ok in
    let wrote = rw c.begin.ensures at c.in_ok-end.ensures.ok in
    rw (c.kept_status.ensures, c.warned_status.ensures) (kept_done (wording g.T.Teller.telling g.T.Worder.words) (manner c.args.detail c.args.holes.now) _ _ _ _ _ _ _ _ _ _ _ _ (first _) wrote c.in_ok-status.ensures.text c.in_ok-write_leading.ensures c.in_ok-status.ensures.status c.in_ok-doubts.ensures.loss c.in_ok-doubts.ensures.mixed c.in_ok-write_behind.ensures)
