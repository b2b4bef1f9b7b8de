use Rattle.std.proofs.Common.{refl, arith}
use Rattle.pickle_text.proofs.Sources.{bytes_give}
use Rattle.pickle_further.specs.Parts.{wording}
use Rattle.pickle_further.proofs.Tales.{err_is}
use Rattle.pickle_further.proofs.Documents.{first_cut, end_cut, deep_cut, warning_cut, parts_cut, all_written}
use Rattle.pickle_further.proofs.texts.write_document.Goals as goal

pub run_items-requires : goal.run_items-requires
run_items-requires g c κs =
    ((refl, tt), (rw c.new.ensures (bytes_give _ _ c.args.bytes.now (λ i. omega (arith, c.type_inv.bytes i)) c.requires), (rw c.new.ensures refl, (rw c.new-slim.ensures refl, rw (c.new.ensures, c.new-slim.ensures) (refl, refl)))))

pub returns-in_err-ran-clause-err : goal.returns-in_err-ran-clause-err
returns-in_err-ran-clause-err g c =
    let cut = rw (c.new.ensures, c.are_many-many.ensures) at c.in_err-ran.ensures.err in
    err_is _ _ _ c.from_residual.ensures.1 (first_cut (wording g.T.Teller.telling g.T.Worder.words) _ _ _ _ _ _ cut)

pub returns-in_err-status-clause-err : goal.returns-in_err-status-clause-err
returns-in_err-status-clause-err g c =
    let ran = rw (c.new.ensures, c.are_many-many.ensures) at c.in_ok-ran.ensures.ok in
    err_is _ _ _ c.from_residual-in_err-status.ensures.1 (rw c.in_err-status.ensures.failed (end_cut (wording g.T.Teller.telling g.T.Worder.words) _ _ _ _ _ _ _ ran c.in_err-status.ensures.text))

pub returns-in_err-deep-clause-err : goal.returns-in_err-deep-clause-err
returns-in_err-deep-clause-err g c =
    let ran = rw (c.new.ensures, c.are_many-many.ensures) at c.in_ok-ran.ensures.ok in
    err_is _ _ _ c.from_residual-in_err-deep.ensures.1 (deep_cut (wording g.T.Teller.telling g.T.Worder.words) _ _ _ _ _ _ _ ran c.in_ok-status.ensures.text)

pub returns-in_err-write_warning-clause-err : goal.returns-in_err-write_warning-clause-err
returns-in_err-write_warning-clause-err g c =
    let ran = rw (c.new.ensures, c.are_many-many.ensures) at c.in_ok-ran.ensures.ok in
    err_is _ _ _ c.from_residual-in_err-write_warning.ensures.1
    (warning_cut (wording g.T.Teller.telling g.T.Worder.words) _ _ _ _ _ _ _ _ _ _ ran c.in_ok-status.ensures.text c.first_leading-leads.ensures c.in_ok-deep.ensures c.in_err-write_warning.ensures)

pub returns-in_err-write_parts-clause-err : goal.returns-in_err-write_parts-clause-err
returns-in_err-write_parts-clause-err g c =
    let ran = rw (c.new.ensures, c.are_many-many.ensures) at c.in_ok-ran.ensures.ok in
    err_is _ _ _ c.from_residual-in_err-write_parts.ensures.1 (parts_cut (wording g.T.Teller.telling g.T.Worder.words) _ _ _ _ _ _ _ _ _ _ _ _ ran c.in_ok-status.ensures.text c.first_leading-leads.ensures c.in_ok-deep.ensures c.in_ok-write_warning.ensures (c.in_err-write_parts.ensures _ _ ran))

pub returns-clause-ok : goal.returns-clause-ok
returns-clause-ok g c =
    let ran = rw (c.new.ensures, c.are_many-many.ensures) at c.in_ok-ran.ensures.ok in
    rw (c.warned_status.ensures, c.or_first.ensures) (all_written (wording g.T.Teller.telling g.T.Worder.words) _ _ _ _ _ _ _ _ _ _ _ _ ran c.in_ok-status.ensures.text c.in_ok-status.ensures.status c.first_leading-leads.ensures c.in_ok-deep.ensures c.in_ok-write_warning.ensures (c.in_ok-write_parts.ensures _ _ ran))

pub first_leading-leads-requires : goal.first_leading-leads-requires
first_leading-leads-requires g c =
    let ran = rw (c.new.ensures, c.are_many-many.ensures) at c.in_ok-ran.ensures.ok in
    omega (arith, ran.heap, ran.few, c.requires)
