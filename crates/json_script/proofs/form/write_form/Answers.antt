use Rattle.std.proofs.Common.{Some, None, refl}
use Rattle.pickle_text.specs.declared.stop.TextStop.TheVariants as stop
use Rattle.json_script.specs.FormLine.{form_output, IsFormLine}
use Rattle.json_script.proofs.Stopped.{once_cut}
use Rattle.json_script.proofs.FormLines.{form_is}
use Rattle.json_script.proofs.form.write_form.Goals as goal

pub returns-in_err-write_other_form-in-Some-clause-err : goal.returns-in_err-write_other_form-in-Some-clause-err
returns-in_err-write_other_form-in-Some-clause-err g c =
    once_cut (IsFormLine c.args.bytes.now) _ _ stop.Failed _ c.from_residual-in_err-write_other_form-in-Some.ensures.1
    (form_output (Some c.in-Some.other), form_is _ _ (Some c.in-Some.other) c.in_ok-first.ensures c.in-Some.is, c.in_err-write_other_form-in-Some.ensures)

pub returns-in_err-write_in_form-in-None-clause-err : goal.returns-in_err-write_in_form-in-None-clause-err
returns-in_err-write_in_form-in-None-clause-err g c =
    once_cut (IsFormLine c.args.bytes.now) _ _ stop.Failed _ c.from_residual-in_err-write_in_form-in-None.ensures.1
    (form_output None, form_is _ _ None c.in_ok-first.ensures c.in-None.is, c.in_err-write_in_form-in-None.ensures)

pub returns-in_ok-write_other_form-in-Some-clause-ok : goal.returns-in_ok-write_other_form-in-Some-clause-ok
returns-in_ok-write_other_form-in-Some-clause-ok g c =
    (form_output (Some c.in-Some.other), form_is _ _ (Some c.in-Some.other) c.in_ok-first.ensures c.in-Some.is, c.in_ok-write_other_form-in-Some.ensures, refl)

pub returns-in_ok-write_in_form-in-None-clause-ok : goal.returns-in_ok-write_in_form-in-None-clause-ok
returns-in_ok-write_in_form-in-None-clause-ok g c =
    (form_output None, form_is _ _ None c.in_ok-first.ensures c.in-None.is, c.in_ok-write_in_form-in-None.ensures, refl)
