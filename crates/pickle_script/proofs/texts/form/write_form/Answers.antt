use Rattle.std.proofs.Common.{refl}
use Rattle.pickle_text.specs.declared.stop.TextStop.TheVariants as stop
use Rattle.pickle_script.proofs.FormTexts.{form_whole, form_broken, form_cut}
use Rattle.pickle_script.proofs.texts.form.write_form.Goals as goal

pub returns-in_err-first-clause-err : goal.returns-in_err-first-clause-err
returns-in_err-first-clause-err g c = form_cut _ _ _ stop.Memory _ c.from_residual.ensures.1 refl

pub returns-in_err-write_first-clause-err : goal.returns-in_err-write_first-clause-err
returns-in_err-write_first-clause-err g c =
    form_cut _ _ _ stop.Failed _ c.from_residual-in_err-write_first.ensures.1 (form_broken _ _ _ _ c.in_ok-first.ensures c.in_err-write_first.ensures)

pub returns-clause-ok : goal.returns-clause-ok
returns-clause-ok g c = rw c.form_status.ensures (form_whole _ _ _ _ c.in_ok-first.ensures c.in_ok-write_first.ensures)
