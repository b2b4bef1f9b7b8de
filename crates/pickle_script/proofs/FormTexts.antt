-- The text of the form, of the document that the bytes read as.
use Rattle.std.proofs.Common.{◌≡◌, ℕ, List, false, Ok, Err, Option, sym, ap, ◌∙◌, subst}
use Rattle.std.specs.Prelude.{Result, IfErr, IsErrAnd}
use Rattle.pickle_io.specs.Device.{Told, Wrote, Broke}
use Rattle.pickle_doc.specs.Document.{Contents}
use Rattle.pickle_text.specs.Output.{Output, Completes, Breaks}
use Rattle.pickle_text.specs.declared.stop.TextStop.{TextStop}
use Rattle.pickle_text.specs.declared.stop.TextStop.TheVariants as stop
use Rattle.pickle_form.specs.declared.reason.Other.{Other}
use Rattle.pickle_form.specs.Form.{IsFirstOther}
use Rattle.pickle_script.specs.FormText.{form_text, form_status, form_answer, form_output}
use Rattle.pickle_script.specs.Output.{CutsForm}

pub form_whole : (bytes : List ℕ) (a b : Told) (first : Option Other) → IsFirstOther bytes first → Wrote a b (form_text first) → Completes form_output false false bytes a b (form_status first)
unfolding form_output
form_whole bytes a b first w q =
    (w.0, w.1, (subst (λ (x : Option Other). Wrote a b (form_text x)) w.2 q, ap form_status w.2))

pub form_broken : (bytes : List ℕ) (a b : Told) (first : Option Other) → IsFirstOther bytes first → Broke a b (form_text first) → Breaks form_output false false bytes a b
unfolding form_output
form_broken bytes a b first w q = (w.0, w.1, subst (λ (x : Option Other). Broke a b (form_text x)) w.2 q)

pub form_cut : (bytes : List ℕ) (a b : Told) (x : TextStop) (r : Result ℕ TextStop) → IsErrAnd r (λ e. e ≡ x) → CutsForm bytes a b x → IfErr r (CutsForm bytes a b)
form_cut bytes a b x (Ok status) h w = absurd h
form_cut bytes a b x (Err e) h w = rw h w
