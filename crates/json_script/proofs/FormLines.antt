-- The line of the form, of the first place of the bytes.
use Rattle.std.proofs.Common.{◌≡◌, ℕ, List, Option, refl, subst}
use Rattle.pickle_form.specs.declared.reason.Other.{Other}
use Rattle.pickle_form.specs.Form.{IsFirstOther}
use Rattle.json_script.specs.FormLine.{form_output, IsFormLine}

pub form_is : (bytes : List ℕ) (r first : Option Other) → IsFirstOther bytes r → r ≡ first → IsFormLine bytes (form_output first)
form_is bytes r first is e = (first, subst (IsFirstOther bytes) e is, refl)
