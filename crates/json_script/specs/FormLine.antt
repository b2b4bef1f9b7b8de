-- Whether a pickle is in the form that picklers write, as a line of JSON.
-- Source: own.
use Rattle.std.specs.Prelude.{◌≡◌, ℕ, List, Option, Some, None}
use Rattle.pickle_text.specs.Output.{Output}
use Rattle.pickle_form.specs.declared.reason.Other.{Other}
use Rattle.pickle_form.specs.Form.{IsFirstOther}
use Rattle.pickle_json.specs.FormFields.{other_line, in_form_line}

-- of the first place at which it is not
abbrev pub form_output : Option Other → Output
form_output None = record { text = in_form_line; status = 0 }
form_output (Some o) = record { text = other_line o; status = 1 }

-- of the document of one pickle that the bytes read as
abbrev pub IsFormLine : List ℕ → Output → Type 0
IsFormLine bytes o = (first : Option Other) × IsFirstOther bytes first × (o ≡ form_output first)
