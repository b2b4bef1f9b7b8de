-- The line of whether a pickle is in the form that picklers write is read back as its object, by the grammar of JSON, and is one line.
-- Source: own.
use Rattle.std.specs.Prelude.{codes}
use Rattle.pickle_form.specs.declared.reason.Other.{Other}
use Rattle.json_lines.specs.Readable.{ReadsBackAs}
use Rattle.pickle_json.specs.FormFields.{other_fields, other_line, in_form_fields, in_form_line}

-- it is, or it is not
pub record FormLinesReadBack : Type 0 where
  pub in_form : ReadsBackAs in_form_line (codes "end") in_form_fields
  pub other : (o : Other) → ReadsBackAs (other_line o) (codes "end") (other_fields o)
