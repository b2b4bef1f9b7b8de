-- The line of JSON that says whether two pickles make the same objects, or how they differ.
-- Source: own.
use Rattle.std.specs.Prelude.{◌≡◌, ℕ, Bool, List, codes}
use Rattle.json.specs.Json.{Json}
use Rattle.json_lines.specs.Line.{Field, field, ◌⊕◌, whole, line, line_object}
use Rattle.pickle_text.specs.Output.{Output}
use Rattle.pickle_text.specs.declared.closing.Closing.{Closing}
use Rattle.pickle_json.specs.EndFields.{how_fields}
use Rattle.gate_json.specs.VerdictFields.{closing_fields}
use Rattle.same_objects.specs.declared.compared.Compared.{Compared}
use Rattle.same_objects.specs.declared.compared.Compared.TheVariants as compared
use Rattle.same_objects.specs.Same.{Compares}
use Rattle.same_script.specs.SameText.{comparison_status}

-- how a run ends, as an object. It stays closed in proofs
unfoldable pub end_json : Closing → Json
end_json c = line_object (codes "end") (closing_fields c)

unfoldable pub end_field : Closing → List Field
end_field c = field (codes "end") (end_json c)

-- one of them is not read to its end, and how its run ends
unfoldable pub ends_fields : List ℕ → Closing → List Field
ends_fields how c = how_fields how ⊕ end_field c

unfoldable pub number_field : ℕ → List Field
number_field number = field (codes "object") (whole number)

-- the first object that is another one
unfoldable pub object_fields : ℕ → List Field
object_fields number = how_fields (codes "object") ⊕ number_field number

abbrev pub compared_fields : Compared → List Field
compared_fields compared.Same = how_fields (codes "same")
compared_fields (compared.FirstEnds c) = ends_fields (codes "first_ends") c
compared_fields (compared.OtherEnds c) = ends_fields (codes "other_ends") c
compared_fields (compared.Object number) = object_fields number
compared_fields compared.Results = how_fields (codes "results")
compared_fields (compared.FirstGoesOn e) = how_fields (codes "first_goes_on")
compared_fields (compared.OtherGoesOn e) = how_fields (codes "other_goes_on")
compared_fields compared.Order = how_fields (codes "order")

unfoldable pub compared_line : Compared → List ℕ
compared_line c = line (codes "same") (compared_fields c)

-- the status is that of the text
abbrev pub compared_output : Compared → Output
compared_output c = record { text = compared_line c; status = comparison_status c }

-- the line of what two byte strings compare to
pub record IsSameLine (many : Bool) (one other : List ℕ) (o : Output) : Type 0 where
  pub compared : Compared
  pub compares : Compares many one other compared
  pub line_is : o ≡ compared_output compared
