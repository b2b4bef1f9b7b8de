-- The fields of the line of whether a pickle is in the form are plain, so that the line is read back.
use Rattle.std.proofs.Common.{◌≡◌, true, refl}
use Rattle.std.specs.Prelude.{codes}
use Rattle.std.specs.List.{list_all}
use Rattle.pickle_form.specs.declared.reason.Reason.{Reason}
use Rattle.pickle_form.specs.declared.reason.Reason.TheVariants as reason
use Rattle.pickle_form.specs.declared.reason.Other.{Other}
use Rattle.pickle_form.specs.Sentence.{sentence_of}
use Rattle.json_lines.specs.Json.{is_plain}
use Rattle.json_lines.specs.Readable.{ArePlain}
use Rattle.json_lines.proofs.Fields.{fields_are_plain}
use Rattle.json_lines.proofs.Nested.{word, plain_line_reads}
use Rattle.pickle_json.specs.FormFields.{reason_name, place_fields, why_fields, other_fields, other_line, in_form_fields, in_form_line}
use Rattle.pickle_json.specs.FormReadable.{FormLinesReadBack}
use Rattle.pickle_json.proofs.Readable.{ended}

name_plain : (r : Reason) → list_all is_plain (reason_name r) ≡ true
unfolding reason_name
name_plain reason.Unreadable = refl
name_plain _ = refl

sentence_plain : (r : Reason) → list_all is_plain (sentence_of r) ≡ true
unfolding sentence_of
sentence_plain reason.Unreadable = refl
sentence_plain _ = refl

place : (o : Other) → ArePlain (place_fields o)
unfolding place_fields
place o =
    fields_are_plain.joined _ _ (fields_are_plain.wholes (codes "item") o.place (word (codes "item") refl)) (fields_are_plain.wholes (codes "offset") o.offset (word (codes "offset") refl))

why : (r : Reason) → ArePlain (why_fields r)
unfolding why_fields
why r =
    fields_are_plain.joined _ _ (fields_are_plain.texts (codes "reason") (reason_name r) (word (codes "reason") refl) (word (reason_name r) (name_plain r)))
    (fields_are_plain.texts (codes "words") (sentence_of r) (word (codes "words") refl) (word (sentence_of r) (sentence_plain r)))

pub other : (o : Other) → ArePlain (other_fields o)
other o = fields_are_plain.joined _ _ (fields_are_plain.joined _ _ (ended (codes "other_form") refl) (place o)) (why o.reason)

pub form_lines_read_back : FormLinesReadBack
unfolding in_form_line other_line
form_lines_read_back = record {
  in_form = plain_line_reads (codes "end") in_form_fields refl (ended (codes "in_form") refl);
  other = λ o. plain_line_reads (codes "end") (other_fields o) refl (other o);
}
