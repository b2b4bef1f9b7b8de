-- The fields of each line are plain, so that the line is read back.
use Rattle.std.proofs.Common.{◌≡◌, true, List, [], refl}
use Rattle.std.specs.Prelude.{codes}
use Rattle.std.specs.List.{list_all}
use Rattle.pickle_ops.specs.declared.form.Form.{Form}
use Rattle.pickle_ops.specs.declared.form.Form.TheVariants as form
use Rattle.pickle_ops.specs.declared.opcode.Opcode.{Opcode}
use Rattle.pickle_ops.specs.declared.opcode.Opcode.TheVariants as op
use Rattle.pickle_ops.specs.declared.row.Row.{Row}
use Rattle.pickle_ops.specs.declared.row.Row.TheVariants as row
use Rattle.pickle_ops.specs.Row.{row_of_opcode}
use Rattle.pickle_ops.specs.Table.{code_of, name_of, protocol_of, form_of}
use Rattle.json_lines.specs.Json.{is_plain}
use Rattle.json_lines.specs.Readable.{ArePlain}
use Rattle.json_lines.proofs.Fields.{fields_are_plain}
use Rattle.json_lines.proofs.Nested.{text, number, truth, plain_line_reads}
use Rattle.objects_json.specs.ObjectFields.{kind_word}
use Rattle.opcode_lines.specs.Words.{sentence_of, argument_of, takes_of, leaves_of}
use Rattle.opcode_lines.specs.EntryFields.{form_name, row_name, makes_object, object_of, spelling_fields, row_fields, deed_fields, entry_fields, entry_line}
use Rattle.opcode_lines.specs.Readable.{EntryLinesReadBack}

name_plain : (o : Opcode) → list_all is_plain (name_of o) ≡ true
name_plain op.Stop = refl
name_plain _ = refl

sentence_plain : (o : Opcode) → list_all is_plain (sentence_of o) ≡ true
unfolding sentence_of
sentence_plain op.Stop = refl
sentence_plain _ = refl

argument_plain : (o : Opcode) → list_all is_plain (argument_of o) ≡ true
unfolding argument_of
argument_plain op.Stop = refl
argument_plain _ = refl

takes_plain : (o : Opcode) → list_all is_plain (takes_of o) ≡ true
unfolding takes_of
takes_plain op.Stop = refl
takes_plain _ = refl

leaves_plain : (o : Opcode) → list_all is_plain (leaves_of o) ≡ true
unfolding leaves_of
leaves_plain op.Stop = refl
leaves_plain _ = refl

row_plain : (r : Row) → list_all is_plain (row_name r) ≡ true
unfolding row_name
row_plain row.Stop = refl
row_plain _ = refl

object_plain : (o : Opcode) → list_all is_plain (object_of o) ≡ true
unfolding object_of kind_word
object_plain op.Stop = refl
object_plain _ = refl

form_plain : (f : Form) → list_all is_plain (form_name f) ≡ true
unfolding form_name
form_plain form.Empty = refl
form_plain _ = refl

spelling : (o : Opcode) → ArePlain (spelling_fields o)
spelling o =
    fields_are_plain.joined _ _ (fields_are_plain.joined _ _ (fields_are_plain.joined _ _ (fields_are_plain.joined _ _ (text (codes "name") (name_of o) refl (name_plain o)) (number (codes "code") (code_of o) refl))
    (number (codes "protocol") (protocol_of o) refl)) (text (codes "form") (form_name (form_of o)) refl (form_plain (form_of o)))) (text (codes "argument") (argument_of o) refl (argument_plain o))

row_fields_plain : (o : Opcode) → ArePlain (row_fields o)
row_fields_plain o =
    fields_are_plain.joined _ _ (fields_are_plain.joined _ _ (text (codes "row") (row_name (row_of_opcode o [])) refl (row_plain (row_of_opcode o [])))
    (truth (codes "makes") (makes_object o) refl)) (text (codes "object_is") (object_of o) refl (object_plain o))

deed : (o : Opcode) → ArePlain (deed_fields o)
deed o =
    fields_are_plain.joined _ _ (fields_are_plain.joined _ _ (text (codes "takes") (takes_of o) refl (takes_plain o)) (text (codes "leaves") (leaves_of o) refl (leaves_plain o)))
    (text (codes "sentence") (sentence_of o) refl (sentence_plain o))

pub entry_lines_read_back : EntryLinesReadBack
unfolding entry_line
entry_lines_read_back o =
    plain_line_reads (codes "entry") (entry_fields o) refl (fields_are_plain.joined _ _ (fields_are_plain.joined _ _ (spelling o) (row_fields_plain o)) (deed o))
