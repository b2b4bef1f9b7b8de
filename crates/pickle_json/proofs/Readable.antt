-- The fields of each line are plain, so that the line is read back.
use Rattle.std.proofs.Common.{◌≡◌, ℕ, Bool, true, false, List, Option, None, Some, refl}
use Rattle.std.specs.Prelude.{ℤ, codes, length, nat_le, nat_lt, unsigned_abs, if◌then◌else◌}
use Rattle.std.specs.List.{list_all}
use Rattle.pickle_ops.specs.declared.form.Form.{Form}
use Rattle.pickle_ops.specs.declared.form.Form.TheVariants as form
use Rattle.pickle_ops.specs.declared.opcode.Opcode.{Opcode}
use Rattle.pickle_ops.specs.declared.opcode.Opcode.TheVariants as op
use Rattle.pickle_ops.specs.declared.fault.FrontFault.TheVariants as at_front
use Rattle.pickle_ops.specs.Argument.{number_of, signed_of, long_of, payload, first_text, second_text}
use Rattle.pickle_ops.specs.Spelling.{Operation}
use Rattle.pickle_ops.specs.Table.{name_of, form_of}
use Rattle.pickle_ops.specs.Text.{is_long}
use Rattle.pickle_doc.specs.declared.fault.TailFault.{TailFault}
use Rattle.pickle_doc.specs.declared.fault.TailFault.TheVariants as tail
use Rattle.pickle_machine.specs.declared.refusal.Refusal.{Refusal}
use Rattle.pickle_machine.specs.declared.refusal.Refusal.TheVariants as refusal
use Rattle.json_lines.specs.Json.{is_plain}
use Rattle.json_lines.specs.Line.{field, whole, integer}
use Rattle.json_lines.specs.Readable.{ArePlain}
use Rattle.json_lines.proofs.Fields.{fields_are_plain}
use Rattle.json_lines.proofs.Nested.{word, truth, plain_line_reads}
use Rattle.pickle_json.specs.declared.note.Note.{Note}
use Rattle.pickle_json.specs.declared.note.Note.TheVariants as note
use Rattle.pickle_json.specs.ItemFields.{number_name, number_fields, integer_fields, payload_fields, double_fields, lowest_first_fields, long_fields, names_fields, form_fields, arg_fields, note_fields, head_fields, rest_fields, item_fields, item_line}
use Rattle.pickle_json.specs.EndFields.{left_fields, left_text, refusal_code, refusal_words, refusal_fields, fault_code, fault_words, fault_fields, is_of_frame, how_fields, protocol_fields, coded_fields, stopped_fields, stopped_end, refused_fields, refused_end, told_fields, place_fields, tail_fields, fault_end}
use Rattle.pickle_json.specs.ShownFields.{shown_field, shown_fields}
use Rattle.pickle_json.specs.Readable.{ItemLinesReadBack, EndLinesReadBack}

pub name_plain : (o : Opcode) → list_all is_plain (name_of o) ≡ true
name_plain op.Stop = refl
name_plain _ = refl

-- ---- arguments

number_named : (b : Bool) → list_all is_plain (number_name b) ≡ true
unfolding number_name
number_named true = refl
number_named false = refl

number : (n : ℕ) → ArePlain (number_fields n)
unfolding number_fields
number n =
    let exact : Bool = nat_lt n 9007199254740992 in
    fields_are_plain.wholes (number_name exact) n (word (number_name exact) (number_named exact))

pub signed : (z : ℤ) → ArePlain (integer_fields z)
unfolding integer_fields
signed z =
    let exact : Bool = nat_lt (unsigned_abs z) 9007199254740992 in
    fields_are_plain.integers (number_name exact) z (word (number_name exact) (number_named exact))

pub held : (bytes : List ℕ) → ArePlain (payload_fields bytes)
unfolding payload_fields
held bytes = fields_are_plain.bytes (codes "argument") (codes "argument_hex") bytes (word (codes "argument") refl) (word (codes "argument_hex") refl)

pub double : (bytes : List ℕ) → ArePlain (double_fields bytes)
unfolding double_fields
double bytes = fields_are_plain.hexadecimal (codes "argument_f8_hex") bytes (word (codes "argument_f8_hex") refl)

lowest_first : (bytes : List ℕ) → ArePlain (lowest_first_fields bytes)
unfolding lowest_first_fields
lowest_first bytes = fields_are_plain.hexadecimal (codes "argument_le_hex") bytes (word (codes "argument_le_hex") refl)

long_by : (b : Bool) (bytes : List ℕ) → ArePlain (if b then integer_fields (long_of bytes) else lowest_first_fields bytes)
long_by true bytes = signed (long_of bytes)
long_by false bytes = lowest_first bytes

pub long : (bytes : List ℕ) → ArePlain (long_fields bytes)
unfolding long_fields
long bytes = long_by (nat_le (length bytes) 16) bytes

pub names : (first second : List ℕ) → ArePlain (names_fields first second)
unfolding names_fields
names first second =
    fields_are_plain.joined _ _ (fields_are_plain.bytes (codes "module") (codes "module_hex") first (word (codes "module") refl) (word (codes "module_hex") refl))
    (fields_are_plain.bytes (codes "name") (codes "name_hex") second (word (codes "name") refl) (word (codes "name_hex") refl))

of_form : (f : Form) (arg : List ℕ) → ArePlain (form_fields f arg)
of_form form.Empty arg = tt
of_form form.Uint1 arg = number (number_of form.Uint1 arg)
of_form form.Uint2 arg = number (number_of form.Uint2 arg)
of_form form.Uint4 arg = number (number_of form.Uint4 arg)
of_form form.Uint8 arg = number (number_of form.Uint8 arg)
of_form form.Int4 arg = signed (signed_of arg)
of_form form.Float8 arg = double (payload form.Float8 arg)
of_form form.Line arg = held (payload form.Line arg)
of_form form.Quoted arg = held (payload form.Quoted arg)
of_form form.Decimal arg = number (number_of form.Decimal arg)
of_form form.Two arg = names (first_text arg) (second_text arg)
of_form form.Bytes1 arg = held (payload form.Bytes1 arg)
of_form form.Bytes4 arg = held (payload form.Bytes4 arg)
of_form form.Bytes8 arg = held (payload form.Bytes8 arg)
of_form form.String4 arg = held (payload form.String4 arg)

arg_by : (b : Bool) (o : Operation) → ArePlain (if b then long_fields (payload (form_of o.opcode) o.arg) else form_fields (form_of o.opcode) o.arg)
arg_by true o = long (payload (form_of o.opcode) o.arg)
arg_by false o = of_form (form_of o.opcode) o.arg

pub argument : (o : Operation) → ArePlain (arg_fields o)
unfolding arg_fields
argument o = arg_by (is_long o.opcode) o

-- ---- items

noted : (n : Option Note) → ArePlain (note_fields n)
noted None = tt
noted (Some (note.MarkAt offset)) = fields_are_plain.wholes (codes "mark") offset (word (codes "mark") refl)
noted (Some (note.As key)) = fields_are_plain.wholes (codes "memo") key (word (codes "memo") refl)

pub head : (o : Operation) (offset : ℕ) → ArePlain (head_fields o offset)
unfolding head_fields
head o offset =
    fields_are_plain.joined _ _ (fields_are_plain.wholes (codes "offset") offset (word (codes "offset") refl))
    (fields_are_plain.texts (codes "opcode") (name_of o.opcode) (word (codes "opcode") refl) (word (name_of o.opcode) (name_plain o.opcode)))

rest : (o : Operation) (marks : ℕ) (n : Option Note) → ArePlain (rest_fields o marks n)
unfolding rest_fields
rest o marks n = fields_are_plain.joined _ _ (fields_are_plain.joined _ _ (argument o) (fields_are_plain.wholes (codes "marks") marks (word (codes "marks") refl))) (noted n)

pub item_lines_read_back : ItemLinesReadBack
unfolding item_line
item_lines_read_back o offset marks n =
    plain_line_reads (codes "opcode") (item_fields o offset marks n) refl (fields_are_plain.joined _ _ (head o offset) (rest o marks n))

-- ---- ends

protocol : (highest : Option ℕ) → ArePlain (protocol_fields highest)
protocol None = tt
protocol (Some p) = fields_are_plain.wholes (codes "protocol") p (word (codes "protocol") refl)

pub ended : (how : List ℕ) → list_all is_plain how ≡ true → ArePlain (how_fields how)
unfolding how_fields
ended how h = fields_are_plain.texts (codes "how") how (word (codes "how") refl) (word how h)

pub coded : (code words : List ℕ) → list_all is_plain code ≡ true → list_all is_plain words ≡ true → ArePlain (coded_fields code words)
unfolding coded_fields
coded code words c w =
    fields_are_plain.joined _ _ (fields_are_plain.texts (codes "code") code (word (codes "code") refl) (word code c))
    (fields_are_plain.texts (codes "words") words (word (codes "words") refl) (word words w))

refusal_code_plain : (r : Refusal) → list_all is_plain (refusal_code r) ≡ true
unfolding refusal_code
refusal_code_plain refusal.NoMark = refl
refusal_code_plain _ = refl

refusal_words_plain : (r : Refusal) → list_all is_plain (refusal_words r) ≡ true
unfolding refusal_words
refusal_words_plain refusal.NoMark = refl
refusal_words_plain _ = refl

object : (id : ℕ) → ArePlain (field (codes "object") (whole id))
object id = fields_are_plain.wholes (codes "object") id (word (codes "object") refl)

refused_by : (r : Refusal) → ArePlain (refusal_fields r)
unfolding refusal_fields
refused_by refusal.NoMark = tt
refused_by refusal.Underflow = tt
refused_by (refusal.NoMemoEntry key) = fields_are_plain.wholes (codes "memo") key (word (codes "memo") refl)
refused_by refusal.OddItems = tt
refused_by (refusal.WrongKind id) = object id
refused_by (refusal.BadProtocol n) = fields_are_plain.wholes (codes "number") n (word (codes "number") refl)
refused_by (refusal.BadExtension n) = fields_are_plain.integers (codes "number") n (word (codes "number") refl)
refused_by (refusal.NotText id) = object id
refused_by (refusal.NotCallable id) = object id
refused_by (refusal.NotArguments id) = object id
refused_by (refusal.NotKeywords id) = object id
refused_by refusal.Memory = tt

fault_code_plain : (f : TailFault) → list_all is_plain (fault_code f) ≡ true
unfolding fault_code
fault_code_plain (tail.Front at_front.Ended) = refl
fault_code_plain (tail.Front (at_front.UnknownOpcode byte)) = refl
fault_code_plain (tail.Front at_front.Truncated) = refl
fault_code_plain (tail.Front at_front.NegativeLength) = refl
fault_code_plain (tail.Front at_front.BadArgument) = refl
fault_code_plain tail.FrameInFrame = refl
fault_code_plain tail.FramePastEnd = refl
fault_code_plain tail.FrameCrossed = refl

fault_words_plain : (f : TailFault) → list_all is_plain (fault_words f) ≡ true
unfolding fault_words
fault_words_plain (tail.Front at_front.Ended) = refl
fault_words_plain (tail.Front (at_front.UnknownOpcode byte)) = refl
fault_words_plain (tail.Front at_front.Truncated) = refl
fault_words_plain (tail.Front at_front.NegativeLength) = refl
fault_words_plain (tail.Front at_front.BadArgument) = refl
fault_words_plain tail.FrameInFrame = refl
fault_words_plain tail.FramePastEnd = refl
fault_words_plain tail.FrameCrossed = refl

faulty : (f : TailFault) → ArePlain (fault_fields f)
unfolding fault_fields
faulty (tail.Front (at_front.UnknownOpcode byte)) = fields_are_plain.wholes (codes "byte") byte (word (codes "byte") refl)
faulty (tail.Front at_front.Ended) = tt
faulty (tail.Front at_front.Truncated) = tt
faulty (tail.Front at_front.NegativeLength) = tt
faulty (tail.Front at_front.BadArgument) = tt
faulty tail.FrameInFrame = tt
faulty tail.FramePastEnd = tt
faulty tail.FrameCrossed = tt

left : (objects marks : ℕ) → ArePlain (left_fields objects marks)
left objects marks =
    fields_are_plain.joined _ _ (fields_are_plain.wholes (codes "objects") objects (word (codes "objects") refl))
    (fields_are_plain.wholes (codes "marks") marks (word (codes "marks") refl))

pub stopped : (kept : ℕ) (highest : Option ℕ) → ArePlain (stopped_fields kept highest)
stopped kept highest =
    fields_are_plain.joined _ _ (fields_are_plain.joined _ _ (ended (codes "stopped") refl) (fields_are_plain.wholes (codes "kept") kept (word (codes "kept") refl))) (protocol highest)

pub refused : (r : Refusal) (highest : Option ℕ) → ArePlain (refused_fields r highest)
refused r highest =
    fields_are_plain.joined _ _ (fields_are_plain.joined _ _ (fields_are_plain.joined _ _ (ended (codes "refused") refl) (coded (refusal_code r) (refusal_words r) (refusal_code_plain r) (refusal_words_plain r)))
    (refused_by r)) (protocol highest)

told : (f : TailFault) → ArePlain (told_fields f)
unfolding told_fields
told f =
    fields_are_plain.joined _ _ (fields_are_plain.joined _ _ (ended (codes "fault") refl) (coded (fault_code f) (fault_words f) (fault_code_plain f) (fault_words_plain f))) (faulty f)

placed : (f : TailFault) (offset : ℕ) → ArePlain (place_fields f offset)
unfolding place_fields
placed f offset =
    fields_are_plain.joined _ _ (fields_are_plain.wholes (codes "offset") offset (word (codes "offset") refl)) (truth (codes "of_frame") (is_of_frame f) refl)

pub fault : (f : TailFault) (offset : ℕ) (highest : Option ℕ) → ArePlain (tail_fields f offset highest)
fault f offset highest = fields_are_plain.joined _ _ (fields_are_plain.joined _ _ (told f) (placed f offset)) (protocol highest)

-- ---- the line for people

shown_text : (text : List ℕ) → ArePlain (shown_field text)
unfolding shown_field
shown_text text = fields_are_plain.bytes (codes "text") (codes "text_hex") text (word (codes "text") refl) (word (codes "text_hex") refl)

pub shown : (text : Option (List ℕ)) → ArePlain (shown_fields text)
shown None = tt
shown (Some text) = shown_text text

-- ---- the last lines

pub end_lines_read_back : EndLinesReadBack
unfolding left_text stopped_end refused_end fault_end
end_lines_read_back = record {
  left = λ objects marks. plain_line_reads (codes "left") (left_fields objects marks) refl (left objects marks);
  stopped = λ kept highest. plain_line_reads (codes "end") (stopped_fields kept highest) refl (stopped kept highest);
  refused = λ r highest. plain_line_reads (codes "end") (refused_fields r highest) refl (refused r highest);
  fault = λ f offset highest. plain_line_reads (codes "end") (tail_fields f offset highest) refl (fault f offset highest);
}
