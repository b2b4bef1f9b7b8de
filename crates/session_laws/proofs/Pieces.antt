-- What listings and reports are made of are lines.
use Rattle.std.proofs.Common.{◌≡◌, ◌≢◌, ℕ, ◌*◌, ◌==◌, Bool, true, false, List, [], ◌∷◌, ◌++◌, length, Option, Some, None, refl, sym, ap, ◌∙◌, append_assoc}
use Rattle.std.specs.Prelude.{not, codes, decimal, if◌then◌else◌, nat_le}
use Rattle.std.specs.Fmt.{signed_decimal}
use Rattle.hex.specs.Hex.{encode_with}
use Rattle.pickle_io.specs.Text.{◌⧺◌, hexadecimal, quoted}
use Rattle.pickle_io.specs.Device.{each}
use Rattle.pickle_ops.specs.Argument.{payload, number_of, signed_of, first_text, second_text, long_of}
use Rattle.pickle_ops.specs.declared.opcode.Opcode.{Opcode}
use Rattle.pickle_ops.specs.declared.opcode.Opcode.TheVariants as op
use Rattle.pickle_ops.specs.declared.form.Form.{Form}
use Rattle.pickle_ops.specs.declared.form.Form.TheVariants as form
use Rattle.pickle_ops.specs.declared.fault.FrontFault.TheVariants as at_front
use Rattle.pickle_ops.specs.declared.kind.Kind.{Kind}
use Rattle.pickle_ops.specs.declared.kind.Kind.TheVariants as kind
use Rattle.pickle_ops.specs.declared.object.Change.{Change}
use Rattle.pickle_ops.specs.declared.object.Change.TheVariants as change
use Rattle.pickle_ops.specs.Object.{Object}
use Rattle.pickle_ops.specs.Spelling.{Operation}
use Rattle.pickle_ops.specs.Table.{code_of, name_of, form_of}
use Rattle.pickle_ops.specs.Text.{float_text, long_text, two_texts, form_text, is_long, arg_text}
use Rattle.pickle_doc.specs.declared.fault.TailFault.{TailFault}
use Rattle.pickle_doc.specs.declared.fault.TailFault.TheVariants as tail
use Rattle.pickle_machine.specs.declared.refusal.Refusal.{Refusal}
use Rattle.pickle_machine.specs.declared.refusal.Refusal.TheVariants as refusal
use Rattle.pickle_list.specs.declared.note.Note.{Note}
use Rattle.pickle_list.specs.declared.note.Note.TheVariants as note
use Rattle.pickle_text.specs.Column.{newline, blanks, left_aligned}
use Rattle.pickle_list.specs.ListingColumn.{code_text}
use Rattle.pickle_io.specs.declared.hole.Hole.{Hole}
use Rattle.pickle_script.specs.Output.{hole_text, outside_words, outside_line}
use Rattle.pickle_list.specs.Line.{offset_column, code_column, mark_text, as_text, note_text, described, named, named_in, item_line, item_line_in, refused_line, left_text, protocol_words, protocol_text}
use Rattle.pickle_text.specs.Closing.{kept_words, kept_text, refused_item_line}
use Rattle.pickle_text.specs.Words.{id_text, kind_text}
use Rattle.object_texts.specs.ObjectText.{next_text, some_parts, parts_text, set_text, change_text, object_text, object_line}
use Rattle.object_texts.specs.Report.{result_line}
use Rattle.pickle_text.specs.ReportLine.{refusal_words, refusal_number, refusal_text, item_text, item_refused, tail_words, fault_byte, fault_text, fault_at, fault_line}
use Rattle.pickle_script.specs.Script.{HasNoNewline}
use Rattle.session_laws.specs.Lines.{IsOneLine, PiecesAreLines}
use Rattle.session_laws.proofs.Lacks.{lacks, first_holds, second_holds, lacks_join, lacks_each, lacks_blanks, lacks_right, lacks_left, lacks_decimal, lacks_signed, newline_no_digit, lacks_hexadecimal, lacks_quoted}

-- ---- a line

-- no byte of a text is a newline
abbrev pub Within : List ℕ → Type 0
Within text = lacks 10 text ≡ true

no_newline : (x : ℕ) → not (x == 10) ≡ true → x ≢ 10
no_newline x h = λ e. let bad : not (10 == 10) ≡ true = ap (λ (y : ℕ). not (y == 10)) (sym e) ∙ h in absurd cc

has_none : (text : List ℕ) → Within text → HasNoNewline text
has_none [] h = tt
has_none (x ∷ text) h = (no_newline x (first_holds (not (x == 10)) (lacks 10 text) h), has_none text (second_holds (not (x == 10)) (lacks 10 text) h))

same_end : (text : List ℕ) → (text ++ 10 ∷ []) ++ [] ≡ text ++ 10 ∷ []
same_end text = append_assoc text (10 ∷ []) []

pub is_line : (text : List ℕ) → Within text → IsOneLine (text ⧺ newline)
unfolding ◌⧺◌
is_line text h = (text, record { whole = same_end text; lines = (has_none text h, tt); rest = tt })

pub join : (a b : List ℕ) → Within a → Within b → Within (a ⧺ b)
join a b p q = lacks_join 10 a b p q

pub number : (n : ℕ) → Within (decimal n)
number n = lacks_decimal 10 n newline_no_digit

-- ---- refusals and faults

refusal_word : (r : Refusal) → Within (refusal_words r)
unfolding refusal_words
refusal_word refusal.NoMark = refl
refusal_word refusal.Underflow = refl
refusal_word (refusal.NoMemoEntry key) = refl
refusal_word refusal.OddItems = refl
refusal_word (refusal.WrongKind id) = refl
refusal_word (refusal.BadProtocol n) = refl
refusal_word (refusal.BadExtension n) = refl
refusal_word (refusal.NotText id) = refl
refusal_word (refusal.NotCallable id) = refl
refusal_word (refusal.NotArguments id) = refl
refusal_word (refusal.NotKeywords id) = refl
refusal_word refusal.Memory = refl

refusal_no : (r : Refusal) → Within (refusal_number r)
unfolding refusal_number
refusal_no refusal.NoMark = refl
refusal_no refusal.Underflow = refl
refusal_no (refusal.NoMemoEntry key) = number key
refusal_no refusal.OddItems = refl
refusal_no (refusal.WrongKind id) = number id
refusal_no (refusal.BadProtocol n) = number n
refusal_no (refusal.BadExtension n) = lacks_signed 10 n refl newline_no_digit
refusal_no (refusal.NotText id) = number id
refusal_no (refusal.NotCallable id) = number id
refusal_no (refusal.NotArguments id) = number id
refusal_no (refusal.NotKeywords id) = number id
refusal_no refusal.Memory = refl

refusal_within : (r : Refusal) → Within (refusal_text r)
unfolding refusal_text
refusal_within r = join (refusal_words r) (refusal_number r) (refusal_word r) (refusal_no r)

tail_word : (f : TailFault) → Within (tail_words f)
unfolding tail_words
tail_word (tail.Front at_front.Ended) = refl
tail_word (tail.Front (at_front.UnknownOpcode byte)) = refl
tail_word (tail.Front at_front.Truncated) = refl
tail_word (tail.Front at_front.NegativeLength) = refl
tail_word (tail.Front at_front.BadArgument) = refl
tail_word tail.FrameInFrame = refl
tail_word tail.FramePastEnd = refl
tail_word tail.FrameCrossed = refl

tail_byte : (f : TailFault) → Within (fault_byte f)
unfolding fault_byte
tail_byte (tail.Front at_front.Ended) = refl
tail_byte (tail.Front (at_front.UnknownOpcode byte)) = lacks_hexadecimal (byte ∷ [])
tail_byte (tail.Front at_front.Truncated) = refl
tail_byte (tail.Front at_front.NegativeLength) = refl
tail_byte (tail.Front at_front.BadArgument) = refl
tail_byte tail.FrameInFrame = refl
tail_byte tail.FramePastEnd = refl
tail_byte tail.FrameCrossed = refl

fault_within : (f : TailFault) (offset : ℕ) → Within (fault_at f offset)
unfolding fault_at fault_text
fault_within f offset =
    join (tail_words f ⧺ fault_byte f ⧺ codes " at ") (decimal offset)
    (join (tail_words f ⧺ fault_byte f) (codes " at ") (join (tail_words f) (fault_byte f) (tail_word f) (tail_byte f)) refl) (number offset)

fault : (f : TailFault) (offset : ℕ) → IsOneLine (fault_line f offset)
unfolding fault_line
fault f offset = is_line (codes "fault: " ⧺ fault_at f offset) (join (codes "fault: ") (fault_at f offset) refl (fault_within f offset))

refused : (r : Refusal) → IsOneLine (refused_line r)
unfolding refused_line
refused r = is_line (codes "refused: " ⧺ refusal_text r) (join (codes "refused: ") (refusal_text r) refl (refusal_within r))

item_within : (place : ℕ) (r : Refusal) → Within (item_refused place r)
unfolding item_refused item_text
item_within place r =
    join (codes "item ") (decimal place ⧺ codes ": " ⧺ refusal_text r) refl
    (join (decimal place ⧺ codes ": ") (refusal_text r) (join (decimal place) (codes ": ") (number place) refl) (refusal_within r))

stopped : (place : ℕ) (r : Refusal) → IsOneLine (refused_item_line place r)
unfolding refused_item_line
stopped place r = is_line (codes "refused: " ⧺ item_refused place r) (join (codes "refused: ") (item_refused place r) refl (item_within place r))

-- ---- the closing lines of a listing

left : (objects marks : ℕ) → IsOneLine (left_text objects marks)
unfolding left_text
left objects marks =
    is_line (codes "left: " ⧺ decimal objects ⧺ codes " objects, " ⧺ decimal marks ⧺ codes " marks")
    (join (codes "left: " ⧺ decimal objects ⧺ codes " objects, " ⧺ decimal marks) (codes " marks")
    (join (codes "left: " ⧺ decimal objects ⧺ codes " objects, ") (decimal marks)
    (join (codes "left: " ⧺ decimal objects) (codes " objects, ") (join (codes "left: ") (decimal objects) refl (number objects)) refl) (number marks)) refl)

kept : (count : ℕ) → IsOneLine (kept_text count)
unfolding kept_text kept_words
kept count =
    is_line (codes "kept: " ⧺ decimal count ⧺ codes " bytes after STOP")
    (join (codes "kept: " ⧺ decimal count) (codes " bytes after STOP") (join (codes "kept: ") (decimal count) refl (number count)) refl)

hole_there : (h : Hole) → Within (hole_text h)
unfolding hole_text
hole_there h =
    join (codes "hole " ⧺ decimal h.offset ⧺ codes ":") (decimal h.size)
    (join (codes "hole " ⧺ decimal h.offset) (codes ":") (join (codes "hole ") (decimal h.offset) refl (number h.offset)) refl) (number h.size)

hole : (h : Hole) (size : ℕ) → IsOneLine (outside_line h size)
unfolding outside_line outside_words
hole h size =
    let front : List ℕ = codes "refused: " ⧺ hole_text h ⧺ codes " ends behind the last of " in
    is_line (front ⧺ decimal size ⧺ codes " bytes")
    (join (front ⧺ decimal size) (codes " bytes")
    (join front (decimal size) (join (codes "refused: " ⧺ hole_text h) (codes " ends behind the last of ") (join (codes "refused: ") (hole_text h) refl (hole_there h)) refl) (number size)) refl)

protocol : (n : ℕ) → IsOneLine (protocol_text n)
unfolding protocol_text protocol_words
protocol n = is_line (codes "highest protocol among opcodes = " ⧺ decimal n) (join (codes "highest protocol among opcodes = ") (decimal n) refl (number n))

-- ---- arguments

abbrev WithinSome : Option (List ℕ) → Type 0
WithinSome None = true ≡ true
WithinSome (Some text) = Within text

float_within : (bytes : List ℕ) → Within (float_text bytes)
unfolding float_text
float_within bytes = join (codes "f8:") (hexadecimal bytes) refl (lacks_hexadecimal bytes)

long_by : (b : Bool) (bytes : List ℕ) → Within (if b then signed_decimal (long_of bytes) else codes "le:" ⧺ hexadecimal bytes)
long_by true bytes = lacks_signed 10 (long_of bytes) refl newline_no_digit
long_by false bytes = join (codes "le:") (hexadecimal bytes) refl (lacks_hexadecimal bytes)

long_within : (bytes : List ℕ) → Within (long_text bytes)
unfolding long_text
long_within bytes = long_by (nat_le (length bytes) 16) bytes

two_within : (arg : List ℕ) → Within (two_texts arg)
unfolding two_texts
two_within arg =
    join (quoted (first_text arg) ⧺ codes " ") (quoted (second_text arg)) (join (quoted (first_text arg)) (codes " ") (lacks_quoted (first_text arg)) refl) (lacks_quoted (second_text arg))

form_within : (f : Form) (arg : List ℕ) → WithinSome (form_text f arg)
form_within form.Empty arg = refl
form_within form.Uint1 arg = number (number_of form.Uint1 arg)
form_within form.Uint2 arg = number (number_of form.Uint2 arg)
form_within form.Uint4 arg = number (number_of form.Uint4 arg)
form_within form.Uint8 arg = number (number_of form.Uint8 arg)
form_within form.Int4 arg = lacks_signed 10 (signed_of arg) refl newline_no_digit
form_within form.Float8 arg = float_within (payload form.Float8 arg)
form_within form.Line arg = lacks_quoted (payload form.Line arg)
form_within form.Quoted arg = lacks_quoted (payload form.Quoted arg)
form_within form.Decimal arg = number (number_of form.Decimal arg)
form_within form.Two arg = two_within arg
form_within form.Bytes1 arg = lacks_quoted (payload form.Bytes1 arg)
form_within form.Bytes4 arg = lacks_quoted (payload form.Bytes4 arg)
form_within form.Bytes8 arg = lacks_quoted (payload form.Bytes8 arg)
form_within form.String4 arg = lacks_quoted (payload form.String4 arg)

arg_by : (b : Bool) (f : Form) (arg : List ℕ) → WithinSome (if b then Some (long_text (payload f arg)) else form_text f arg)
arg_by true f arg = long_within (payload f arg)
arg_by false f arg = form_within f arg

arg_within : (o : Operation) → WithinSome (arg_text o)
unfolding arg_text
arg_within o = arg_by (is_long o.opcode) (form_of o.opcode) o.arg

-- ---- the line of an item

note_within : (n : Note) → Within (note_text n)
unfolding mark_text as_text
note_within (note.MarkAt offset) = join (codes "(MARK at " ⧺ decimal offset) (codes ")") (join (codes "(MARK at ") (decimal offset) refl (number offset)) refl
note_within (note.As key) = join (codes "(as " ⧺ decimal key) (codes ")") (join (codes "(as ") (decimal key) refl (number key)) refl

described_within : (name : List ℕ) (arg : Option (List ℕ)) (n : Option Note) → Within name → WithinSome arg → Within (described name arg n)
described_within name None None p q = p
described_within name (Some arg) None p q = join (left_aligned 10 name ⧺ codes " ") arg (join (left_aligned 10 name) (codes " ") (lacks_left 10 10 name refl p) refl) q
described_within name None (Some n) p q =
    join (left_aligned 10 name ⧺ codes " ") (note_text n) (join (left_aligned 10 name) (codes " ") (lacks_left 10 10 name refl p) refl) (note_within n)
described_within name (Some arg) (Some n) p q =
    join (left_aligned 10 name ⧺ codes " " ⧺ arg ⧺ codes " ") (note_text n)
    (join (left_aligned 10 name ⧺ codes " " ⧺ arg) (codes " ")
    (join (left_aligned 10 name ⧺ codes " ") arg (join (left_aligned 10 name) (codes " ") (lacks_left 10 10 name refl p) refl) q) refl) (note_within n)

name_within : (o : Opcode) → Within (name_of o)
name_within op.Int = refl
name_within _ = refl

code_within : (o : Opcode) → Within (left_aligned 4 (code_text (code_of o)))
unfolding left_aligned ◌⧺◌ encode_with
code_within op.Int = refl
code_within _ = refl

column_within : (o : Opcode) → Within (code_column o)
unfolding code_column
column_within o =
    join (codes ": " ⧺ left_aligned 4 (code_text (code_of o))) (codes " ") (join (codes ": ") (left_aligned 4 (code_text (code_of o))) refl (code_within o)) refl

offset_within : (offset : ℕ) → Within (offset_column offset)
unfolding offset_column
offset_within offset = lacks_right 10 5 (decimal offset) refl (number offset)

named_within : (o : Operation) (n : Option Note) → Within (named o n)
unfolding named_in
named_within o n = described_within (name_of o.opcode) (arg_text o) n (name_within o.opcode) (arg_within o)

item : (o : Operation) (offset marks : ℕ) (n : Option Note) → IsOneLine (item_line o offset marks n)
unfolding item_line_in
item o offset marks n =
    is_line (offset_column offset ⧺ code_column o.opcode ⧺ blanks (4 * marks) ⧺ named o n)
    (join (offset_column offset ⧺ code_column o.opcode ⧺ blanks (4 * marks)) (named o n)
    (join (offset_column offset ⧺ code_column o.opcode) (blanks (4 * marks))
    (join (offset_column offset) (code_column o.opcode) (offset_within offset) (column_within o.opcode)) (lacks_blanks 10 (4 * marks) refl)) (named_within o n))

-- ---- the line of an object

id_within : (id : ℕ) → Within (id_text id)
unfolding id_text
id_within id = join (codes "#") (decimal id) refl (number id)

-- a word, and after it what is in quotes
with_quotes : (word q : List ℕ) → Within word → Within (word ⧺ quoted q)
with_quotes word q h = join word (quoted q) h (lacks_quoted q)

with_names : (word first second : List ℕ) → Within word → Within (word ⧺ quoted first ⧺ codes " " ⧺ quoted second)
with_names word first second h =
    join (word ⧺ quoted first ⧺ codes " ") (quoted second) (join (word ⧺ quoted first) (codes " ") (with_quotes word first h) refl) (lacks_quoted second)

kind_within : (k : Kind) → Within (kind_text k)
unfolding kind_text
kind_within kind.None = refl
kind_within kind.True = refl
kind_within kind.False = refl
kind_within (kind.Int n) = join (codes "int ") (signed_decimal n) refl (lacks_signed 10 n refl newline_no_digit)
kind_within (kind.Long bytes) = join (codes "int ") (long_text bytes) refl (long_within bytes)
kind_within (kind.IntLine q) = with_quotes (codes "int-line ") q refl
kind_within (kind.LongLine q) = with_quotes (codes "long-line ") q refl
kind_within (kind.FloatLine q) = with_quotes (codes "float-line ") q refl
kind_within (kind.Float bytes) = join (codes "float ") (float_text bytes) refl (float_within bytes)
kind_within (kind.LegacyString q) = with_quotes (codes "string ") q refl
kind_within (kind.LegacyLine q) = with_quotes (codes "string-line ") q refl
kind_within (kind.Text q) = with_quotes (codes "text ") q refl
kind_within (kind.TextLine q) = with_quotes (codes "text-line ") q refl
kind_within (kind.Bytes q) = with_quotes (codes "bytes ") q refl
kind_within (kind.ByteArray q) = with_quotes (codes "bytearray ") q refl
kind_within kind.Tuple = refl
kind_within kind.List = refl
kind_within kind.Set = refl
kind_within kind.FrozenSet = refl
kind_within kind.Dict = refl
kind_within (kind.Global names) = with_names (codes "global ") names.first names.second refl
kind_within kind.StackGlobal = refl
kind_within kind.Call = refl
kind_within kind.New = refl
kind_within kind.NewEx = refl
kind_within (kind.Inst names) = with_names (codes "inst ") names.first names.second refl
kind_within kind.Obj = refl
kind_within (kind.PersistentLine q) = with_quotes (codes "persistent ") q refl
kind_within kind.Persistent = refl
kind_within (kind.Ext n) = join (codes "ext ") (signed_decimal n) refl (lacks_signed 10 n refl newline_no_digit)
kind_within (kind.Buffer n) = join (codes "buffer ") (decimal n) refl (number n)
kind_within kind.ReadOnly = refl

pub next_within : (id : ℕ) → Within (next_text id)
unfolding next_text
next_within id = join (codes " ") (id_text id) refl (id_within id)

parts_within : (ids : List ℕ) → Within (parts_text ids)
unfolding some_parts
parts_within [] = refl
parts_within (id ∷ ids) =
    join (codes " (" ⧺ id_text id ⧺ each next_text ids) (codes ")")
    (join (codes " (" ⧺ id_text id) (each next_text ids) (join (codes " (") (id_text id) refl (id_within id)) (lacks_each 10 next_text ids next_within)) refl

change_within : (c : Change) → Within (change_text c)
unfolding change_text set_text
change_within (change.Append id) = join (codes " +") (id_text id) refl (id_within id)
change_within (change.SetItem key value) =
    join (codes " [" ⧺ id_text key ⧺ codes "]=") (id_text value)
    (join (codes " [" ⧺ id_text key) (codes "]=") (join (codes " [") (id_text key) refl (id_within key)) refl) (id_within value)
change_within (change.Add id) = join (codes " &") (id_text id) refl (id_within id)
change_within (change.Build id) = join (codes " !") (id_text id) refl (id_within id)

pub object_within : (id : ℕ) (o : Object) → Within (object_text id o)
unfolding object_text
object_within id o =
    join (id_text id ⧺ codes " " ⧺ kind_text o.kind ⧺ parts_text o.parts) (each change_text o.changes)
    (join (id_text id ⧺ codes " " ⧺ kind_text o.kind) (parts_text o.parts)
    (join (id_text id ⧺ codes " ") (kind_text o.kind) (join (id_text id) (codes " ") (id_within id) refl) (kind_within o.kind)) (parts_within o.parts))
    (lacks_each 10 change_text o.changes change_within)

object : (id : ℕ) (o : Object) → IsOneLine (object_line id o)
unfolding object_line
object id o = is_line (object_text id o) (object_within id o)

result : (id : ℕ) → IsOneLine (result_line id)
unfolding result_line
result id = is_line (codes "result" ⧺ next_text id) (join (codes "result") (next_text id) refl (next_within id))

pub pieces : PiecesAreLines
pieces = record {
  item = item;
  refused = refused;
  left = left;
  kept = kept;
  protocol = protocol;
  fault = fault;
  object = object;
  result = result;
  stopped = stopped;
  hole = hole;
}
