-- The lines of a listing.
-- Source: `pickletools.dis`; the lines `refused:`, `left:`, `kept:` and `fault:`, and the texts of arguments, are own.
use Rattle.std.specs.Prelude.{ℕ, ◌*◌, max, List, [], ◌∷◌, decimal, codes, Option, None, Some, ◌==◌, ◌&&◌, if◌then◌else◌}
use Rattle.pickle_ops.specs.declared.opcode.Opcode.{Opcode}
use Rattle.pickle_ops.specs.Spelling.{Operation}
use Rattle.pickle_ops.specs.Table.{code_of, name_of, protocol_of}
use Rattle.pickle_io.specs.Text.{◌⧺◌}
use Rattle.pickle_machine.specs.declared.refusal.Refusal.{Refusal}
use Rattle.pickle_text.specs.Column.{blanks, left_aligned, right_aligned, newline}
use Rattle.pickle_text.specs.ReportLine.{refusal_text}
use Rattle.pickle_list.specs.declared.note.Note.{Note}
use Rattle.pickle_list.specs.declared.note.Note.TheVariants as note
use Rattle.pickle_list.specs.ArgTexts.{ArgTexts, short_args}
use Rattle.pickle_list.specs.ListingColumn.{code_text}

-- ---- the line of an item

-- where it is, at the right of five places
unfoldable pub offset_column : ℕ → List ℕ
offset_column offset = right_aligned 5 (decimal offset)

-- a colon, and its code, at the left of four places
unfoldable pub code_column : Opcode → List ℕ
code_column o = codes ": " ⧺ left_aligned 4 (code_text (code_of o)) ⧺ codes " "

-- what an opcode that takes a mark or counts the memo says besides: where that mark was set, or under which key the memo
-- gets the top
unfoldable pub mark_text : ℕ → List ℕ
mark_text offset = codes "(MARK at " ⧺ decimal offset ⧺ codes ")"

unfoldable pub as_text : ℕ → List ℕ
as_text key = codes "(as " ⧺ decimal key ⧺ codes ")"

abbrev pub note_text : Note → List ℕ
note_text (note.MarkAt offset) = mark_text offset
note_text (note.As key) = as_text key

-- the name; where there is an argument text or a note, the name fills ten places and each comes after a blank
abbrev pub described : List ℕ → Option (List ℕ) → Option Note → List ℕ
described name None None = name
described name (Some arg) None = left_aligned 10 name ⧺ codes " " ⧺ arg
described name None (Some n) = left_aligned 10 name ⧺ codes " " ⧺ note_text n
described name (Some arg) (Some n) = left_aligned 10 name ⧺ codes " " ⧺ arg ⧺ codes " " ⧺ note_text n

unfoldable pub named_in : ArgTexts → Operation → Option Note → List ℕ
named_in args o n = described (name_of o.opcode) (args.text o) n

-- the line of an item at this offset, with four blanks for each open mark
unfoldable pub item_line_in : ArgTexts → Operation → ℕ → ℕ → Option Note → List ℕ
item_line_in args o offset marks n = offset_column offset ⧺ code_column o.opcode ⧺ blanks (4 * marks) ⧺ named_in args o n ⧺ newline

-- with the argument's own text
abbrev pub named : Operation → Option Note → List ℕ
named o n = named_in short_args o n

abbrev pub item_line : Operation → ℕ → ℕ → Option Note → List ℕ
item_line o offset marks n = item_line_in short_args o offset marks n

-- ---- the closing lines

unfoldable pub refused_line : Refusal → List ℕ
refused_line r = codes "refused: " ⧺ refusal_text r ⧺ newline

unfoldable pub left_text : ℕ → ℕ → List ℕ
left_text objects marks = codes "left: " ⧺ decimal objects ⧺ codes " objects, " ⧺ decimal marks ⧺ codes " marks" ⧺ newline

-- what STOP left on the stack, if anything
unfoldable pub left_line : ℕ → ℕ → List ℕ
left_line objects marks = if objects == 0 && marks == 0 then [] else left_text objects marks

-- more than sixteen bytes, closed in proofs under a name
unfoldable pub protocol_words : List ℕ
protocol_words = codes "highest protocol among opcodes = "

unfoldable pub protocol_text : ℕ → List ℕ
protocol_text protocol = protocol_words ⧺ decimal protocol ⧺ newline

unfoldable pub protocol_line : Option ℕ → List ℕ
protocol_line None = []
protocol_line (Some protocol) = protocol_text protocol

-- the greatest protocol of operations, if there are any
abbrev pub raised : Option ℕ → ℕ → Option ℕ
raised None protocol = Some protocol
raised (Some most) protocol = Some (max most protocol)

abbrev pub highest_protocol : List Operation → Option ℕ
highest_protocol [] = None
highest_protocol (o ∷ ops) = raised (highest_protocol ops) (protocol_of o.opcode)
