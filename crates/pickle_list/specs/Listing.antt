-- The listing of a document, place by place: line k is a function of the document and of the state that its first k
-- items reach from nothing.
-- Source: `pickletools.dis`; what is said of refused items, of faults and of what is left is own.
use Rattle.std.specs.Prelude.{ℕ, zero, suc, List, [], ◌∷◌, length, take, if◌then◌else◌, Option, None, Some}
use Rattle.std.specs.Option.{option_map}
use Rattle.pickle_ops.specs.declared.opcode.Opcode.{Opcode}
use Rattle.pickle_ops.specs.declared.opcode.Opcode.TheVariants as op
use Rattle.pickle_ops.specs.Spelling.{Operation}
use Rattle.pickle_io.specs.Text.{◌⧺◌}
use Rattle.pickle_doc.specs.declared.fault.Finish.{Finish}
use Rattle.pickle_doc.specs.declared.fault.Finish.TheVariants as finish
use Rattle.pickle_doc.specs.DocUnit.{is_stop}
use Rattle.pickle_doc.specs.Document.{Contents, finish_of}
use Rattle.pickle_doc.specs.Place.{ops_of, item_at, offset_of, tail_offset}
use Rattle.pickle_ops.specs.Row.{row_of}
use Rattle.pickle_machine.specs.declared.refusal.Refusal.{Refusal}
use Rattle.pickle_machine.specs.State.{State, Marked, stack_size, start}
use Rattle.pickle_machine.specs.Move.{refusal_of, refusal_at, takes_mark, fresh}
use Rattle.pickle_machine.specs.Run.{run}
use Rattle.pickle_list.specs.declared.note.Note.{Note}
use Rattle.pickle_list.specs.declared.note.Note.TheVariants as note
use Rattle.pickle_text.specs.ReportLine.{fault_line}
use Rattle.pickle_text.specs.Output.{Output}
use Rattle.pickle_list.specs.ArgTexts.{ArgTexts, short_args}
use Rattle.pickle_list.specs.Line.{item_line_in, refused_line, left_line, protocol_line, highest_protocol}
use Rattle.pickle_text.specs.Closing.{kept_line}
use Rattle.pickle_text.specs.Reached.{reached}

-- ---- the line of an item

-- where the topmost mark was set
abbrev pub topmost_offset : Contents → List Marked → Option ℕ
topmost_offset d [] = None
topmost_offset d (m ∷ ms) = Some (offset_of d m.place)

-- MEMOIZE counts the entries of the memo
abbrev pub key_note : Opcode → State → Option Note
key_note op.Memoize s = Some (note.As (length s.memo))
key_note _ s = None

-- the note of an opcode, the topmost mark having been set at this offset
abbrev pub note_with : Operation → State → Option ℕ → Option Note
note_with o s offset = if takes_mark (row_of o) s then option_map note.MarkAt offset else key_note o.opcode s

-- a refused item is listed without a note
abbrev pub note_unless : Option Refusal → Option Note → Option Note
note_unless None n = n
note_unless (Some r) n = None

-- the line of an item on the state on which its move is taken
abbrev pub line_within_in : ArgTexts → Contents → ℕ → Operation → State → List ℕ
line_within_in args d k o s = item_line_in args o (offset_of d k) (length s.marked) (note_unless (refusal_of (row_of o) s) (note_with o s (topmost_offset d s.marked)))

-- where several pickles are listed, an item after STOP begins the next one: no mark is open before it
abbrev pub line_on_in : ArgTexts → Contents → ℕ → Option Operation → Option State → List ℕ
line_on_in args d k (Some o) (Some s) = line_within_in args d k o (fresh s)
line_on_in args d k (Some o) None = []
line_on_in args d k None s = []

-- the line of item k, on the state that the items before it reach
unfoldable pub line_at_in : ArgTexts → Contents → ℕ → List ℕ
line_at_in args d k = line_on_in args d k (item_at d k) (run (start d.many) (ops_of d) k)

-- what an item left, in the state after it: STOP may leave something on the stack
abbrev pub left_by : Option Operation → Option State → List ℕ
left_by (Some o) (Some s) = if is_stop o.opcode then left_line (stack_size s) (length s.marked) else []
left_by (Some o) None = []
left_by None s = []

-- the lines of the first n items, and after each what it left
unfoldable pub lines_in : ArgTexts → Contents → ℕ → List ℕ
lines_in args d zero = []
lines_in args d (suc k) = lines_in args d k ⧺ line_at_in args d k ⧺ left_by (item_at d k) (run (start d.many) (ops_of d) (suc k))

-- ---- the closing lines

-- after all items
abbrev pub end_lines : Contents → Finish → List ℕ
end_lines d finish.Stopped = kept_line (length d.tail)
end_lines d (finish.Fault f) = fault_line f (tail_offset d)

abbrev pub end_status : Finish → ℕ
end_status finish.Stopped = 0
end_status (finish.Fault f) = 1

-- after an item that is refused
abbrev pub refused_lines : Option Refusal → List ℕ
refused_lines None = []
refused_lines (Some r) = refused_line r

-- ---- listings

-- the listing, k being the greatest place that is reached: after all items, or with the refused item k as the last
abbrev pub listing_to_in : ArgTexts → Contents → ℕ → Option Operation → Option State → Output
listing_to_in args d k None (Some s) =
    record { text = lines_in args d k ⧺ (end_lines d (finish_of d) ⧺ protocol_line (highest_protocol (take k (ops_of d)))); status = end_status (finish_of d) }
listing_to_in args d k (Some o) (Some s) =
    record { text = lines_in args d (suc k) ⧺ (refused_lines (refusal_at o s) ⧺ protocol_line (highest_protocol (take (suc k) (ops_of d)))); status = 1 }
listing_to_in args d k o None = record { text = []; status = 0 }

abbrev pub listing_with_in : ArgTexts → Contents → ℕ → Output
listing_with_in args d k = listing_to_in args d k (item_at d k) (run (start d.many) (ops_of d) k)

unfoldable pub listing_in : ArgTexts → Contents → Output
listing_in args d = listing_with_in args d (reached (start d.many) (ops_of d) (length (ops_of d)))

-- ---- the listing that has each argument's own text

abbrev pub line_on : Contents → ℕ → Option Operation → Option State → List ℕ
line_on d k o s = line_on_in short_args d k o s

abbrev pub line_at : Contents → ℕ → List ℕ
line_at d k = line_at_in short_args d k

abbrev pub lines : Contents → ℕ → List ℕ
lines d n = lines_in short_args d n

abbrev pub listing_to : Contents → ℕ → Option Operation → Option State → Output
listing_to d k o s = listing_to_in short_args d k o s

abbrev pub listing : Contents → Output
listing d = listing_in short_args d
