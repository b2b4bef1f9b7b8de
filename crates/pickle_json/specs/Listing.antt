-- The listing of a document as JSON Lines, place by place: line k is a function of the document and of the state that its first k items
-- reach from nothing, as in the listing that people read.
-- Source: `pickletools.dis`; what is said of refused items, of faults and of what is left is own.
use Rattle.std.specs.Prelude.{ℕ, zero, suc, List, [], length, take, if◌then◌else◌, Option, None, Some}
use Rattle.std.specs.Option.{option_map}
use Rattle.pickle_ops.specs.declared.opcode.Opcode.{Opcode}
use Rattle.pickle_ops.specs.declared.opcode.Opcode.TheVariants as op
use Rattle.pickle_ops.specs.Spelling.{Operation}
use Rattle.pickle_ops.specs.Row.{row_of}
use Rattle.pickle_io.specs.Text.{◌⧺◌}
use Rattle.pickle_doc.specs.declared.fault.Finish.{Finish}
use Rattle.pickle_doc.specs.declared.fault.Finish.TheVariants as finish
use Rattle.pickle_doc.specs.DocUnit.{is_stop}
use Rattle.pickle_doc.specs.Document.{Contents, finish_of}
use Rattle.pickle_doc.specs.Place.{ops_of, item_at, offset_of, tail_offset}
use Rattle.pickle_machine.specs.declared.refusal.Refusal.{Refusal}
use Rattle.pickle_machine.specs.State.{State, stack_size, start}
use Rattle.pickle_machine.specs.Move.{refusal_of, refusal_at, takes_mark, fresh}
use Rattle.pickle_machine.specs.Run.{run}
use Rattle.pickle_list.specs.Line.{highest_protocol}
use Rattle.pickle_list.specs.Listing.{topmost_offset, end_status}
use Rattle.pickle_text.specs.Reached.{reached}
use Rattle.pickle_text.specs.Output.{Output}
use Rattle.pickle_json.specs.declared.note.Note.{Note}
use Rattle.pickle_json.specs.declared.note.Note.TheVariants as note
use Rattle.pickle_json.specs.ItemFields.{item_line}
use Rattle.pickle_json.specs.EndFields.{left_line, stopped_end, refused_end, fault_end}

-- ---- the line of an item

-- MEMOIZE counts the entries of the memo
abbrev pub key_note : Opcode → State → Option Note
key_note op.Memoize s = Some (note.As (length s.memo))
key_note _ s = None

-- the note of an opcode, the topmost mark having been set at this offset
abbrev pub note_with : Operation → State → Option ℕ → Option Note
note_with o s offset = if takes_mark (row_of o) s then option_map note.MarkAt offset else key_note o.opcode s

-- a refused item is listed without a note
abbrev pub note_unless : Option Refusal → Option Note → Option Note
note_unless None n = n
note_unless (Some r) n = None

-- the line of an item on the state on which its move is taken
abbrev pub line_within : Contents → ℕ → Operation → State → List ℕ
line_within d k o s = item_line o (offset_of d k) (length s.marked) (note_unless (refusal_of (row_of o) s) (note_with o s (topmost_offset d s.marked)))

-- where several pickles are listed, an item after STOP begins the next one: no mark is open before it
abbrev pub line_on : Contents → ℕ → Option Operation → Option State → List ℕ
line_on d k (Some o) (Some s) = line_within d k o (fresh s)
line_on d k (Some o) None = []
line_on d k None s = []

-- the line of item k, on the state that the items before it reach
unfoldable pub line_at : Contents → ℕ → List ℕ
line_at d k = line_on d k (item_at d k) (run (start d.many) (ops_of d) k)

-- what an item left, in the state after it: STOP may leave something on the stack
abbrev pub left_by : Option Operation → Option State → List ℕ
left_by (Some o) (Some s) = if is_stop o.opcode then left_line (stack_size s) (length s.marked) else []
left_by (Some o) None = []
left_by None s = []

-- the lines of the first n items, and after each what it left
unfoldable pub lines : Contents → ℕ → List ℕ
lines d zero = []
lines d (suc k) = lines d k ⧺ line_at d k ⧺ left_by (item_at d k) (run (start d.many) (ops_of d) (suc k))

-- ---- the last line

-- after all items
abbrev pub end_text : Contents → Finish → Option ℕ → List ℕ
end_text d finish.Stopped highest = stopped_end (length d.tail) highest
end_text d (finish.Fault f) highest = fault_end f (tail_offset d) highest

-- after an item that is refused
abbrev pub refused_text : Option Refusal → Option ℕ → List ℕ
refused_text None highest = []
refused_text (Some r) highest = refused_end r highest

-- ---- listings

-- the listing, k being the greatest place that is reached: after all items, or with the refused item k as the last
abbrev pub listing_to : Contents → ℕ → Option Operation → Option State → Output
listing_to d k None (Some s) =
    record { text = lines d k ⧺ end_text d (finish_of d) (highest_protocol (take k (ops_of d))); status = end_status (finish_of d) }
listing_to d k (Some o) (Some s) =
    record { text = lines d (suc k) ⧺ refused_text (refusal_at o s) (highest_protocol (take (suc k) (ops_of d))); status = 1 }
listing_to d k o None = record { text = []; status = 0 }

abbrev pub listing_with : Contents → ℕ → Output
listing_with d k = listing_to d k (item_at d k) (run (start d.many) (ops_of d) k)

unfoldable pub listing : Contents → Output
listing d = listing_with d (reached (start d.many) (ops_of d) (length (ops_of d)))
