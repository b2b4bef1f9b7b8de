-- Why a line is refused, as fields: its code apart from its words, and the numbers that it is about.
-- Source: own. The codes are those of the texts for people.
use Rattle.std.specs.Prelude.{ℕ, List, [], codes, None}
use Rattle.json.specs.Json.{string}
use Rattle.json_lines.specs.Line.{Field, field, ◌⊕◌, whole, line}
use Rattle.pickle_doc.specs.declared.edit.EditFault.{EditFault}
use Rattle.pickle_doc.specs.declared.edit.EditFault.TheVariants as edit
use Rattle.pickle_doc.specs.declared.fault.End.{End}
use Rattle.pickle_doc.specs.declared.fault.End.TheVariants as end
use Rattle.pickle_doc.specs.declared.fault.TailFault.TheVariants as tail
use Rattle.pickle_ops.specs.declared.fault.OpFault.{OpFault}
use Rattle.pickle_ops.specs.declared.fault.OpFault.TheVariants as op_fault
use Rattle.pickle_machine.specs.declared.refusal.Refusal.{Refusal}
use Rattle.pickle_session.specs.declared.reply.Fault.{Fault}
use Rattle.pickle_session.specs.declared.reply.Fault.TheVariants as fault
use Rattle.pickle_script.specs.declared.conversation.line.Syntax.{Syntax}
use Rattle.pickle_script.specs.declared.conversation.line.Syntax.TheVariants as syntax
use Rattle.pickle_json.specs.EndFields as ends
use Rattle.pickle_json.specs.EndFields.{how_fields, coded_fields, tail_fields}
use Rattle.objects_json.specs.Objects.{item_refused_fields}
use Rattle.debug_json.specs.Array.{object_json}

-- ---- how a document ends, and which item is refused: as the last line of a listing says it

abbrev pub end_fields : End → List Field
end_fields end.Stopped = how_fields (codes "stopped")
end_fields (end.Fault f offset) = tail_fields f offset None

unfoldable pub end_field : End → List Field
end_field e = field (codes "end") (object_json (codes "end") (end_fields e))

unfoldable pub item_field : ℕ → Refusal → List Field
item_field place r = field (codes "end") (object_json (codes "end") (item_refused_fields place r))

unfoldable pub place_field : ℕ → List Field
place_field k = field (codes "place") (whole k)

-- ---- edits

unfoldable pub edit_code : EditFault → List ℕ
edit_code edit.NoSuchItem = codes "E1"
edit_code edit.StopItem = codes "E2"
edit_code edit.FrameItem = codes "E3"
edit_code edit.AfterStop = codes "E4"
edit_code edit.OpenFrame = codes "E5"
edit_code edit.AlreadyFramed = codes "E6"
edit_code edit.TooManyItems = codes "E7"
edit_code edit.TooLarge = codes "E8"
edit_code edit.Memory = codes "M"

unfoldable pub edit_words : EditFault → List ℕ
edit_words edit.NoSuchItem = codes "no such item"
edit_words edit.StopItem = codes "stop item"
edit_words edit.FrameItem = codes "frame item"
edit_words edit.AfterStop = codes "after stop"
edit_words edit.OpenFrame = codes "open frame"
edit_words edit.AlreadyFramed = codes "already framed"
edit_words edit.TooManyItems = codes "too many items"
edit_words edit.TooLarge = codes "too large"
edit_words edit.Memory = codes "out of memory"

-- ---- commands

unfoldable pub fault_code : Fault → List ℕ
fault_code fault.AtStart = codes "C1"
fault_code (fault.AtEnd e) = codes "C2"
fault_code (fault.Item k r) = codes "C3"
fault_code fault.NoSuchPlace = codes "C4"
fault_code fault.BehindCursor = codes "C5"
fault_code fault.NothingToUndo = codes "C6"
fault_code fault.NothingToRedo = codes "C7"
fault_code (fault.EditBehindCursor k) = codes "C8"
fault_code (fault.Edit f) = codes "C9"
fault_code fault.Memory = codes "M"

-- of an edit that a document refuses, why it does
unfoldable pub fault_words : Fault → List ℕ
fault_words fault.AtStart = codes "at the start"
fault_words (fault.AtEnd e) = codes "at the end"
fault_words (fault.Item k r) = codes "item refused"
fault_words fault.NoSuchPlace = codes "no such place"
fault_words fault.BehindCursor = codes "behind the cursor"
fault_words fault.NothingToUndo = codes "nothing to undo"
fault_words fault.NothingToRedo = codes "nothing to redo"
fault_words (fault.EditBehindCursor k) = codes "edit behind the cursor"
fault_words (fault.Edit f) = edit_words f
fault_words fault.Memory = codes "out of memory"

-- what it is about
unfoldable pub fault_rest : Fault → List Field
fault_rest (fault.AtEnd e) = end_field e
fault_rest (fault.Item k r) = item_field k r
fault_rest (fault.EditBehindCursor k) = place_field k
fault_rest (fault.Edit f) = field (codes "edit") (string (edit_code f))
fault_rest fault.AtStart = []
fault_rest fault.NoSuchPlace = []
fault_rest fault.BehindCursor = []
fault_rest fault.NothingToUndo = []
fault_rest fault.NothingToRedo = []
fault_rest fault.Memory = []

abbrev pub fault_fields : Fault → List Field
fault_fields f = coded_fields (fault_code f) (fault_words f) ⊕ fault_rest f

-- ---- lines that say nothing

unfoldable pub op_code : OpFault → List ℕ
op_code (op_fault.Front f) = ends.fault_code (tail.Front f)
op_code op_fault.TooLong = codes "F9"
op_code op_fault.Memory = codes "M"

unfoldable pub op_words : OpFault → List ℕ
op_words (op_fault.Front f) = ends.fault_words (tail.Front f)
op_words op_fault.TooLong = codes "too long"
op_words op_fault.Memory = codes "out of memory"

unfoldable pub syntax_code : Syntax → List ℕ
syntax_code syntax.UnknownWord = codes "X1"
syntax_code syntax.MissingWord = codes "X2"
syntax_code syntax.BadNumber = codes "X3"
syntax_code syntax.UnknownOpcodeName = codes "X4"
syntax_code syntax.BadHex = codes "X5"
syntax_code syntax.ExtraWord = codes "X6"
syntax_code syntax.LineTooLong = codes "X7"
syntax_code (syntax.BadOp f) = codes "X8"
syntax_code syntax.Memory = codes "M"

-- of bytes that are no argument of an opcode, why they are none
unfoldable pub syntax_words : Syntax → List ℕ
syntax_words syntax.UnknownWord = codes "unknown word"
syntax_words syntax.MissingWord = codes "missing word"
syntax_words syntax.BadNumber = codes "bad number"
syntax_words syntax.UnknownOpcodeName = codes "unknown opcode name"
syntax_words syntax.BadHex = codes "bad hex"
syntax_words syntax.ExtraWord = codes "extra word"
syntax_words syntax.LineTooLong = codes "line too long"
syntax_words (syntax.BadOp f) = op_words f
syntax_words syntax.Memory = codes "out of memory"

unfoldable pub syntax_rest : Syntax → List Field
syntax_rest (syntax.BadOp f) = field (codes "fault") (string (op_code f))
syntax_rest syntax.UnknownWord = []
syntax_rest syntax.MissingWord = []
syntax_rest syntax.BadNumber = []
syntax_rest syntax.UnknownOpcodeName = []
syntax_rest syntax.BadHex = []
syntax_rest syntax.ExtraWord = []
syntax_rest syntax.LineTooLong = []
syntax_rest syntax.Memory = []

abbrev pub syntax_fields : Syntax → List Field
syntax_fields f = coded_fields (syntax_code f) (syntax_words f) ⊕ syntax_rest f

-- ---- numbers that name nothing

unfoldable pub no_object_words : List ℕ
no_object_words = codes "no such object"

unfoldable pub no_object_fields : ℕ → List Field
no_object_fields number = coded_fields (codes "V1") no_object_words ⊕ field (codes "object") (whole number)

unfoldable pub no_item_words : List ℕ
no_item_words = codes "no item at this offset"

unfoldable pub no_item_fields : ℕ → List Field
no_item_fields offset = coded_fields (codes "V2") no_item_words ⊕ field (codes "offset") (whole offset)

-- ---- the lines

unfoldable pub refused_command : Fault → List ℕ
refused_command f = line (codes "refused") (fault_fields f)

unfoldable pub refused_syntax : Syntax → List ℕ
refused_syntax f = line (codes "refused") (syntax_fields f)

unfoldable pub no_object_line : ℕ → List ℕ
no_object_line number = line (codes "refused") (no_object_fields number)

unfoldable pub no_item_line : ℕ → List ℕ
no_item_line offset = line (codes "refused") (no_item_fields offset)
