-- The lines that commands and lines of a script are answered with.
-- Source: own.
use Rattle.std.specs.Prelude.{ℕ, List, [], codes, decimal}
use Rattle.pickle_io.specs.Text.{◌⧺◌}
use Rattle.pickle_doc.specs.declared.edit.EditFault.{EditFault}
use Rattle.pickle_doc.specs.declared.edit.EditFault.TheVariants as edit
use Rattle.pickle_doc.specs.declared.fault.End.{End}
use Rattle.pickle_session.specs.declared.reply.Fault.{Fault}
use Rattle.pickle_session.specs.declared.reply.Fault.TheVariants as fault
use Rattle.pickle_session.specs.declared.reply.Why.{Why}
use Rattle.pickle_session.specs.declared.reply.Why.TheVariants as why
use Rattle.pickle_session.specs.declared.reply.Reply.{Reply}
use Rattle.pickle_session.specs.declared.reply.Reply.TheVariants as reply
use Rattle.pickle_script.specs.declared.conversation.line.Syntax.{Syntax}
use Rattle.pickle_script.specs.declared.conversation.line.Syntax.TheVariants as syntax
use Rattle.pickle_text.specs.Column.{newline}
use Rattle.pickle_text.specs.ReportLine.{refusal_text, item_text}
use Rattle.pickle_script.specs.FaultText.{end_text, op_fault_text}

-- ---- refused commands

-- why a document refuses an edit
unfoldable pub edit_words : EditFault → List ℕ
edit_words edit.NoSuchItem = codes "E1 no such item"
edit_words edit.StopItem = codes "E2 stop item"
edit_words edit.FrameItem = codes "E3 frame item"
edit_words edit.AfterStop = codes "E4 after stop"
edit_words edit.OpenFrame = codes "E5 open frame"
edit_words edit.AlreadyFramed = codes "E6 already framed"
edit_words edit.TooManyItems = codes "E7 too many items"
edit_words edit.TooLarge = codes "E8 too large"
edit_words edit.Memory = codes "M out of memory"

-- why a command is refused: the words, and what comes after them
unfoldable pub fault_words : Fault → List ℕ
fault_words fault.AtStart = codes "C1 at the start"
fault_words (fault.AtEnd e) = codes "C2 at the end, "
fault_words (fault.Item k r) = codes "C3 item "
fault_words fault.NoSuchPlace = codes "C4 no such place"
fault_words fault.BehindCursor = codes "C5 behind the cursor"
fault_words fault.NothingToUndo = codes "C6 nothing to undo"
fault_words fault.NothingToRedo = codes "C7 nothing to redo"
fault_words (fault.EditBehindCursor k) = codes "C8 edit at "
fault_words (fault.Edit f) = codes "C9 "
fault_words fault.Memory = codes "M out of memory"

unfoldable pub behind_text : List ℕ
behind_text = codes " behind the cursor"

unfoldable pub fault_rest : Fault → List ℕ
fault_rest (fault.AtEnd e) = end_text e
fault_rest (fault.Item k r) = item_text k r
fault_rest (fault.EditBehindCursor k) = decimal k ⧺ behind_text
fault_rest (fault.Edit f) = edit_words f
fault_rest fault.AtStart = []
fault_rest fault.NoSuchPlace = []
fault_rest fault.BehindCursor = []
fault_rest fault.NothingToUndo = []
fault_rest fault.NothingToRedo = []
fault_rest fault.Memory = []

unfoldable pub refused_command : Fault → List ℕ
refused_command f = codes "refused: " ⧺ fault_words f ⧺ fault_rest f ⧺ newline

-- ---- replies

-- why a run stopped, where the document ends so
unfoldable pub why_text : End → Why → List ℕ
why_text e why.End = codes ": end, " ⧺ end_text e
why_text e why.Breakpoint = codes ": breakpoint"
why_text e (why.Refused r) = codes ": refused, " ⧺ refusal_text r

unfoldable pub ran_text : End → ℕ → Why → List ℕ
ran_text e k w = codes "at " ⧺ decimal k ⧺ why_text e w ⧺ newline

-- a word, and the place that it is about
unfoldable pub placed_text : List ℕ → ℕ → List ℕ
placed_text word k = word ⧺ decimal k ⧺ newline

-- the line of a reply about a document that ends so
unfoldable pub reply_text : End → Reply → List ℕ
reply_text e (reply.At k) = placed_text (codes "at ") k
reply_text e (reply.Ran k w) = ran_text e k w
reply_text e (reply.Broke k) = placed_text (codes "break ") k
reply_text e (reply.Cleared k) = placed_text (codes "clear ") k
reply_text e (reply.Edited k) = placed_text (codes "edited ") k
reply_text e (reply.Undone k) = placed_text (codes "undone ") k
reply_text e (reply.Redone k) = placed_text (codes "redone ") k
reply_text e (reply.Refused f) = refused_command f

-- ---- lines that say nothing, a number that is no object's, and an offset that is no place's

-- why a line says nothing: the words, and after them the fault of an opcode
unfoldable pub syntax_words : Syntax → List ℕ
syntax_words syntax.UnknownWord = codes "X1 unknown word"
syntax_words syntax.MissingWord = codes "X2 missing word"
syntax_words syntax.BadNumber = codes "X3 bad number"
syntax_words syntax.UnknownOpcodeName = codes "X4 unknown opcode name"
syntax_words syntax.BadHex = codes "X5 bad hex"
syntax_words syntax.ExtraWord = codes "X6 extra word"
syntax_words syntax.LineTooLong = codes "X7 line too long"
syntax_words (syntax.BadOp f) = codes "X8 "
syntax_words syntax.Memory = codes "M out of memory"

unfoldable pub syntax_rest : Syntax → List ℕ
syntax_rest (syntax.BadOp f) = op_fault_text f
syntax_rest syntax.UnknownWord = []
syntax_rest syntax.MissingWord = []
syntax_rest syntax.BadNumber = []
syntax_rest syntax.UnknownOpcodeName = []
syntax_rest syntax.BadHex = []
syntax_rest syntax.ExtraWord = []
syntax_rest syntax.LineTooLong = []
syntax_rest syntax.Memory = []

unfoldable pub syntax_line : Syntax → List ℕ
syntax_line f = codes "refused: " ⧺ syntax_words f ⧺ syntax_rest f ⧺ newline

unfoldable pub no_object_line : List ℕ
no_object_line = codes "refused: V1 no such object\n"

-- no place has this offset
unfoldable pub no_item_words : List ℕ
no_item_words = codes "V2 no item at offset "

unfoldable pub no_item_line : ℕ → List ℕ
no_item_line offset = codes "refused: " ⧺ no_item_words ⧺ decimal offset ⧺ newline
