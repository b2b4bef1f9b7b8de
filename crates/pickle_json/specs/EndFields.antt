-- What STOP left, and how the listing ended, as lines. The code of a refusal or a fault stands apart from its words.
-- Source: own.
use Rattle.std.specs.Prelude.{ℕ, ◌==◌, ◌&&◌, if◌then◌else◌, List, [], codes, Option, None, Some, Bool, true, false}
use Rattle.json.specs.Json.{string, boolean}
use Rattle.pickle_ops.specs.declared.fault.FrontFault.TheVariants as at_front
use Rattle.pickle_doc.specs.declared.fault.TailFault.{TailFault}
use Rattle.pickle_doc.specs.declared.fault.TailFault.TheVariants as tail
use Rattle.pickle_machine.specs.declared.refusal.Refusal.{Refusal}
use Rattle.pickle_machine.specs.declared.refusal.Refusal.TheVariants as refusal
use Rattle.json_lines.specs.Line.{Field, field, ◌⊕◌, whole, integer, line}

-- ---- what STOP left

abbrev pub left_fields : ℕ → ℕ → List Field
left_fields objects marks = field (codes "objects") (whole objects) ⊕ field (codes "marks") (whole marks)

unfoldable pub left_text : ℕ → ℕ → List ℕ
left_text objects marks = line (codes "left") (left_fields objects marks)

-- a line where STOP left something on the stack
unfoldable pub left_line : ℕ → ℕ → List ℕ
left_line objects marks = if objects == 0 && marks == 0 then [] else left_text objects marks

-- ---- refusals

unfoldable pub refusal_code : Refusal → List ℕ
refusal_code refusal.NoMark = codes "S1"
refusal_code refusal.Underflow = codes "S2"
refusal_code (refusal.NoMemoEntry key) = codes "S3"
refusal_code refusal.OddItems = codes "S4"
refusal_code (refusal.WrongKind id) = codes "S5"
refusal_code (refusal.BadProtocol n) = codes "S6"
refusal_code (refusal.BadExtension n) = codes "S7"
refusal_code (refusal.NotText id) = codes "S8"
refusal_code (refusal.NotCallable id) = codes "S9"
refusal_code (refusal.NotArguments id) = codes "S10"
refusal_code (refusal.NotKeywords id) = codes "S11"
refusal_code refusal.Memory = codes "M"

unfoldable pub refusal_words : Refusal → List ℕ
refusal_words refusal.NoMark = codes "no mark"
refusal_words refusal.Underflow = codes "stack underflow"
refusal_words (refusal.NoMemoEntry key) = codes "no memo entry"
refusal_words refusal.OddItems = codes "odd number of items"
refusal_words (refusal.WrongKind id) = codes "wrong kind"
refusal_words (refusal.BadProtocol n) = codes "bad protocol"
refusal_words (refusal.BadExtension n) = codes "bad extension"
refusal_words (refusal.NotText id) = codes "not a text"
refusal_words (refusal.NotCallable id) = codes "not callable"
refusal_words (refusal.NotArguments id) = codes "not arguments"
refusal_words (refusal.NotKeywords id) = codes "not keywords"
refusal_words refusal.Memory = codes "out of memory"

-- the key that the memo lacks, the object that is refused, or the number that is
unfoldable pub refusal_fields : Refusal → List Field
refusal_fields refusal.NoMark = []
refusal_fields refusal.Underflow = []
refusal_fields (refusal.NoMemoEntry key) = field (codes "memo") (whole key)
refusal_fields refusal.OddItems = []
refusal_fields (refusal.WrongKind id) = field (codes "object") (whole id)
refusal_fields (refusal.BadProtocol n) = field (codes "number") (whole n)
refusal_fields (refusal.BadExtension n) = field (codes "number") (integer n)
refusal_fields (refusal.NotText id) = field (codes "object") (whole id)
refusal_fields (refusal.NotCallable id) = field (codes "object") (whole id)
refusal_fields (refusal.NotArguments id) = field (codes "object") (whole id)
refusal_fields (refusal.NotKeywords id) = field (codes "object") (whole id)
refusal_fields refusal.Memory = []

-- ---- faults

unfoldable pub fault_code : TailFault → List ℕ
fault_code (tail.Front at_front.Ended) = codes "F1"
fault_code (tail.Front (at_front.UnknownOpcode byte)) = codes "F2"
fault_code (tail.Front at_front.Truncated) = codes "F3"
fault_code (tail.Front at_front.NegativeLength) = codes "F4"
fault_code (tail.Front at_front.BadArgument) = codes "F5"
fault_code tail.FrameInFrame = codes "F6"
fault_code tail.FramePastEnd = codes "F7"
fault_code tail.FrameCrossed = codes "F8"

unfoldable pub fault_words : TailFault → List ℕ
fault_words (tail.Front at_front.Ended) = codes "ended"
fault_words (tail.Front (at_front.UnknownOpcode byte)) = codes "unknown opcode"
fault_words (tail.Front at_front.Truncated) = codes "truncated"
fault_words (tail.Front at_front.NegativeLength) = codes "negative length"
fault_words (tail.Front at_front.BadArgument) = codes "bad argument"
fault_words tail.FrameInFrame = codes "frame in a frame"
fault_words tail.FramePastEnd = codes "frame past the end"
fault_words tail.FrameCrossed = codes "frame crossed"

-- the byte that is no opcode's code
unfoldable pub fault_fields : TailFault → List Field
fault_fields (tail.Front (at_front.UnknownOpcode byte)) = field (codes "byte") (whole byte)
fault_fields (tail.Front at_front.Ended) = []
fault_fields (tail.Front at_front.Truncated) = []
fault_fields (tail.Front at_front.NegativeLength) = []
fault_fields (tail.Front at_front.BadArgument) = []
fault_fields tail.FrameInFrame = []
fault_fields tail.FramePastEnd = []
fault_fields tail.FrameCrossed = []

-- the fault is one of a frame: where FRAME is an opcode like others there is none
abbrev pub is_of_frame : TailFault → Bool
is_of_frame (tail.Front f) = false
is_of_frame tail.FrameInFrame = true
is_of_frame tail.FramePastEnd = true
is_of_frame tail.FrameCrossed = true

-- ---- the last line

-- how reading ended
unfoldable pub how_fields : List ℕ → List Field
how_fields how = field (codes "how") (string how)

-- the highest protocol among the opcodes, if there are any
abbrev pub protocol_fields : Option ℕ → List Field
protocol_fields None = []
protocol_fields (Some protocol) = field (codes "protocol") (whole protocol)

-- a code and its words
unfoldable pub coded_fields : List ℕ → List ℕ → List Field
coded_fields code words = field (codes "code") (string code) ⊕ field (codes "words") (string words)

-- after STOP, behind which so many bytes are kept
abbrev pub stopped_fields : ℕ → Option ℕ → List Field
stopped_fields kept highest = how_fields (codes "stopped") ⊕ field (codes "kept") (whole kept) ⊕ protocol_fields highest

unfoldable pub stopped_end : ℕ → Option ℕ → List ℕ
stopped_end kept highest = line (codes "end") (stopped_fields kept highest)

-- after an item that is refused
abbrev pub refused_fields : Refusal → Option ℕ → List Field
refused_fields r highest = how_fields (codes "refused") ⊕ coded_fields (refusal_code r) (refusal_words r) ⊕ refusal_fields r ⊕ protocol_fields highest

unfoldable pub refused_end : Refusal → Option ℕ → List ℕ
refused_end r highest = line (codes "end") (refused_fields r highest)

-- where the bytes from this offset on are no further item
unfoldable pub told_fields : TailFault → List Field
told_fields f = how_fields (codes "fault") ⊕ coded_fields (fault_code f) (fault_words f) ⊕ fault_fields f

unfoldable pub place_fields : TailFault → ℕ → List Field
place_fields f offset = field (codes "offset") (whole offset) ⊕ field (codes "of_frame") (boolean (is_of_frame f))

abbrev pub tail_fields : TailFault → ℕ → Option ℕ → List Field
tail_fields f offset highest = told_fields f ⊕ place_fields f offset ⊕ protocol_fields highest

unfoldable pub fault_end : TailFault → ℕ → Option ℕ → List ℕ
fault_end f offset highest = line (codes "end") (tail_fields f offset highest)
