-- Why an item is refused, and why reading ended, as texts.
-- Source: own.
use Rattle.std.specs.Prelude.{ℕ, List, [], ◌∷◌, decimal, codes}
use Rattle.std.specs.Fmt.{signed_decimal}
use Rattle.pickle_io.specs.Text.{◌⧺◌, hexadecimal}
use Rattle.pickle_doc.specs.declared.fault.TailFault.{TailFault}
use Rattle.pickle_doc.specs.declared.fault.TailFault.TheVariants as tail
use Rattle.pickle_ops.specs.declared.fault.FrontFault.TheVariants as at_front
use Rattle.pickle_machine.specs.declared.refusal.Refusal.{Refusal}
use Rattle.pickle_machine.specs.declared.refusal.Refusal.TheVariants as refusal
use Rattle.pickle_text.specs.Column.{newline}

-- ---- refusals

-- the words of a refusal, and the number that comes after them
unfoldable pub refusal_words : Refusal → List ℕ
refusal_words refusal.NoMark = codes "S1 no mark"
refusal_words refusal.Underflow = codes "S2 stack underflow"
refusal_words (refusal.NoMemoEntry key) = codes "S3 no memo entry "
refusal_words refusal.OddItems = codes "S4 odd number of items"
refusal_words (refusal.WrongKind id) = codes "S5 wrong kind #"
refusal_words (refusal.BadProtocol n) = codes "S6 bad protocol "
refusal_words (refusal.BadExtension n) = codes "S7 bad extension "
refusal_words (refusal.NotText id) = codes "S8 not a text #"
refusal_words (refusal.NotCallable id) = codes "S9 not callable #"
refusal_words (refusal.NotArguments id) = codes "S10 not arguments #"
refusal_words (refusal.NotKeywords id) = codes "S11 not keywords #"
refusal_words refusal.Memory = codes "M out of memory"

unfoldable pub refusal_number : Refusal → List ℕ
refusal_number refusal.NoMark = []
refusal_number refusal.Underflow = []
refusal_number (refusal.NoMemoEntry key) = decimal key
refusal_number refusal.OddItems = []
refusal_number (refusal.WrongKind id) = decimal id
refusal_number (refusal.BadProtocol n) = decimal n
refusal_number (refusal.BadExtension n) = signed_decimal n
refusal_number (refusal.NotText id) = decimal id
refusal_number (refusal.NotCallable id) = decimal id
refusal_number (refusal.NotArguments id) = decimal id
refusal_number (refusal.NotKeywords id) = decimal id
refusal_number refusal.Memory = []

unfoldable pub refusal_text : Refusal → List ℕ
refusal_text r = refusal_words r ⧺ refusal_number r

-- a refused item: its place, and why the machine refuses it
unfoldable pub item_text : ℕ → Refusal → List ℕ
item_text place r = decimal place ⧺ codes ": " ⧺ refusal_text r

unfoldable pub item_refused : ℕ → Refusal → List ℕ
item_refused place r = codes "item " ⧺ item_text place r

-- ---- faults

-- the words of a fault, and after them the byte that is no code
unfoldable pub tail_words : TailFault → List ℕ
tail_words (tail.Front at_front.Ended) = codes "F1 ended"
tail_words (tail.Front (at_front.UnknownOpcode byte)) = codes "F2 unknown opcode 0x"
tail_words (tail.Front at_front.Truncated) = codes "F3 truncated"
tail_words (tail.Front at_front.NegativeLength) = codes "F4 negative length"
tail_words (tail.Front at_front.BadArgument) = codes "F5 bad argument"
tail_words tail.FrameInFrame = codes "F6 frame in a frame"
tail_words tail.FramePastEnd = codes "F7 frame past the end"
tail_words tail.FrameCrossed = codes "F8 frame crossed"

unfoldable pub fault_byte : TailFault → List ℕ
fault_byte (tail.Front (at_front.UnknownOpcode byte)) = hexadecimal (byte ∷ [])
fault_byte (tail.Front at_front.Ended) = []
fault_byte (tail.Front at_front.Truncated) = []
fault_byte (tail.Front at_front.NegativeLength) = []
fault_byte (tail.Front at_front.BadArgument) = []
fault_byte tail.FrameInFrame = []
fault_byte tail.FramePastEnd = []
fault_byte tail.FrameCrossed = []

unfoldable pub fault_text : TailFault → List ℕ
fault_text f = tail_words f ⧺ fault_byte f

-- the fault of a tail at this offset
unfoldable pub fault_at : TailFault → ℕ → List ℕ
fault_at f offset = fault_text f ⧺ codes " at " ⧺ decimal offset

unfoldable pub fault_line : TailFault → ℕ → List ℕ
fault_line f offset = codes "fault: " ⧺ fault_at f offset ⧺ newline
