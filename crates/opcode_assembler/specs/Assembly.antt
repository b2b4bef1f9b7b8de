-- The lines of a text, and the bytes that they give.
-- Source: own. A line is read as a listing prints it (`pickle_list/specs/Line.antt`): offsets, codes and notes are passed over.
use Rattle.std.specs.Prelude.{◌≡◌, ◌≢◌, ◌⊎◌, ⊤, ℕ, ◌+◌, ◌==◌, ◌||◌, if◌then◌else◌, Bool, List, [], ◌∷◌, ◌++◌, codes, is_some, Result, Ok, Err}
use Rattle.std.specs.Option.{option_map_or}
use Rattle.std.specs.List.{slice_split}
use Rattle.pickle_ops.specs.declared.opcode.Opcode.{Opcode}
use Rattle.pickle_ops.specs.declared.fault.OpFault.{OpFault}
use Rattle.pickle_ops.specs.declared.fault.OpFault.TheVariants as op_fault
use Rattle.pickle_ops.specs.Spelling.{Operation, IsSpelled, FailsAsArg, spelling}
use Rattle.pickle_ops.specs.Table.{opcode_named}
use Rattle.opcode_assembler.specs.declared.fault.Reason.{Reason}
use Rattle.opcode_assembler.specs.declared.fault.Reason.TheVariants as why
use Rattle.opcode_assembler.specs.declared.fault.Refusal.{Refusal}
use Rattle.opcode_assembler.specs.declared.fault.Refusal.TheVariants as refusal
use Rattle.opcode_assembler.specs.declared.fault.Fault.{Fault}
use Rattle.opcode_assembler.specs.declared.fault.Fault.TheVariants as fault
use Rattle.opcode_assembler.specs.Words.{trimmed, word, after_word, behind, is_over, after_note, is_place, unnumbered}
use Rattle.opcode_assembler.specs.Quotes.{Read}
use Rattle.opcode_assembler.specs.Numbers.{hex_first}
use Rattle.opcode_assembler.specs.Arguments.{argument_first}

-- ---- what a line says

-- nothing; an operation; bytes as they are
pub data Piece : Type 0 where
  Nothing : Piece
  OneOpcode : (op : Operation) → Piece
  Raw : (bytes : List ℕ) → Piece

abbrev pub piece_bytes : Piece → List ℕ
piece_bytes Nothing = []
piece_bytes (OneOpcode op) = spelling op
piece_bytes (Raw bytes) = bytes

-- the bytes of an argument have to be one
abbrev pub IsGood : Piece → Type 0
IsGood Nothing = ⊤
IsGood (OneOpcode op) = IsSpelled op
IsGood (Raw bytes) = ⊤

-- what was read, if nothing but a note and a comment follows
abbrev pub alone : (List ℕ → Piece) → Read → Result Piece Reason
alone make (Err r) = Err r
alone make (Ok p) = if is_over (after_note p.1) then Ok (make p.0) else Err why.ExtraText

abbrev pub operation : Opcode → List ℕ → Piece
operation o bytes = OneOpcode (record { opcode = o; arg = bytes })

-- the name of an opcode, and its argument
abbrev pub opcode_says : List ℕ → Result Piece Reason
opcode_says text = option_map_or (λ (o : Opcode). alone (operation o) (argument_first o (after_word text))) (opcode_named (word text)) (Err why.UnknownName)

-- behind an offset the code may stand before the name
abbrev pub uncoded : List ℕ → List ℕ
uncoded text = if is_some (opcode_named (word text)) then text else after_word text

abbrev pub unplaced : List ℕ → List ℕ
unplaced text = if is_place (word text) then uncoded (after_word text) else text

-- what a listing says of the whole pickle, and of what STOP leaves on the stack
abbrev pub is_remark : List ℕ → Bool
is_remark text = is_some (behind (codes "left: ") text) || is_some (behind (codes "highest protocol among opcodes = ") text)

-- what it says where it does not show all bytes
abbrev pub is_gap : List ℕ → Bool
is_gap text = is_some (behind (codes "kept: ") text) || is_some (behind (codes "fault: ") text) || is_some (behind (codes "refused: ") text)

-- any other line is an opcode, or bytes as they are behind `raw:`
abbrev pub bytes_say : List ℕ → Result Piece Reason
bytes_say text = option_map_or (λ (rest : List ℕ). alone Raw (hex_first rest)) (behind (codes "raw:") text) (opcode_says (unplaced text))

-- nothing or a comment, with an offset in front or without; or a remark
abbrev pub says_nothing : List ℕ → Bool
says_nothing text = is_over (unnumbered text) || is_remark text

abbrev pub text_says : List ℕ → Result Piece Reason
text_says text =
    if says_nothing text then Ok Nothing
    else if is_gap text then Err why.LeftOut
    else bytes_say text

unfoldable pub line_says : List ℕ → Result Piece Reason
line_says line = text_says (trimmed line)

-- ---- the bytes of a line

-- bytes that are no argument of the opcode
pub record HasBadArgument (op : Operation) : Type 0 where
  pub fault : OpFault
  pub fails : FailsAsArg op.opcode op.arg fault
  pub is_fault : fault ≢ op_fault.Memory

-- what was said is no good, for this reason
abbrev pub IsWrongPiece : Piece → Reason → Type 0
IsWrongPiece (OneOpcode op) r = (r ≡ why.BadArgument) × HasBadArgument op
IsWrongPiece Nothing r = ⊥
IsWrongPiece (Raw bytes) r = ⊥

-- what was said has these bytes
abbrev pub HasBytes : Result Piece Reason → List ℕ → Type 0
HasBytes (Ok piece) bytes = IsGood piece × (bytes ≡ piece_bytes piece)
HasBytes (Err r) bytes = ⊥

-- or it has none, for this reason
abbrev pub HasFault : Result Piece Reason → Reason → Type 0
HasFault (Ok piece) r = IsWrongPiece piece r
HasFault (Err why) r = r ≡ why

-- a line gives these bytes; or it gives none, for this reason
abbrev pub IsLine : List ℕ → List ℕ → Type 0
IsLine line bytes = HasBytes (line_says line) bytes

abbrev pub IsWrong : List ℕ → Reason → Type 0
IsWrong line r = HasFault (line_says line) r

-- what becomes of the bytes so far
abbrev pub Adds : Result Piece Reason → List ℕ → List ℕ → Result (Unit {0}) Fault → Type 0
Adds says old new (Ok done) = (bytes : List ℕ) × HasBytes says bytes × (new ≡ old ++ bytes)
Adds says old new (Err (fault.Wrong r)) = HasFault says r
Adds says old new (Err fault.Memory) = ⊤

-- what becomes of the bytes so far by the line of this number
abbrev pub AddsLine : ℕ → List ℕ → List ℕ → List ℕ → Result (Unit {0}) Refusal → Type 0
AddsLine number line old new (Ok done) = (bytes : List ℕ) × IsLine line bytes × (new ≡ old ++ bytes)
AddsLine number line old new (Err (refusal.Line m r)) = (m ≡ number) × IsWrong line r
AddsLine number line old new (Err refusal.Memory) = ⊤

-- ---- the bytes of a text

-- lines give these bytes, one after another
abbrev pub AreLines : List (List ℕ) → List ℕ → Type 0
AreLines [] bytes = bytes ≡ []
AreLines (line ∷ lines) bytes = (front rest : List ℕ) × IsLine line front × AreLines lines rest × (bytes ≡ front ++ rest)

-- the first line that gives none has this number, the lines being numbered from n on
abbrev pub AreWrong : ℕ → List (List ℕ) → ℕ → Reason → Type 0
AreWrong n [] m r = ⊥
AreWrong n (line ∷ lines) m r = ((m ≡ n) × IsWrong line r) ⊎ ((front : List ℕ) × IsLine line front × AreWrong (n + 1) lines m r)

abbrev pub is_newline : ℕ → Bool
is_newline byte = byte == 10

-- a text is assembled to these bytes
abbrev pub Assembles : List ℕ → List ℕ → Type 0
Assembles text bytes = AreLines (slice_split is_newline text) bytes

-- line m of a text, from 1, is the first that is none of an assembler
abbrev pub IsRefused : List ℕ → ℕ → Reason → Type 0
IsRefused text m r = AreWrong 1 (slice_split is_newline text) m r

abbrev pub Refuses : List ℕ → Refusal → Type 0
Refuses text (refusal.Line m r) = IsRefused text m r
Refuses text refusal.Memory = ⊤
