-- Texts in quotes.
-- Source: own; they undo how a listing quotes texts, and are Python's literals of bytes with the escapes named here. A byte that needs no escape may stand for itself.
use Rattle.std.specs.Prelude.{◌≡◌, ⊤, ℕ, ◌+◌, ◌*◌, ◌==◌, ◌||◌, if◌then◌else◌, Bool, List, [], ◌∷◌, ◌++◌, Option, Some, None, Result, Ok, Err}
use Rattle.hex.specs.Hex.{hex_digit_value}
use Rattle.opcode_assembler.specs.declared.fault.Reason.{Reason}
use Rattle.opcode_assembler.specs.declared.fault.Reason.TheVariants as why
use Rattle.opcode_assembler.specs.declared.fault.Fault.{Fault}
use Rattle.opcode_assembler.specs.declared.fault.Fault.TheVariants as fault
use Rattle.opcode_assembler.specs.declared.scan.Mode.{Mode}
use Rattle.opcode_assembler.specs.declared.scan.Mode.TheVariants as mode
use Rattle.opcode_assembler.specs.declared.scan.Step.{Step}
use Rattle.opcode_assembler.specs.declared.scan.Step.TheVariants as step
use Rattle.opcode_assembler.specs.Words.{trimmed}

-- what was read, and what is left behind it; or why nothing was
abbrev pub Read : Type 0
Read = Result (List ℕ × List ℕ) Reason

-- a digit, or else nothing that a text may have here
abbrev pub by_digit : Option ℕ → (ℕ → Step) → Step
by_digit None next = step.Wrong
by_digit (Some digit) next = next digit

-- what is behind a backslash: a backslash or a quote, `n`, `r` or `t`, or `x` and two hexadecimal digits
abbrev pub escape_of : ℕ → Step
escape_of byte =
    if byte == 92 || byte == 39 || byte == 34 then step.Byte byte
    else if byte == 120 then step.Goes mode.High
    else if byte == 110 then step.Byte 10
    else if byte == 114 then step.Byte 13
    else if byte == 116 then step.Byte 9
    else step.Wrong

-- what one byte more says: the quote that began the text ends it, a backslash begins an escape, and any other byte stands for itself
abbrev pub step_of : ℕ → Mode → ℕ → Step
step_of quote mode.Plain byte = if byte == quote then step.End else if byte == 92 then step.Goes mode.Escape else step.Byte byte
step_of quote mode.Escape byte = escape_of byte
step_of quote mode.High byte = by_digit (hex_digit_value byte) (λ high. step.Goes (mode.Low byte))
step_of quote (mode.Low first) byte = by_digit (hex_digit_value first) (λ high. by_digit (hex_digit_value byte) (λ low. step.Byte (16 * high + low)))

-- bytes in front of what was read
abbrev pub in_front : List ℕ → Read → Read
in_front bytes (Err r) = Err r
in_front bytes (Ok p) = Ok (bytes ++ p.0, p.1)

abbrev pub by_step : Step → List ℕ → (Mode → Read) → Read
by_step step.End rest next = Ok ([], rest)
by_step step.Wrong rest next = Err why.NoText
by_step (step.Goes m) rest next = next m
by_step (step.Byte byte) rest next = in_front (byte ∷ []) (next mode.Plain)

-- the text that goes on here, up to its quote
unfoldable pub scanned : ℕ → Mode → List ℕ → Read
scanned quote m [] = Err why.NoText
scanned quote m (byte ∷ rest) = by_step (step_of quote m byte) rest (λ n. scanned quote n rest)

abbrev pub is_quote : ℕ → Bool
is_quote byte = byte == 39 || byte == 34

-- a text in quotes of either kind
abbrev pub unquoted : List ℕ → Read
unquoted [] = Err why.NoText
unquoted (byte ∷ rest) = if is_quote byte then scanned byte mode.Plain rest else Err why.NoText

-- the `b` of Python's literals of bytes may be in front
abbrev pub unprefixed : List ℕ → List ℕ
unprefixed [] = []
unprefixed (byte ∷ rest) = if byte == 98 then rest else byte ∷ rest

abbrev pub text_first : List ℕ → Read
text_first text = unquoted (unprefixed (trimmed text))

-- what a byte more does: the bytes so far, and where the next byte stands, unless the text ended
abbrev pub Steps : Step → List ℕ → List ℕ → Result (Option Mode) Fault → Type 0
Steps step.End old new (Ok None) = new ≡ old
Steps step.End old new (Ok (Some m)) = ⊥
Steps step.Wrong old new (Ok at) = ⊥
Steps (step.Goes n) old new (Ok None) = ⊥
Steps (step.Goes n) old new (Ok (Some m)) = (m ≡ n) × (new ≡ old)
Steps (step.Byte byte) old new (Ok None) = ⊥
Steps (step.Byte byte) old new (Ok (Some m)) = (m ≡ mode.Plain) × (new ≡ old ++ byte ∷ [])
Steps step.Wrong old new (Err (fault.Wrong r)) = r ≡ why.NoText
Steps step.End old new (Err (fault.Wrong r)) = ⊥
Steps (step.Goes n) old new (Err (fault.Wrong r)) = ⊥
Steps (step.Byte byte) old new (Err (fault.Wrong r)) = ⊥
Steps s old new (Err fault.Memory) = ⊤
