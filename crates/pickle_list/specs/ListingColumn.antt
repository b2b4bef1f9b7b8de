-- The code of an opcode, as a listing shows it.
use Rattle.std.specs.Prelude.{ℕ, ◌-◌, List, [], ◌∷◌, ◌++◌, codes, length, replicate, nat_lt, ◌&&◌, if◌then◌else◌}
use Rattle.hex.specs.Hex.{encode_lower}

-- a byte in two hexadecimal digits
abbrev pub hex_byte : ℕ → List ℕ
hex_byte byte = encode_lower (byte ∷ [])

-- a visible character, else its byte in hexadecimal
abbrev pub code_text : ℕ → List ℕ
code_text byte = if nat_lt 32 byte && nat_lt byte 127 then byte ∷ [] else codes "\\x" ++ hex_byte byte

-- a colon and a blank, the code at the left of four places, and two blanks
abbrev pub code_cells : ℕ → List ℕ
code_cells byte = codes ": " ++ (code_text byte ++ replicate (6 - length (code_text byte)) 32)
