-- Texts.
-- Source: how texts are quoted is this project's own rule.
use Rattle.std.specs.Prelude.{ℕ, ◌++◌, ◌==◌, ◌&&◌, nat_le, if◌then◌else◌, List, [], ◌∷◌, codes}
use Rattle.std.specs.List.{flat_map}
use Rattle.hex.specs.Hex.{encode_lower}

-- A text and then another. It stays closed in proofs, so that a text is known by its parts.
infixl 10 ◌⧺◌
unfoldable pub ◌⧺◌ : List ℕ → List ℕ → List ℕ
a ⧺ b = a ++ b

-- ---- pieces

-- bytes in hexadecimal, two lower case digits each
unfoldable pub hexadecimal : List ℕ → List ℕ
hexadecimal bytes = encode_lower bytes

-- a byte that would not stand for itself: its two digits
unfoldable pub escaped : ℕ → List ℕ
escaped byte = codes "\\x" ⧺ hexadecimal (byte ∷ [])

-- a byte between quotes: a backslash and a quote are marked by a backslash, a byte that is no visible character or
-- blank is escaped, and any other stands for itself
unfoldable pub quoted_byte : ℕ → List ℕ
quoted_byte byte =
    if byte == 92 then codes "\\\\"
    else if byte == 39 then codes "\\'"
    else if nat_le 32 byte && nat_le byte 126 then byte ∷ []
    else escaped byte

unfoldable pub quoted_bytes : List ℕ → List ℕ
quoted_bytes text = flat_map quoted_byte text

-- a text in quotes
unfoldable pub quoted : List ℕ → List ℕ
quoted text = codes "'" ⧺ quoted_bytes text ⧺ codes "'"
