-- A text in UTF-8, read byte by byte: what is known between two bytes, and which characters are whole.
-- Source: the characters that bytes spell are std's; a half of a surrogate pair is read as any other character of three bytes.
use Rattle.std.specs.Prelude.{◌≡◌, ℕ, ◌+◌, ◌-◌, ◌*◌, ◌^◌, ◌<◌, ◌≤◌, ◌==◌, if◌then◌else◌, List, [], ◌∷◌, Option, Some, None, ⊤}
use Rattle.std.specs.Str.{chars, chars_after, continuation_len, lead_bits}
use Rattle.python_literals.specs.declared.signs.Pending.{Pending}

-- the characters, where this is known of the bytes before
abbrev pub chars_behind : Option Pending → List ℕ → List ℕ
chars_behind None bytes = chars bytes
chars_behind (Some p) bytes = chars_after p.left p.number bytes

-- the one that is whole before the next byte, if there is one
abbrev pub finished : Option Pending → List ℕ
finished None = []
finished (Some p) = if p.left == 0 then p.number ∷ [] else []

-- what a byte begins
abbrev pub begun : ℕ → Pending
begun b = record { left = continuation_len b; number = lead_bits b }

abbrev pub goes_on : Pending → ℕ → Pending
goes_on p b = record { left = p.left - 1; number = p.number * 64 + (b - 128) }

abbrev pub pending_after : Option Pending → ℕ → Pending
pending_after None b = begun b
pending_after (Some p) b = if p.left == 0 then begun b else goes_on p b

-- a number of 32 bits holds it, and what the bytes that are to come make of it
pub record HasRoom (p : Pending) : Type 0 where
  pub few : p.left ≤ 3
  pub three : 3 ≤ p.left → p.number < 2 ^ 8
  pub two : 2 ≤ p.left → p.number < 2 ^ 15
  pub one : 1 ≤ p.left → p.number < 2 ^ 22
  pub none : p.number < 2 ^ 29

abbrev pub AllHaveRoom : Option Pending → Type 0
AllHaveRoom None = ⊤
AllHaveRoom (Some p) = HasRoom p
