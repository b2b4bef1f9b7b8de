-- A line of a text, as far as a buffer of fixed size shows it.
-- Source: own.
use Rattle.std.specs.Prelude.{ℕ, ◌-◌, nat_le, if◌then◌else◌, List, length, take, Option, Some, None}
use Rattle.line_buffer.specs.declared.buffer.LineBuffer.{LineBuffer}

-- a line without its newline, if it has no more than 4,096 bytes with it
unfoldable pub line_text : List ℕ → Option (List ℕ)
line_text line = if nat_le (length line) 4096 then Some (take (length line - 1) line) else None

-- what a buffer holds
abbrev pub held_by : LineBuffer → List ℕ
held_by b = b.bytes.items

-- how often it had no room
abbrev pub failures_of : LineBuffer → ℕ
failures_of b = b.failures
