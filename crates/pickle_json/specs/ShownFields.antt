-- The line that is printed for people, as a field.
-- Source: own.
use Rattle.std.specs.Prelude.{ℕ, List, [], codes, Option, Some, None}
use Rattle.json_lines.specs.Line.{Field, bytes_field}

-- bytes of ASCII, so that they are a text
unfoldable pub shown_field : List ℕ → List Field
shown_field text = bytes_field (codes "text") (codes "text_hex") text

-- nothing of a line that is too long
abbrev pub shown_fields : Option (List ℕ) → List Field
shown_fields None = []
shown_fields (Some text) = shown_field text
