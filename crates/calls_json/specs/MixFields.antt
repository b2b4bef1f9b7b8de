-- What loaders may take that mix frames, as lines of JSON. Each has the line for people, which is cited here by its own definition.
-- Source: own.
use Rattle.std.specs.Prelude.{ℕ, List, codes}
use Rattle.json.specs.Json.{string}
use Rattle.json_lines.specs.Line.{Field, field, ◌⊕◌, whole, line}
use Rattle.pickle_ops.specs.Spelling.{Operation}
use Rattle.pickle_ops.specs.Table.{name_of}
use Rattle.line_buffer.specs.Line.{line_text}
use Rattle.mixes_text.specs.MixText.{MixWords, above_line as above, taken_line as taken, below_line as below, many_line as many}
use Rattle.pickle_json.specs.ShownFields.{shown_fields}

-- above the opcodes
unfoldable pub above_line : List ℕ
above_line = line (codes "mixes") (shown_fields (line_text above))

-- an opcode at an offset
abbrev pub taken_fields : ℕ → Operation → List Field
taken_fields offset o = field (codes "offset") (whole offset) ⊕ field (codes "opcode") (string (name_of o.opcode)) ⊕ shown_fields (line_text (taken offset o))

unfoldable pub taken_line : ℕ → Operation → List ℕ
taken_line offset o = line (codes "taken") (taken_fields offset o)

-- below so many opcodes
abbrev pub below_fields : ℕ → List Field
below_fields count = field (codes "count") (whole count) ⊕ shown_fields (line_text (below count))

unfoldable pub below_line : ℕ → List ℕ
below_line count = line (codes "opcodes") (below_fields count)

-- too many ways
unfoldable pub many_line : List ℕ
many_line = line (codes "too_many_ways") (shown_fields (line_text many))

abbrev pub mixes_for_programs : MixWords
mixes_for_programs = record { above = above_line; taken = taken_line; below = below_line; too_many = many_line }
