-- Where a session is, and the items of its document.
-- Source: own.
use Rattle.std.specs.Prelude.{ℕ, List, [], ◌∷◌, codes, decimal, Bool, ◌==◌, if◌then◌else◌, Option, None, Some}
use Rattle.std.specs.Option.{option_map_or}
use Rattle.pickle_ops.specs.Spelling.{Operation}
use Rattle.pickle_ops.specs.Table.{name_of}
use Rattle.pickle_io.specs.Text.{◌⧺◌}
use Rattle.pickle_ops.specs.Text.{arg_text}
use Rattle.pickle_io.specs.Device.{each, each_below}
use Rattle.pickle_doc.specs.declared.fault.End.{End}
use Rattle.pickle_doc.specs.Place.{item_at, offset_of, end_of}
use Rattle.pickle_machine.specs.State.{State}
use Rattle.pickle_session.specs.Session.{Session, len_of, has_break}
use Rattle.pickle_text.specs.Words.{id_text}
use Rattle.object_texts.specs.ObjectText.{next_text}
use Rattle.pickle_text.specs.Column.{right_aligned, newline}
use Rattle.pickle_script.specs.FaultText.{end_text}

-- ---- where the cursor is: `at K of N, offset O, buffers B, result R, end E`

-- a place, and how many items there are
unfoldable pub cursor_text : ℕ → ℕ → List ℕ
cursor_text k n = codes "at " ⧺ decimal k ⧺ codes " of " ⧺ decimal n

unfoldable pub offset_text : ℕ → List ℕ
offset_text offset = codes ", offset " ⧺ decimal offset

-- objects by their numbers, with blanks between them
unfoldable pub some_results : ℕ → List ℕ → List ℕ
some_results id ids = id_text id ⧺ each next_text ids

-- the results, the latest last, or that there is none
abbrev pub results_text : List ℕ → List ℕ
results_text [] = codes "none"
results_text (id ∷ ids) = some_results id ids

-- what the machine has counted, and its results
unfoldable pub reached_text : State → List ℕ
reached_text t = codes ", buffers " ⧺ decimal t.buffers ⧺ codes ", result " ⧺ results_text t.results

unfoldable pub ending_text : End → List ℕ
ending_text e = codes ", end " ⧺ end_text e ⧺ newline

-- of a session whose machine has this state
unfoldable pub where_text : Session → State → List ℕ
where_text s t =
    cursor_text s.cursor (len_of s.document) ⧺ offset_text (offset_of s.document s.cursor) ⧺ reached_text t ⧺ ending_text (end_of s.document)

-- ---- items

-- a sign where something holds, else a blank
abbrev pub sign_if : ℕ → Bool → ℕ
sign_if sign holds = if holds then sign else 32

-- `>` at the cursor, `*` with a breakpoint
abbrev pub signs : Bool → Bool → List ℕ
signs at_cursor breaks = sign_if 62 at_cursor ∷ sign_if 42 breaks ∷ []

-- a name, and after a blank the text of the argument where there is one
abbrev pub behind_name : List ℕ → Option (List ℕ) → List ℕ
behind_name name None = name
behind_name name (Some arg) = name ⧺ codes " " ⧺ arg

unfoldable pub op_text : Operation → List ℕ
op_text o = behind_name (name_of o.opcode) (arg_text o)

-- a place and an offset, each at the right of five places
unfoldable pub place_columns : ℕ → ℕ → List ℕ
place_columns k offset = right_aligned 5 (decimal k) ⧺ codes " " ⧺ right_aligned 5 (decimal offset)

-- the line of an item at a place
unfoldable pub session_line : Session → ℕ → Operation → List ℕ
session_line s k o =
    signs (k == s.cursor) (has_break s k) ⧺ place_columns k (offset_of s.document k) ⧺ codes ": " ⧺ op_text o ⧺ newline

-- where there is an item
unfoldable pub session_line_at : Session → ℕ → List ℕ
session_line_at s k = option_map_or (session_line s k) (item_at s.document k) []

-- the lines of all items
unfoldable pub items_text : Session → List ℕ
items_text s = each_below (session_line_at s) (len_of s.document)
