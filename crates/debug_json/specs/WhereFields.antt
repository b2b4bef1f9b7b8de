-- The line of where a session is.
-- Source: own.
use Rattle.std.specs.Prelude.{ℕ, List, length, codes}
use Rattle.json_lines.specs.Line.{Field, field, ◌⊕◌, whole, numbers_json, line}
use Rattle.pickle_doc.specs.Place.{offset_of, end_of}
use Rattle.pickle_machine.specs.State.{State, stack_size}
use Rattle.pickle_session.specs.Session.{Session, len_of}
use Rattle.debug_json.specs.RefusedFields.{end_field, place_field}

-- a place, how many items there are, and where the place begins
unfoldable pub cursor_fields : ℕ → ℕ → ℕ → List Field
cursor_fields k n offset = place_field k ⊕ field (codes "length") (whole n) ⊕ field (codes "offset") (whole offset)

-- how many objects there are, how many are on the stack, how many marks are open, and how many entries the memo has
unfoldable pub count_fields : State → List Field
count_fields t =
    field (codes "objects") (whole (length t.heap)) ⊕ field (codes "stack_size") (whole (stack_size t)) ⊕ field (codes "marks") (whole (length t.marked))
    ⊕ field (codes "memo_size") (whole (length t.memo))

-- how many buffers were counted, and the results, the latest last
unfoldable pub reached_fields : State → List Field
reached_fields t = field (codes "buffers") (whole t.buffers) ⊕ field (codes "results") (numbers_json t.results)

abbrev pub where_fields : Session → State → List Field
where_fields s t =
    cursor_fields s.cursor (len_of s.document) (offset_of s.document s.cursor) ⊕ count_fields t ⊕ reached_fields t ⊕ end_field (end_of s.document)

unfoldable pub where_line : Session → State → List ℕ
where_line s t = line (codes "where") (where_fields s t)
