-- The lines of what is told in JSON alone.
-- Source: own. Items and objects of a range are those of the lines of all.
use Rattle.std.specs.Prelude.{ℕ, List, codes, if◌then◌else◌, Option, Some, None}
use Rattle.json_lines.specs.Line.{Field, field, whole, line}
use Rattle.pickle_ops.specs.Object.{Object}
use Rattle.pickle_doc.specs.Place.{ops_of}
use Rattle.pickle_session.specs.Session.{Session, len_of, has_break}
use Rattle.debug_json.specs.Array.{range_json, picked_json}
use Rattle.debug_json.specs.ShownFields.{heap_json}
use Rattle.debug_json.specs.ItemsFields.{item_json}

-- ---- breakpoints

-- a place, where its item has a breakpoint
abbrev pub break_at : Session → ℕ → Option ℕ
break_at s k = if has_break s k then Some k else None

unfoldable pub breaks_fields : Session → List Field
breaks_fields s = field (codes "places") (picked_json whole (break_at s) (len_of s.document))

unfoldable pub breaks_line : Session → List ℕ
breaks_line s = line (codes "breaks") (breaks_fields s)

-- ---- ranges: from a on, and before b

unfoldable pub some_items_fields : Session → ℕ → ℕ → List Field
some_items_fields s a b = field (codes "items") (range_json (item_json s) a b (ops_of s.document))

unfoldable pub some_items_line : Session → ℕ → ℕ → List ℕ
some_items_line s a b = line (codes "items") (some_items_fields s a b)

unfoldable pub some_heap_fields : List Object → ℕ → ℕ → List Field
some_heap_fields heap a b = field (codes "objects") (range_json heap_json a b heap)

unfoldable pub some_heap_line : List Object → ℕ → ℕ → List ℕ
some_heap_line heap a b = line (codes "objects") (some_heap_fields heap a b)
