-- The line of the items of a session's document.
-- Source: own. An opcode and its argument have the fields that they have in a listing.
use Rattle.std.specs.Prelude.{ℕ, List, codes, Bool, ◌==◌}
use Rattle.json.specs.Json.{Json, boolean}
use Rattle.json_lines.specs.Line.{Field, field, ◌⊕◌, line}
use Rattle.pickle_ops.specs.Spelling.{Operation}
use Rattle.pickle_doc.specs.Place.{ops_of, offset_of}
use Rattle.pickle_session.specs.Session.{Session, has_break}
use Rattle.pickle_json.specs.ItemFields.{head_fields, arg_fields}
use Rattle.debug_json.specs.Array.{object_json, array_json}
use Rattle.debug_json.specs.RefusedFields.{place_field}

-- whether the cursor is at an item, and whether the item has a breakpoint
unfoldable pub sign_fields : Bool → Bool → List Field
sign_fields at_cursor breaks = field (codes "cursor") (boolean at_cursor) ⊕ field (codes "breakpoint") (boolean breaks)

-- an item, by its place
abbrev pub item_fields : Session → ℕ → Operation → List Field
item_fields s k o = place_field k ⊕ head_fields o (offset_of s.document k) ⊕ arg_fields o ⊕ sign_fields (k == s.cursor) (has_break s k)

unfoldable pub item_json : Session → ℕ → Operation → Json
item_json s k o = object_json (codes "opcode") (item_fields s k o)

unfoldable pub items_fields : Session → List Field
items_fields s = field (codes "items") (array_json (item_json s) (ops_of s.document))

unfoldable pub items_line : Session → List ℕ
items_line s = line (codes "items") (items_fields s)
