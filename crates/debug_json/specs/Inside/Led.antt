-- How the entries of a memo are written, one after another. These are no definitions of the line.
use Rattle.std.specs.Prelude.{ℕ, Bool, true, false, List, [], ◌∷◌, codes}
use Rattle.json_lines.specs.Json.{value_text}
use Rattle.pickle_io.specs.Text.{◌⧺◌}
use Rattle.debug_json.specs.ShownFields.{entry_value}

-- a comma, unless nothing was written yet
unfoldable pub comma : Bool → List ℕ
comma true = []
comma false = codes ","

-- entries behind what was written
unfoldable pub led : Bool → List (ℕ × ℕ) → List ℕ
led first [] = []
led first (e ∷ es) = comma first ⧺ value_text (entry_value e) ⧺ led false es

-- whether nothing is written after them
abbrev pub still : Bool → List (ℕ × ℕ) → Bool
still first [] = first
still first (e ∷ es) = false
