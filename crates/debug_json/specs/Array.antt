-- Objects as values, and arrays of values.
-- Source: the grammar of RFC 8259, sections 4 and 5.
use Rattle.std.specs.Prelude.{ℕ, zero, suc, ◌+◌, List, [], ◌∷◌, ◌++◌, length, take, drop, map, codes, slice_get, Option}
use Rattle.std.specs.Option.{option_map_or, option_to_list}
use Rattle.json.specs.Json.{Json, array}
use Rattle.json.specs.Value.{items_of}
use Rattle.json_lines.specs.Json.{value_text}
use Rattle.json_lines.specs.Line.{Field, line_object}
use Rattle.pickle_io.specs.Text.{◌⧺◌}

-- an object with a kind and further fields. It stays closed in proofs
unfoldable pub object_json : List ℕ → List Field → Json
object_json kind fs = line_object kind fs

-- what is said of each of some things, by its place among them
abbrev pub numbered : {X : Type 0} → (ℕ → X → Json) → List X → List Json
numbered json [] = []
numbered json (x ∷ xs) = json 0 x ∷ numbered (λ i. json (suc i)) xs

unfoldable pub array_json : {X : Type 0} → (ℕ → X → Json) → List X → Json
array_json json xs = array (items_of (numbered json xs))

-- the values of the places from a on and before b, each by its place among all
abbrev pub between : {X : Type 0} → ℕ → ℕ → List X → List X
between a b xs = drop a (take b xs)

unfoldable pub range_json : {X : Type 0} → (ℕ → X → Json) → ℕ → ℕ → List X → Json
range_json json a b xs = array_json (λ i. json (a + i)) (between a b xs)

-- the values that are found below n, by rising number
abbrev pub picked : {X : Type 0} → (ℕ → Option X) → ℕ → List X
picked find zero = []
picked find (suc n) = picked find n ++ option_to_list (find n)

unfoldable pub picked_json : {X : Type 0} → (X → Json) → (ℕ → Option X) → ℕ → Json
picked_json json find n = array (items_of (map json (picked find n)))

-- ---- how an array is put together

-- a comma before each value but the first
unfoldable pub lead : ℕ → List ℕ
lead zero = []
lead (suc i) = codes ","

-- the value at a place, where there is one
unfoldable pub nth_text : {X : Type 0} → (ℕ → X → Json) → List X → ℕ → List ℕ
nth_text json xs i = option_map_or (λ x. lead i ⧺ value_text (json i x)) (slice_get xs i) []

-- the value at a place, where there is one, as the one of an array that has so many before it
unfoldable pub placed_text : {X : Type 0} → (ℕ → X → Json) → List X → ℕ → ℕ → List ℕ
placed_text json xs i k = option_map_or (λ x. lead i ⧺ value_text (json k x)) (slice_get xs k) []

-- the value at a place of a range that begins at a
abbrev pub range_text : {X : Type 0} → (ℕ → X → Json) → List X → ℕ → ℕ → List ℕ
range_text json xs a i = placed_text json xs i (a + i)

-- a value behind so many others, if it was found
unfoldable pub found_text : {X : Type 0} → (X → Json) → ℕ → Option X → List ℕ
found_text json count found = option_map_or (λ x. lead count ⧺ value_text (json x)) found []

-- the value of a number behind those of lower numbers
abbrev pub picked_text : {X : Type 0} → (X → Json) → (ℕ → Option X) → ℕ → List ℕ
picked_text json find k = found_text json (length (picked find k)) (find k)
