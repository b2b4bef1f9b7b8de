-- How deep tuples stand within one another, and the line that says that one is nested too deep to be hashed.
-- Source: Objects/tupleobject.c (CPython 3.8 to 3.13), `tuplehash`: a tuple asks each of its items for its hash, by a call within the call, and
-- keeps no hash. A key of a dictionary and a member of a set are hashed while they are loaded.
use Rattle.std.specs.Prelude.{ℕ, zero, suc, nat_lt, max, if◌then◌else◌, Bool, true, false, List, [], ◌∷◌, ◌++◌, fold, get_or, length, slice_get, codes, Option, Some, None}
use Rattle.std.specs.Option.{option_map_or}
use Rattle.pickle_io.specs.Text.{◌⧺◌}
use Rattle.pickle_ops.specs.declared.kind.Kind.{Kind}
use Rattle.pickle_ops.specs.declared.kind.Kind.TheVariants as kind
use Rattle.pickle_ops.specs.declared.class.Class.{Class}
use Rattle.pickle_ops.specs.declared.class.Class.TheVariants as class
use Rattle.pickle_ops.specs.Object.{Object}
use Rattle.pickle_text.specs.Words.{id_text}
use Rattle.pickle_text.specs.Column.{newline}
use Rattle.pickle_further.specs.Leads.{first_of, warning_words, warning_line}

abbrev pub is_tuple : Kind → Bool
is_tuple kind.Tuple = true
is_tuple _ = false

abbrev pub are_tuples : Class → Bool
are_tuples class.Tuple = true
are_tuples _ = false

-- the greatest depth of these objects, where this is that of each of the first ones
abbrev pub deepest : List ℕ → List ℕ → ℕ
deepest depths ids = fold (λ (most id : ℕ). max most (get_or depths id 0)) 0 ids

-- a tuple is one deeper than what it holds, and nothing else is deep
abbrev pub depth_by : List ℕ → Kind → List ℕ → ℕ
depth_by depths k parts = if is_tuple k then suc (deepest depths parts) else 0

unfoldable pub depth_at : List ℕ → List Object → ℕ → ℕ
depth_at depths heap id = option_map_or (λ (o : Object). depth_by depths o.kind o.parts) (slice_get heap id) 0

-- of the first n objects: what a tuple holds was there before it
unfoldable pub depths : List Object → ℕ → List ℕ
depths heap zero = []
depths heap (suc n) = depths heap n ++ depth_at (depths heap n) heap n ∷ []

abbrev pub most_nested : ℕ
most_nested = 100

abbrev pub is_deep : List Object → ℕ → Bool
is_deep heap id = nat_lt most_nested (depth_at (depths heap id) heap id)

-- the first that is nested deeper
abbrev pub first_deep : List Object → Option ℕ
first_deep heap = first_of (is_deep heap) (length heap)

-- ---- the line

unfoldable pub deep_words : List ℕ
deep_words = codes " is a tuple nested deeper than 100"

unfoldable pub deep_line : ℕ → List ℕ
deep_line id = warning_words ⧺ id_text id ⧺ deep_words ⧺ newline

abbrev pub deep_text : Option ℕ → List ℕ
deep_text None = []
deep_text (Some id) = deep_line id

-- of an import that leads to the unpickler, or else of such a tuple
abbrev pub warnings_text : Option ℕ → Option ℕ → List ℕ
warnings_text (Some id) deep = warning_line id
warnings_text None deep = deep_text deep
