-- The literals of containers, by what is said of the objects in them.
-- Source: the Python reference, "Displays" and "Parenthesized forms". A comma may stand behind the last item.
use Rattle.std.specs.Prelude.{ℕ, ◌==◌, if◌then◌else◌, List, [], ◌∷◌, length, codes}
use Rattle.pickle_io.specs.Text.{◌⧺◌}
use Rattle.pickle_io.specs.Device.{each}
use Rattle.pickle_ops.specs.declared.kind.Kind.{Kind}
use Rattle.pickle_ops.specs.declared.kind.Kind.TheVariants as kind
use Rattle.pickle_ops.specs.declared.object.Change.{Change}
use Rattle.pickle_ops.specs.declared.object.Change.TheVariants as change
use Rattle.pickle_calls.specs.Event.{part}

-- ---- parts

unfoldable pub next_part : (ℕ → List ℕ) → ℕ → List ℕ
next_part say id = codes ", " ⧺ say id

unfoldable pub then_part : (ℕ → List ℕ) → ℕ → List ℕ
then_part say id = say id ⧺ codes ", "

unfoldable pub some_parts : (ℕ → List ℕ) → ℕ → List ℕ → List ℕ
some_parts say id ids = say id ⧺ each (next_part say) ids

-- with commas between them
abbrev pub parts_text : (ℕ → List ℕ) → List ℕ → List ℕ
parts_text say [] = []
parts_text say (id ∷ ids) = some_parts say id ids

-- ---- what was put into a container

unfoldable pub pair_text : (ℕ → List ℕ) → ℕ → ℕ → List ℕ
pair_text say key value = say key ⧺ codes ": " ⧺ say value

-- no container with a state has a literal that says it
unfoldable pub change_text : (ℕ → List ℕ) → Change → List ℕ
change_text say (change.Append id) = say id
change_text say (change.SetItem key value) = pair_text say key value
change_text say (change.Add id) = say id
change_text say (change.Build id) = say id

unfoldable pub next_change : (ℕ → List ℕ) → Change → List ℕ
next_change say c = codes ", " ⧺ change_text say c

unfoldable pub some_changes : (ℕ → List ℕ) → Change → List Change → List ℕ
some_changes say c cs = change_text say c ⧺ each (next_change say) cs

-- with commas between them
abbrev pub changes_text : (ℕ → List ℕ) → List Change → List ℕ
changes_text say [] = []
changes_text say (c ∷ cs) = some_changes say c cs

-- ---- keys and values in turn

unfoldable pub then_pair : (ℕ → List ℕ) → ℕ → ℕ → List ℕ
then_pair say key value = pair_text say key value ⧺ codes ", "

abbrev pub pairs_text : (ℕ → List ℕ) → List ℕ → List ℕ
pairs_text say [] = []
pairs_text say (key ∷ []) = []
pairs_text say (key ∷ value ∷ rest) = then_pair say key value ⧺ pairs_text say rest

-- ---- containers

-- a tuple of one item needs a comma
abbrev pub tuple_end : ℕ → List ℕ
tuple_end n = if n == 1 then codes ",)" else codes ")"

unfoldable pub tuple_text : (ℕ → List ℕ) → List ℕ → List ℕ
tuple_text say parts = codes "(" ⧺ parts_text say parts ⧺ tuple_end (length parts)

unfoldable pub list_text : (ℕ → List ℕ) → List ℕ → List Change → List ℕ
list_text say parts changes = codes "[" ⧺ each (then_part say) parts ⧺ changes_text say changes ⧺ codes "]"

unfoldable pub dict_text : (ℕ → List ℕ) → List ℕ → List Change → List ℕ
dict_text say parts changes = codes "{" ⧺ pairs_text say parts ⧺ changes_text say changes ⧺ codes "}"

unfoldable pub some_set : (ℕ → List ℕ) → List Change → List ℕ
some_set say changes = codes "{" ⧺ changes_text say changes ⧺ codes "}"

-- the empty set has no display
unfoldable pub set_text : (ℕ → List ℕ) → List Change → List ℕ
set_text say changes = if length changes == 0 then codes "set()" else some_set say changes

unfoldable pub frozen_word : List ℕ
frozen_word = codes "frozenset({"

unfoldable pub some_frozen : (ℕ → List ℕ) → List ℕ → List ℕ
some_frozen say parts = frozen_word ⧺ parts_text say parts ⧺ codes "})"

unfoldable pub frozen_text : (ℕ → List ℕ) → List ℕ → List ℕ
frozen_text say parts = if length parts == 0 then codes "frozenset()" else some_frozen say parts

unfoldable pub view_word : List ℕ
view_word = codes "memoryview("

unfoldable pub view_end : List ℕ
view_end = codes ").toreadonly()"

-- a view that cannot be written to
unfoldable pub view_text : (ℕ → List ℕ) → ℕ → List ℕ
view_text say id = view_word ⧺ say id ⧺ view_end

-- the literal of an object of this kind with these parts, into which these changes put something
unfoldable pub held_text : (Kind → List ℕ) → (ℕ → List ℕ) → Kind → List ℕ → List Change → List ℕ
held_text value say kind.Tuple parts changes = tuple_text say parts
held_text value say kind.List parts changes = list_text say parts changes
held_text value say kind.Dict parts changes = dict_text say parts changes
held_text value say kind.Set parts changes = set_text say changes
held_text value say kind.FrozenSet parts changes = frozen_text say parts
held_text value say kind.ReadOnly parts changes = view_text say (part 0 parts)
held_text value say k parts changes = value k
