-- The text of an object: its number, its kind with what the opcode gave it, its parts, and what was done to it since.
-- Source: own. The kinds are named after what `pickle` calls them: reduce, new object, persistent object, extension.
use Rattle.std.specs.Prelude.{ℕ, suc, List, [], ◌∷◌, codes}
use Rattle.pickle_io.specs.Text.{◌⧺◌}
use Rattle.pickle_ops.specs.declared.object.Change.{Change}
use Rattle.pickle_ops.specs.declared.object.Change.TheVariants as change
use Rattle.pickle_ops.specs.Object.{Object}
use Rattle.pickle_io.specs.Device.{each}
use Rattle.pickle_text.specs.Column.{newline}
use Rattle.pickle_text.specs.Words.{id_text, kind_text}

-- ---- parts and changes

-- one object more, after a blank
unfoldable pub next_text : ℕ → List ℕ
next_text id = codes " " ⧺ id_text id

-- the parts, with blanks between them
unfoldable pub some_parts : ℕ → List ℕ → List ℕ
some_parts id ids = codes " (" ⧺ id_text id ⧺ each next_text ids ⧺ codes ")"

-- nothing where there is no part
abbrev pub parts_text : List ℕ → List ℕ
parts_text [] = []
parts_text (id ∷ ids) = some_parts id ids

-- a key was mapped to a value
unfoldable pub set_text : ℕ → ℕ → List ℕ
set_text key value = codes " [" ⧺ id_text key ⧺ codes "]=" ⧺ id_text value

-- what was done to an object
unfoldable pub change_text : Change → List ℕ
change_text (change.Append id) = codes " +" ⧺ id_text id
change_text (change.SetItem key value) = set_text key value
change_text (change.Add id) = codes " &" ⧺ id_text id
change_text (change.Build id) = codes " !" ⧺ id_text id

-- ---- objects

-- an object with its number: the kind, the parts, and the changes in the order in which they were made
unfoldable pub object_text : ℕ → Object → List ℕ
object_text id o = id_text id ⧺ codes " " ⧺ kind_text o.kind ⧺ parts_text o.parts ⧺ each change_text o.changes

unfoldable pub object_line : ℕ → Object → List ℕ
object_line id o = object_text id o ⧺ newline

-- the lines of objects whose numbers count from this one on
unfoldable pub lines_from : ℕ → List Object → List ℕ
lines_from id [] = []
lines_from id (o ∷ objects) = object_line id o ⧺ lines_from (suc id) objects

-- the lines of all objects, whose numbers are their places in the heap
unfoldable pub objects_text : List Object → List ℕ
objects_text heap = lines_from 0 heap
