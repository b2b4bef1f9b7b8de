-- How the writer of an object goes on with its walk. These are no definitions of the text.
use Rattle.std.specs.Prelude.{ℕ, suc, ◌+◌, Bool, true, false, List, [], ◌∷◌, ◌++◌, set, Option, None, Some}
use Rattle.pickle_io.specs.Text.{◌⧺◌}
use Rattle.pickle_ops.specs.Object.{Object}
use Rattle.object_texts.specs.Show.{WalkPlace, content, first_line, again_line, at_depth, found, walk}

-- how many objects were not seen
abbrev pub unseen : List Bool → ℕ
unseen [] = 0
unseen (true ∷ seen) = unseen seen
unseen (false ∷ seen) = suc (unseen seen)

-- the line of a place, its object being this one if it was not seen
abbrev pub place_line : ℕ → ℕ → Option Object → List ℕ
place_line depth id None = again_line depth id
place_line depth id (Some o) = first_line depth id o

-- what was seen after that place
abbrev pub seen_after : List Bool → ℕ → Option Object → List Bool
seen_after seen id None = seen
seen_after seen id (Some o) = set seen id true

-- what that place puts on the stack of the walk
abbrev pub entered : Option Object → List (List ℕ)
entered None = []
entered (Some o) = content o ∷ []

-- the places that are still to be walked, where the stack has what is left of the content of the objects on the way down,
-- that of the lowest first
abbrev pub pending : ℕ → List (List ℕ) → List WalkPlace
pending depth [] = []
pending depth (ids ∷ stack) = pending (depth + 1) stack ++ at_depth depth ids

-- what is still to be written
unfoldable pub unwritten_text : List Object → List Bool → List (List ℕ) → List ℕ
unwritten_text heap seen stack = walk (unseen seen) heap seen (pending 1 stack)

-- what is to be written from a place on, with nothing on the stack
abbrev pub walk_text : List Object → List Bool → ℕ → List ℕ
walk_text heap seen id = place_line 0 id (found heap seen id) ⧺ unwritten_text heap (seen_after seen id (found heap seen id)) (entered (found heap seen id))
