-- An object with all that it contains: a walk in preorder, in which the content of an object follows at its first place
-- alone.
-- Source: own.
use Rattle.std.specs.Prelude.{ℕ, zero, suc, ◌+◌, Bool, true, false, List, [], ◌∷◌, ◌++◌, length, replicate, get_or, set, codes, decimal, if◌then◌else◌, Option, None, slice_get}
use Rattle.std.specs.Option.{option_map_or}
use Rattle.std.specs.List.{flat_map}
use Rattle.pickle_io.specs.Text.{◌⧺◌}
use Rattle.pickle_ops.specs.declared.object.Change.{Change}
use Rattle.pickle_ops.specs.declared.object.Change.TheVariants as change
use Rattle.pickle_ops.specs.Object.{Object}
use Rattle.pickle_io.specs.Device.{each}
use Rattle.pickle_text.specs.Column.{newline}
use Rattle.object_texts.specs.ObjectText.{next_text, object_text}

-- ---- content

-- the objects that a change put into an object
abbrev pub change_ids : Change → List ℕ
change_ids (change.Append id) = id ∷ []
change_ids (change.SetItem key value) = key ∷ value ∷ []
change_ids (change.Add id) = id ∷ []
change_ids (change.Build id) = id ∷ []

-- what an object contains: its parts, then what was put into it
abbrev pub content : Object → List ℕ
content o = o.parts ++ flat_map change_ids o.changes

-- ---- lines

-- an object at its first place: the depth, and the object
unfoldable pub first_line : ℕ → ℕ → Object → List ℕ
first_line depth id o = decimal depth ⧺ codes " " ⧺ object_text id o ⧺ newline

-- an object at a later place: the depth, and the number
unfoldable pub again_line : ℕ → ℕ → List ℕ
again_line depth id = decimal depth ⧺ next_text id ⧺ newline

-- ---- the walk

-- a place of the walk: how deep it is, and which object is there
pub record WalkPlace : Type 0 where
  pub depth : ℕ
  pub id : ℕ

-- objects that are at one depth
abbrev pub at_depth : ℕ → List ℕ → List WalkPlace
at_depth depth [] = []
at_depth depth (id ∷ ids) = record { depth = depth; id = id } ∷ at_depth depth ids

-- the object of a number, unless it was seen
abbrev pub found : List Object → List Bool → ℕ → Option Object
found heap seen id = if get_or seen id false then None else slice_get heap id

abbrev pub again : WalkPlace → List ℕ
again p = again_line p.depth p.id

-- The lines of the places that are still to be walked, the next one first. At its first place is the object, and its
-- content is walked next, one deeper; a later place is one short line. The first number counts the objects that were not
-- seen: where none is left, each place is a short line.
unfoldable pub walk : ℕ → List Object → List Bool → List WalkPlace → List ℕ
walk zero heap seen places = each again places
walk (suc n) heap seen [] = []
walk (suc n) heap seen (p ∷ places) =
    option_map_or
    (λ (o : Object). first_line p.depth p.id o ⧺ walk n heap (set seen p.id true) (at_depth (p.depth + 1) (content o) ++ places))
    (found heap seen p.id)
    (again p ⧺ walk (suc n) heap seen places)

-- the walk from an object, with nothing seen yet
unfoldable pub show_text : List Object → ℕ → List ℕ
show_text heap id = walk (length heap) heap (replicate (length heap) false) (record { depth = 0; id = id } ∷ [])
