-- How the writer of a listing keeps the offsets of the open marks. These are no definitions of the listing.
use Rattle.std.specs.Prelude.{ℕ, ◌-◌, List, [], ◌∷◌, ◌++◌, length, take, slice_get, nat_lt, if◌then◌else◌, Option}
use Rattle.pickle_doc.specs.Document.{Contents}
use Rattle.pickle_doc.specs.Place.{offset_of}
use Rattle.pickle_ops.specs.declared.row.Row.{Row}
use Rattle.pickle_ops.specs.declared.row.Row.TheVariants as row
use Rattle.pickle_machine.specs.State.{Marked, State}
use Rattle.pickle_machine.specs.Move.{takes_mark}

-- the last of a list, if there is one
abbrev pub last_element : List ℕ → Option ℕ
last_element xs = slice_get xs (length xs - 1)

-- one more where there are more marks than before, one less where there are fewer
abbrev pub followed : List ℕ → ℕ → ℕ → ℕ → List ℕ
followed opened before after offset =
    if nat_lt before after then opened ++ offset ∷ []
    else if nat_lt after before then take (length opened - 1) opened
    else opened

-- the same by the row that is to move, and the state before it: one more where the row sets a mark, one less where it takes one
abbrev pub followed_by : Row → State → List ℕ → ℕ → List ℕ
followed_by row.Mark s opened offset = opened ++ offset ∷ []
followed_by r s opened offset = if takes_mark r s then take (length opened - 1) opened else opened

-- the offsets of the open marks, the topmost last
abbrev pub mark_offsets : Contents → List Marked → List ℕ
mark_offsets d [] = []
mark_offsets d (m ∷ ms) = mark_offsets d ms ++ offset_of d m.place ∷ []
