-- What is left of a file without its holes keeps its offsets.
use Rattle.std.specs.Prelude.{◌≡◌, ℕ, ◌<◌, List, [], length, slice_get}
use Rattle.pickle_io.specs.declared.hole.Hole.{Hole}
use Rattle.pickle_io.specs.Holes.{most, AreHoles, without, in_file}

-- each byte that is left stands in the file at the offset that is shown
abbrev pub BytesKeepTheirOffsets : Type 0
BytesKeepTheirOffsets = (holes : List Hole) (bytes : List ℕ) (place : ℕ) → AreHoles 0 holes → length bytes < most → place < length (without holes bytes)
    → slice_get (without holes bytes) place ≡ slice_get bytes (in_file holes place)

-- without holes all bytes are left, where they are
pub record IsWhole (bytes : List ℕ) (place : ℕ) : Type 0 where
  pub all : without [] bytes ≡ bytes
  pub there : in_file [] place ≡ place

abbrev pub NothingLeftOut : Type 0
NothingLeftOut = (bytes : List ℕ) (place : ℕ) → IsWhole bytes place
