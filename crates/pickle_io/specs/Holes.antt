-- Holes of a file: what is left of its bytes without them, and where that stands in the file.
-- Source: own.
use Rattle.std.specs.Prelude.{ℕ, zero, suc, ◌+◌, ◌-◌, ◌≤◌, ◌^◌, nat_le, nat_lt, ◌&&◌, Bool, if◌then◌else◌, List, [], ◌∷◌, ◌++◌, take, drop, Option, Some, None, ⊤}
use Rattle.pickle_io.specs.declared.hole.Hole.{Hole}

-- ---- holes in order

-- no hole ends behind this offset
abbrev pub most : ℕ
most = 2 ^ 62

-- a hole begins at or behind this offset
pub record IsHole (from : ℕ) (h : Hole) : Type 0 where
  pub apart : from ≤ h.offset
  pub ends : h.offset + h.size ≤ most

-- they stand in order at or behind this offset, and none overlaps another
abbrev pub AreHoles : ℕ → List Hole → Type 0
AreHoles from [] = ⊤
AreHoles from (h ∷ holes) = IsHole from h × AreHoles (h.offset + h.size) holes

-- where the last one ends
abbrev pub end_of : ℕ → List Hole → ℕ
end_of from [] = from
end_of from (h ∷ holes) = end_of (h.offset + h.size) holes

-- a hole may come behind these
abbrev pub IsBehind : List Hole → Hole → Type 0
IsBehind holes h = IsHole (end_of 0 holes) h

-- a hole begins at or behind this offset, and no file is too short for it
abbrev pub may_follow : ℕ → Hole → Bool
may_follow from h = nat_le from h.offset && (nat_le h.offset most && nat_le h.size (most - h.offset))

-- the first that does not lie within so many bytes, if there is one
abbrev pub first_outside : ℕ → List Hole → Option Hole
first_outside size [] = None
first_outside size (h ∷ holes) = if nat_le (h.offset + h.size) size then first_outside size holes else Some h

-- ---- what is left

-- of bytes the first of which is at this offset
unfoldable pub without_from : ℕ → List Hole → List ℕ → List ℕ
without_from from [] bytes = bytes
without_from from (h ∷ holes) bytes = take (h.offset - from) bytes ++ without_from (h.offset + h.size) holes (drop ((h.offset - from) + h.size) bytes)

-- of all bytes of a file
abbrev pub without : List Hole → List ℕ → List ℕ
without holes bytes = without_from 0 holes bytes

-- ---- where it stands

-- behind each hole that begins at this offset or before, where those before it are already passed
abbrev pub passing : List Hole → ℕ → ℕ
passing [] offset = offset
passing (h ∷ holes) offset = if nat_le h.offset offset then passing holes (offset + h.size) else offset

-- the offset in the file of what is at this place of what is left, at its end that behind the last byte. No file is so long that a place
-- is beyond `most`: that is its own offset
unfoldable pub in_file : List Hole → ℕ → ℕ
in_file holes place = if nat_lt place most then passing holes place else place

-- ---- as it is worked out

-- how many bytes are left out by the first n holes, after so many before them
abbrev pub left_out : ℕ → ℕ → List Hole → ℕ
left_out out zero holes = out
left_out out (suc n) [] = out
left_out out (suc n) (h ∷ holes) = left_out (out + h.size) n holes

-- where the holes stand in what is left, after so many bytes that are left out before them
abbrev pub places_from : ℕ → List Hole → List ℕ
places_from out [] = []
places_from out (h ∷ holes) = (h.offset - out) ∷ places_from (out + h.size) holes
