-- Holes as texts: an offset, a colon and a length, in decimal digits.
-- Source: own.
use Rattle.std.specs.Prelude.{ℕ, ◌==◌, not, if◌then◌else◌, Bool, List, [], ◌∷◌, ◌++◌, take, drop, Option, Some, None}
use Rattle.std.specs.List.{prefix_len}
use Rattle.pickle_ops.specs.Shape.{decimal_of}
use Rattle.pickle_io.specs.declared.hole.Hole.{Hole}
use Rattle.pickle_io.specs.Holes.{end_of, may_follow}

abbrev pub colon : ℕ
colon = 58

abbrev pub hole_by : Option ℕ → Option ℕ → Option Hole
hole_by (Some offset) (Some size) = Some (record { offset = offset; size = size })
hole_by (Some offset) None = None
hole_by None size = None

-- how many bytes come before the first colon
abbrev pub before_colon : List ℕ → ℕ
before_colon text = prefix_len (λ byte. not (byte == colon)) text

-- the number behind a colon
abbrev pub behind_colon : List ℕ → Option ℕ
behind_colon [] = None
behind_colon (byte ∷ digits) = decimal_of digits

-- the hole that a text is, if it is one
abbrev pub hole_of : List ℕ → Option Hole
hole_of text = hole_by (decimal_of (take (before_colon text) text)) (behind_colon (drop (before_colon text) text))

-- a hole more, where it stands behind those before it
abbrev pub with_hole : List Hole → Option Hole → Option (List Hole)
with_hole holes (Some h) = if may_follow (end_of 0 holes) h then Some (holes ++ h ∷ []) else None
with_hole holes None = None

abbrev pub holes_after : Option (List Hole) → List (List ℕ) → Option (List Hole)
holes_after (Some holes) [] = Some holes
holes_after (Some holes) (text ∷ texts) = holes_after (with_hole holes (hole_of text)) texts
holes_after None texts = None

-- the holes that texts are, one a text
abbrev pub holes_of : List (List ℕ) → Option (List Hole)
holes_of texts = holes_after (Some []) texts
