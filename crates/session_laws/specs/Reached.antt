-- What `show` prints of an object: all that can be reached from it, in which order, how deep, and what of it in full.
-- Source: own. How the walk comes to its lines is not said here: of a list of lines it is said what stands where.
use Rattle.std.specs.Prelude.{◌≡◌, ℕ, zero, suc, ◌+◌, ◌≤◌, ◌==◌, ◌||◌, nat_lt, if◌then◌else◌, Bool, true, false, List, [], ◌∷◌, ◌++◌, take, drop, slice_get, Option, Some, None, IsSome}
use Rattle.std.specs.Option.{option_map_or}
use Rattle.std.specs.List.{flat_map}
use Rattle.pickle_ops.specs.Object.{Object}
use Rattle.calls_laws.specs.LineLaws.{cut_lines}
use Rattle.object_texts.specs.Show.{WalkPlace, content, first_line, again_line, show_text}

-- ---- what can be reached

-- an object holds another: the other is one of its parts, or was put into it
abbrev pub Holds : List Object → ℕ → ℕ → Type 0
Holds heap a b = (o : Object) × (slice_get heap a ≡ Some o) × ((k : ℕ) × (slice_get (content o) k ≡ Some b))

-- from an object another is reached by so many steps, each from an object to one that it holds
abbrev pub Reaches : List Object → ℕ → ℕ → ℕ → Type 0
Reaches heap from zero id = id ≡ from
Reaches heap from (suc n) id = (holder : ℕ) × Reaches heap from n holder × Holds heap holder id

-- ---- lines

-- A line has a place: how deep it is, and the number of its object. Here, whether an object has a line.
abbrev pub has_line : List WalkPlace → ℕ → Bool
has_line [] id = false
has_line (p ∷ lines) id = p.id == id || has_line lines id

-- The object that the next line shows in full, where these lines are before it: it is in full if no line before it is of the same object. A
-- number that no object has is never in full.
abbrev pub in_full : List Object → List WalkPlace → ℕ → Option Object
in_full heap before id = if has_line before id then None else slice_get heap id

-- the line: in full, or short
abbrev pub line_text : List Object → List WalkPlace → WalkPlace → List ℕ
line_text heap before p = option_map_or (first_line p.depth p.id) (in_full heap before p.id) (again_line p.depth p.id)

-- that of each line
abbrev pub line_texts : List Object → List WalkPlace → List WalkPlace → List (List ℕ)
line_texts heap before [] = []
line_texts heap before (p ∷ lines) = line_text heap before p ∷ line_texts heap (before ++ p ∷ []) lines

-- ---- the outline

-- under a line in full is what its object holds: its parts and then what was put into it, in order; under a short line is nothing
abbrev pub under : List Object → List WalkPlace → ℕ → List ℕ
under heap before id = option_map_or content (in_full heap before id) []

-- the objects of the lines that are this deep, up to the first line that is less deep
abbrev pub ids_at : ℕ → List WalkPlace → List ℕ
ids_at depth [] = []
ids_at depth (p ∷ lines) = if nat_lt p.depth depth then [] else if p.depth == depth then p.id ∷ ids_at depth lines else ids_at depth lines

-- these lines are the outline of an object
pub record IsOutline (heap : List Object) (asked : ℕ) (lines : List WalkPlace) : Type 0 where
  -- it has the first line, at depth 0, where no other line is
  pub first : slice_get lines 0 ≡ Some (record { depth = 0; id = asked })
  pub alone : ids_at 0 lines ≡ asked ∷ []
  -- a line is at most one deeper than the line before it
  pub next : (k : ℕ) (p q : WalkPlace) → slice_get lines k ≡ Some p → slice_get lines (suc k) ≡ Some q → q.depth ≤ p.depth + 1
  -- behind each line, one deeper, up to the next line that is not deeper than it, are the lines of what is under it
  pub below : (k : ℕ) (p : WalkPlace) → slice_get lines k ≡ Some p → ids_at (p.depth + 1) (drop (suc k) lines) ≡ under heap (take k lines) p.id

-- ---- what is printed

-- line k is of this object, and in full
abbrev pub IsInFull : List Object → List WalkPlace → ℕ → ℕ → Type 0
IsInFull heap lines id k = (p : WalkPlace) × (slice_get lines k ≡ Some p) × (p.id ≡ id) × IsSome (in_full heap (take k lines) id)

-- a text shows an object by these lines
pub record IsShown (heap : List Object) (asked : ℕ) (text : List ℕ) (lines : List WalkPlace) : Type 0 where
  -- it is their text, and cut behind its newlines it is these lines: no text of a pickle makes a line of its own
  pub whole : text ≡ flat_map (λ (line : List ℕ). line) (line_texts heap [] lines)
  pub cut : cut_lines text ≡ line_texts heap [] lines
  -- they are the outline of the object, and no other lines are
  pub outline : IsOutline heap asked lines
  pub only : (others : List WalkPlace) → IsOutline heap asked others → others ≡ lines
  -- the object of each line is reached by as many steps as the line is deep
  pub deep : (k : ℕ) (p : WalkPlace) → slice_get lines k ≡ Some p → Reaches heap asked p.depth p.id
  -- each object that is reached has a line, and exactly one in full
  pub all : (n id : ℕ) → Reaches heap asked n id → has_line lines id ≡ true
  pub once : (n id : ℕ) (o : Object) → Reaches heap asked n id → slice_get heap id ≡ Some o
      → (k : ℕ) × IsInFull heap lines id k × ((j : ℕ) → IsInFull heap lines id j → j ≡ k)

-- What `show` prints shows the object that it is asked for so, whatever the objects are, and also where none has that number.
abbrev pub ShowsReached : Type 0
ShowsReached = (heap : List Object) (asked : ℕ) → (lines : List WalkPlace) × IsShown heap asked (show_text heap asked) lines
