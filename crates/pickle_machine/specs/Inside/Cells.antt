-- The flat rows of cells and marks that hold the sections of a stack.
use Rattle.std.specs.Prelude.{◌≡◌, ℕ, ◌≤◌, List, [], ◌∷◌, length, take, drop, reverse, Option, Some, None, ⊤}
use Rattle.pickle_machine.specs.declared.stack.Mark.{Mark}
use Rattle.pickle_machine.specs.declared.stack.Bottom.{Bottom}
use Rattle.pickle_machine.specs.State.{Marked, Left}
use Rattle.pickle_machine.specs.Sections.{Sections, with_top}

-- objects are put on the top section, or on a new one above a mark
abbrev pub put_back_to : Option ℕ → List ℕ → Sections → Sections
put_back_to None items v = with_top v items
put_back_to (Some place) items v = record v { top = items; marked = record { section = v.top; place = place } ∷ v.marked }

-- where the section above the topmost of these marks begins; the lowest begins at the bottom
abbrev pub base_of : ℕ → List Mark → ℕ
base_of bottom [] = bottom
base_of bottom (m ∷ ms) = m.base

-- the sections under marks, the topmost first: each ends where the one above it begins
abbrev pub sections_of : ℕ → List Mark → List ℕ → List Marked
sections_of bottom [] cells = []
sections_of bottom (m ∷ ms) cells = record { section = drop (base_of bottom ms) (take m.base cells); place = m.place } ∷ sections_of bottom ms cells

-- each section begins where the one below it ends
abbrev pub AreStacked : ℕ → List Mark → Type 0
AreStacked bottom [] = ⊤
AreStacked bottom (m ∷ ms) = (base_of bottom ms ≤ m.base) × AreStacked bottom ms

-- rows of cells and of marks that hold sections from a bottom up to this height
pub record IsStack (cells : List ℕ) (bottom height : ℕ) (ms : List Mark) : Type 0 where
  pub above : base_of bottom ms ≤ height
  pub within : height ≤ length cells
  pub stacked : AreStacked bottom ms

-- the marks between two depths, the topmost first
abbrev pub marks_in : ℕ → ℕ → List Mark → List Mark
marks_in low depth row = reverse (drop low (take depth row))

-- the stack that they hold
abbrev pub left_in : List ℕ → ℕ → ℕ → List Mark → Left
left_in cells bottom height ms = record { top = drop (base_of bottom ms) (take height cells); marked = sections_of bottom ms cells }

-- the stacks that were left behind, the latest first: each has a bottom of its own and ends at the bottom above it
abbrev pub left_of : Bottom → List Bottom → List ℕ → List Mark → List Left
left_of b [] cells row = []
left_of b (a ∷ older) cells row = left_in cells a.height b.height (marks_in a.depth b.depth row) ∷ left_of a older cells row

-- they are there, and the lowest of all is on the ground
abbrev pub AreLeft : Bottom → List Bottom → List ℕ → List Mark → Type 0
AreLeft b [] cells row = (b.height ≡ 0) × (b.depth ≡ 0)
AreLeft b (a ∷ older) cells row = IsStack cells a.height b.height (marks_in a.depth b.depth row) × (a.depth ≤ b.depth) × AreLeft a older cells row

-- a stack up to a height and a depth, on its bottom, and below it those that were left behind
pub record HoldsStacks (cells : List ℕ) (height depth : ℕ) (row : List Mark) (bottom : Bottom) (older : List Bottom) : Type 0 where
  pub is : IsStack cells bottom.height height (marks_in bottom.depth depth row)
  pub low : bottom.depth ≤ depth
  pub deep : depth ≤ length row
  pub left : AreLeft bottom older cells row

-- the sections that they hold
abbrev pub view_of : List ℕ → ℕ → List Mark → List Mark → Bottom → List Bottom → Sections
view_of cells height ms row bottom older =
    record {
      top = drop (base_of bottom.height ms) (take height cells);
      marked = sections_of bottom.height ms cells;
      left = left_of bottom older cells row;
      cells = length cells;
      marks = length row;
    }
