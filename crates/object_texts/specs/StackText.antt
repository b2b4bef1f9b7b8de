-- The line of the stack.
-- Source: own.
use Rattle.std.specs.Prelude.{ℕ, List, [], ◌∷◌, codes, decimal}
use Rattle.pickle_io.specs.Text.{◌⧺◌}
use Rattle.pickle_machine.specs.State.{Marked, State}
use Rattle.pickle_io.specs.Device.{each}
use Rattle.pickle_text.specs.Column.{newline}
use Rattle.object_texts.specs.ObjectText.{next_text}

-- a mark, by the place of its item
unfoldable pub stack_mark_text : ℕ → List ℕ
stack_mark_text place = codes " (" ⧺ decimal place

-- a section of the stack, and the mark above it
unfoldable pub section_text : List ℕ → ℕ → List ℕ
section_text ids place = each next_text ids ⧺ stack_mark_text place

-- the sections under the top one, the lowest first
unfoldable pub marked_text : List Marked → List ℕ
marked_text [] = []
marked_text (m ∷ ms) = marked_text ms ⧺ section_text m.section m.place

-- the stack, from the bottom
unfoldable pub stack_text : State → List ℕ
stack_text s = codes "stack" ⧺ marked_text s.marked ⧺ each next_text s.top ⧺ newline
