-- What is read of a line. These are no definitions of what a list allows.
use Rattle.std.specs.Prelude.{◌≡◌, ℕ, Bool, true, false, List, [], ◌∷◌, ◌++◌, map, Option, Some, None}
use Rattle.pickle_allow.specs.declared.line.Line.{Line}
use Rattle.pickle_allow.specs.declared.line.Line.TheVariants as line
use Rattle.pickle_allow.specs.declared.list.Entry.{Entry}
use Rattle.pickle_allow.specs.Grammar.{Row, entry_row, line_says}

abbrev pub line_rows : Line → Option (List Row)
line_rows line.Nothing = Some []
line_rows (line.Entry e) = Some (entry_row e ∷ [])
line_rows line.Wrong = None

-- what becomes of the entries before a line; the answer is whether it is a line of a list
abbrev pub AddsLine : List ℕ → List Entry → List Entry → Bool → Type 0
AddsLine line old new true = (rows : List Row) × (line_says line ≡ Some rows) × (map entry_row new ≡ map entry_row old ++ rows)
AddsLine line old new false = line_says line ≡ None
