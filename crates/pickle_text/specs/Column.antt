-- Texts in columns. They are here and not in pickle_io, since only the lines of the listing and of scripts have
-- columns.
use Rattle.std.specs.Prelude.{ℕ, ◌-◌, List, [], ◌∷◌, length, replicate}
use Rattle.pickle_io.specs.Text.{◌⧺◌}

abbrev pub blanks : ℕ → List ℕ
blanks n = replicate n 32

-- a text at the right of a column; a longer text is not cut
unfoldable pub right_aligned : ℕ → List ℕ → List ℕ
right_aligned width text = blanks (width - length text) ⧺ text

-- a text at the left of a column; a longer text is not cut
unfoldable pub left_aligned : ℕ → List ℕ → List ℕ
left_aligned width text = text ⧺ blanks (width - length text)

abbrev pub newline : List ℕ
newline = 10 ∷ []
