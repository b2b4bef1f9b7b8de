-- Which names the source has as they are.
-- Source: The Python Language Reference, "The import statement"; PEP 236: an import from `__future__` is no import of a module. `result` and a number
-- is what the source calls a result.
use Rattle.std.specs.Prelude.{ℕ, ◌==◌, ◌&&◌, not, Bool, List, codes}
use Rattle.std.specs.List.{list_all, slice_split}
use Rattle.std.specs.Str.{bytes_eq}
use Rattle.python_literals.specs.Names.{is_identifier}

unfoldable pub result_word : List ℕ
result_word = codes "result"

unfoldable pub future_word : List ℕ
future_word = codes "__future__"

unfoldable pub is_name : List ℕ → Bool
is_name bytes = is_identifier bytes && not (bytes_eq bytes result_word)

abbrev pub is_point : ℕ → Bool
is_point b = b == 46

-- names with points between them
unfoldable pub is_module : List ℕ → Bool
is_module bytes = list_all is_identifier (slice_split is_point bytes) && not (bytes_eq bytes future_word)
