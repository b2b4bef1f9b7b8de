-- Literals of texts and bytes.
-- Source: Python's `repr`: `unicode_repr` of Objects/unicodeobject.c, `PyBytes_Repr` of Objects/bytesobject.c, and `bytearray_repr` of
-- Objects/bytearrayobject.c, which puts a backslash before each single quote, whatever the quotes around are.
use Rattle.std.specs.Prelude.{ℕ, ◌==◌, ◌&&◌, not, if◌then◌else◌, Bool, List, [], ◌∷◌, codes}
use Rattle.std.specs.List.{list_any}
use Rattle.std.specs.Str.{chars}
use Rattle.pickle_io.specs.Text.{◌⧺◌}
use Rattle.pickle_io.specs.Device.{each}
use Rattle.python_literals.specs.Signs.{ascii_text, sign_text}

abbrev pub has : ℕ → List ℕ → Bool
has c bytes = list_any (λ b. b == c) bytes

-- single quotes, but double ones around what has a single one and no double one
unfoldable pub quote_of : List ℕ → ℕ
quote_of bytes = if has 39 bytes && not (has 34 bytes) then 34 else 39

unfoldable pub between : ℕ → List ℕ → List ℕ
between quote text = quote ∷ [] ⧺ text ⧺ quote ∷ []

-- a text, by its bytes in UTF-8, in which halves of surrogate pairs may stand alone
unfoldable pub str_text : List ℕ → List ℕ
str_text text = between (quote_of text) (each (sign_text (quote_of text)) (chars text))

unfoldable pub bytes_text : List ℕ → List ℕ
bytes_text bytes = codes "b" ⧺ between (quote_of bytes) (each (ascii_text (quote_of bytes)) bytes)

unfoldable pub bytearray_text : List ℕ → List ℕ
bytearray_text bytes = codes "bytearray(b" ⧺ between (quote_of bytes) (each (ascii_text 39) bytes) ⧺ codes ")"
