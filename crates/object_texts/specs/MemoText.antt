-- The line of the memo.
-- Source: own.
use Rattle.std.specs.Prelude.{ℕ, List, codes, decimal}
use Rattle.pickle_io.specs.Text.{◌⧺◌}
use Rattle.pickle_io.specs.Device.{each}
use Rattle.pickle_text.specs.Column.{newline}
use Rattle.pickle_text.specs.Words.{id_text}

-- a key, and the object that the memo has under it
unfoldable pub entry_text : (ℕ × ℕ) → List ℕ
entry_text e = codes " " ⧺ decimal e.0 ⧺ codes "=" ⧺ id_text e.1

-- the entries, by rising key as the memo has them
unfoldable pub memo_text : List (ℕ × ℕ) → List ℕ
memo_text entries = codes "memo" ⧺ each entry_text entries ⧺ newline
