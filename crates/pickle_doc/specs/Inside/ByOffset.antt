-- A place among items by its offset. This is no definition of a document.
use Rattle.std.specs.Prelude.{◌≡◌, ◌≢◌, ℕ, ◌≤◌, List, length, take, Option, Some, None}
use Rattle.pickle_doc.specs.declared.item.Item.{Item}
use Rattle.pickle_doc.specs.DocUnit.{sizes}

-- this many bytes spell the items before this place; where there is none, before no place
abbrev pub IsAtOffset : Option ℕ → ℕ → List Item → Type 0
IsAtOffset (Some k) offset items = (k ≤ length items) × (sizes (take k items) ≡ offset)
IsAtOffset None offset items = (k : ℕ) → k ≤ length items → sizes (take k items) ≢ offset
