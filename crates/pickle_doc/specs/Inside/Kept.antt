-- What a document keeps, and the parts that a reader of bytes finds for it. These are no definitions of the format.
use Rattle.std.specs.Prelude.{◌≡◌, ℕ, ◌≤◌, List, ◌++◌, length, ◌+◌, ◌^◌, Bool, Option}
use Rattle.pickle_doc.specs.declared.item.Item.{Item}
use Rattle.pickle_doc.specs.declared.fault.TailFault.{TailFault}
use Rattle.pickle_doc.specs.DocUnit.{operations, bytes_of, sizes}
use Rattle.pickle_doc.specs.Document.{AreCounted, HaveOwnIds, size_limit}
use Rattle.pickle_doc.specs.Fitting.{FitsFrom}

-- items, the tail after them and its fault that the bytes read as, in a mode
pub record AreParts (many loose : Bool) (bytes : List ℕ) (items : List Item) (tail : List ℕ) (e : Option TailFault) : Type 0 where
  pub fit : FitsFrom many loose 0 (operations items) tail e
  pub whole : bytes_of (operations items) ++ tail ≡ bytes
  pub ids : AreCounted 0 items

-- what a document keeps: its modes, the items, the tail, the fault at which reading ended, the next identity, and the offset of
-- the tail
pub record IsKept (many loose : Bool) (items : List Item) (tail : List ℕ) (e : Option TailFault) (next start : ℕ) : Type 0 where
  pub fit : FitsFrom many loose 0 (operations items) tail e
  pub ids : HaveOwnIds items next
  pub few : next ≤ 2 ^ 32
  pub offset : start ≡ sizes items
  pub within : start + length tail ≤ size_limit
