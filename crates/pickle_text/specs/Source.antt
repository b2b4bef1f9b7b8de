-- What a source of items is to give before they are written of.
-- Source: own.
use Rattle.std.specs.Prelude.{◌≡◌, ◌≤◌, Bool, length}
use Rattle.pickle_doc.specs.Document.{Contents, ReadsIn, size_limit}
use Rattle.pickle_doc.specs.Unread.{Unread}

-- what is not read yet is a whole document, as several pickles or as one, that is not too large
pub record GivesDocument (many : Bool) (unread : Unread) : Type 0 where
  pub first : unread.left ≡ 0
  pub small : length unread.rest ≤ size_limit
  pub document : (d : Contents) × ReadsIn many unread.loose unread.rest d
