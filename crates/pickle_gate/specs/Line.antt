-- The line that `calls` prints for an item of a pickle, with arguments cut.
-- Source: own.
use Rattle.std.specs.Prelude.{◌≡◌, ℕ, false, List}
use Rattle.pickle_doc.specs.Document.{Contents, ReadsAs}
use Rattle.pickle_calls.specs.declared.naming.Detail.TheVariants as detail
use Rattle.pickle_calls.specs.Manner.{whole}
use Rattle.pickle_calls.specs.Calls.{entry_at}

-- of item k; nothing where the item has no line, or is not run
abbrev pub line_at : Contents → ℕ → List ℕ
line_at d k = (entry_at (whole detail.Cut) d k).text

-- of the pickle that the bytes are
abbrev pub IsLineAt : List ℕ → ℕ → List ℕ → Type 0
IsLineAt bytes k line = (d : Contents) → ReadsAs false bytes d → line ≡ line_at d k
