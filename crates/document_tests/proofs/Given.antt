-- The room that is left after an edit.
use Rattle.std.proofs.Common.{ℕ, ◌+◌, ◌≤◌, ◌≡◌, Bool, true, false, if◌then◌else◌, length, arith}
use Rattle.std.specs.Prelude.{MatchBool}
use Rattle.pickle_ops.specs.Spelling.{Operation}
use Rattle.pickle_doc.specs.declared.edit.Edit.{Edit}
use Rattle.pickle_doc.specs.Document.{Contents, items_of}
use Rattle.pickle_doc.specs.Edit.{raised_next, raised_next_by, adds_item, KeepsRoom}

-- the document before it has its place in it
pub room_back : (e : Edit Operation) (d : Contents) (m n : ℕ) → KeepsRoom e (length (items_of d) + m) n → length (items_of (raised_next_by e d)) ≤ n
room_back e d m n h = go (adds_item e) h
  where
    go : (b : Bool) → MatchBool b (length (items_of d) + m ≤ n) (n ≡ length (items_of d) + m) → length (items_of (if b then raised_next d else d)) ≤ n
    go true h = omega (arith, h)
    go false h = omega (arith, h)
