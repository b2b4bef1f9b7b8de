use Rattle.std.proofs.Common.{◌≡◌, ◌≤◌, take}
use Rattle.pickle_doc.specs.DocUnit.{sizes}
use Rattle.pickle_doc.specs.Inside.Bookmark.{NoFrameBetween}
use Rattle.pickle_doc.proofs.bookmark.last_before.Given as goal

-- no FRAME so far
abbrev pub invariant-loop-place : goal.invariant-loop-place
invariant-loop-place l = record {
  none : NoFrameBetween l.place l.k l.items.items;
  behind : l.behind ≡ sizes (take l.place l.items.items);
  within : l.place ≤ l.k;
}

abbrev pub decreases-loop-place : goal.decreases-loop-place
decreases-loop-place l = l.place
