use Rattle.std.proofs.Common.{◌≡◌, ◌≤◌, take}
use Rattle.pickle_doc.specs.DocUnit.{sizes}
use Rattle.pickle_doc.specs.Inside.Bookmark.{IsLastFrame}
use Rattle.pickle_doc.proofs.bookmark.forward.Given as goal

-- what is known at the place so far
abbrev pub invariant-loop-j : goal.invariant-loop-j
invariant-loop-j l = record {
  offset : l.offset ≡ sizes (take l.j l.items.items);
  frame : IsLastFrame l.frame l.j l.items.items;
  within : l.j ≤ l.k;
}
