use Rattle.std.proofs.Common.{◌≡◌, ◌+◌, ◌≤◌, take}
use Rattle.pickle_doc.specs.DocUnit.{sizes}
use Rattle.pickle_doc.proofs.bookmark.size_between.Given as goal

-- the total so far
abbrev pub invariant-loop-j : goal.invariant-loop-j
invariant-loop-j l = record { total : sizes (take l.from l.items.items) + l.total ≡ sizes (take l.j l.items.items); within : l.j ≤ l.to }
