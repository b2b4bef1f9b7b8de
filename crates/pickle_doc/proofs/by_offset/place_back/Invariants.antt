use Rattle.std.proofs.Common.{◌≡◌, ◌≤◌, length, take}
use Rattle.pickle_doc.specs.DocUnit.{sizes}
use Rattle.pickle_doc.proofs.Offsets.{AreHigher}
use Rattle.pickle_doc.proofs.by_offset.place_back.Given as goal

-- the places after are behind
abbrev pub invariant-loop-at : goal.invariant-loop-at
invariant-loop-at l = record {
  at : l.at ≡ sizes (take l.place l.items.items);
  higher : AreHigher l.place l.offset l.items.items;
  within : l.place ≤ length l.items.items;
}

abbrev pub decreases-loop-at : goal.decreases-loop-at
decreases-loop-at l = l.place
