use Rattle.std.proofs.Common.{◌≡◌, ◌≤◌, length, take}
use Rattle.pickle_doc.specs.DocUnit.{sizes}
use Rattle.pickle_doc.proofs.Offsets.{AreLower}
use Rattle.pickle_doc.proofs.by_offset.place_from.Given as goal

-- the places before are behind
abbrev pub invariant-loop-place : goal.invariant-loop-place
invariant-loop-place l = record {
  at : l.at ≡ sizes (take l.place l.items.items);
  lower : AreLower l.place l.offset l.items.items;
  within : l.place ≤ length l.items.items;
}
