-- The sizes of the items so far.
use Rattle.std.proofs.Common.{◌≡◌, ◌+◌, ◌≤◌}
use Rattle.pickle_doc.specs.Place.{offset_of}
use Rattle.debug_json.proofs.offset.size_between.Given as goal

abbrev pub invariant-loop-place : goal.invariant-loop-place
invariant-loop-place l = record {
  size : offset_of l.document.contents l.from + l.size ≡ offset_of l.document.contents l.place;
  within : l.place ≤ l.to;
}
