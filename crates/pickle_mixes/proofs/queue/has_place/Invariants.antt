-- What is left decides.
use Rattle.std.proofs.Common.{◌≡◌, drop}
use Rattle.std.specs.List.{list_any}
use Rattle.pickle_mixes.specs.Acting.{is_same}
use Rattle.pickle_mixes.proofs.queue.has_place.Given as goal

abbrev pub invariant-loop-other : goal.invariant-loop-other
invariant-loop-other l = list_any (is_same l.place) (drop l.other-index l.places) ≡ list_any (is_same l.place) l.places
