-- What is left, from the sums of what was read, gives the whole.
use Rattle.std.proofs.Common.{◌≡◌, ◌<◌, drop}
use Rattle.std.specs.List.{fold}
use Rattle.packed_stream.specs.Adler.{sums_behind}
use Rattle.packed_stream.proofs.adler.sums.Given as goal

abbrev pub invariant-loop-byte : goal.invariant-loop-byte
invariant-loop-byte l = (fold sums_behind l.sums (drop l.byte-index l.bytes) ≡ fold sums_behind (1, 0) l.bytes) × ((l.sums.0 < 65521) × (l.sums.1 < 65521))
