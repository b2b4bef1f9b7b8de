-- What is left, from what was read, gives the whole.
use Rattle.std.proofs.Common.{◌≡◌, ◌*◌, drop}
use Rattle.std.specs.List.{fold}
use Rattle.zip_archive.specs.Checksum.{byte_behind}
use Rattle.zip_archive.proofs.checksum.many_behind.Given as goal

abbrev pub invariant-loop-step : goal.invariant-loop-step
invariant-loop-step l = fold byte_behind l.c (drop (8 * l.step) l.bytes) ≡ fold byte_behind l.initial.c l.bytes
