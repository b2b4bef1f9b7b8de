-- What is left, from what was read, gives the whole.
use Rattle.std.proofs.Common.{◌≡◌, drop}
use Rattle.std.specs.List.{fold}
use Rattle.zip_archive.specs.Checksum.{byte_behind}
use Rattle.zip_archive.proofs.checksum.bytes_behind.Given as goal

abbrev pub invariant-loop-byte : goal.invariant-loop-byte
invariant-loop-byte l = fold byte_behind l.c (drop l.byte-index l.bytes) ≡ fold byte_behind l.initial.c l.bytes
