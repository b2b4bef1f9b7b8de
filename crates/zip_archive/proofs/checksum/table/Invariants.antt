-- The entries up to a place are those of the table.
use Rattle.std.proofs.Common.{◌≡◌, ◌<◌, ℕ, length, get_or}
use Rattle.zip_archive.specs.Table.{entry}
use Rattle.zip_archive.proofs.checksum.table.Given as goal

abbrev pub invariant-loop-place : goal.invariant-loop-place
invariant-loop-place l = (length l.entries ≡ 2048) × ((k : ℕ) → k < l.place → get_or l.entries k 0 ≡ entry k)

abbrev pub invariant-loop-place-2 : goal.invariant-loop-place-2
invariant-loop-place-2 l = (length l.entries ≡ 2048) × ((k : ℕ) → k < l.place → get_or l.entries k 0 ≡ entry k)
