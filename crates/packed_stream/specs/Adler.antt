-- Adler-32: a sum of bytes, and a sum of its values.
-- Source: RFC 1950 sections 2.2 (ADLER32) and 8.2.
use Rattle.std.specs.Prelude.{ℕ, ◌+◌, ◌*◌, ◌%◌, List}
use Rattle.std.specs.List.{fold}

-- the sum of the bytes behind one more, and that of the sums, both modulo the largest prime below 2 ^ 16
unfoldable pub sums_behind : ℕ × ℕ → ℕ → ℕ × ℕ
sums_behind s byte = ((s.0 + byte) % 65521, (s.1 + (s.0 + byte) % 65521) % 65521)

abbrev pub checksum_of : ℕ × ℕ → ℕ
checksum_of s = s.1 * 65536 + s.0

abbrev pub adler32 : List ℕ → ℕ
adler32 bytes = checksum_of (fold sums_behind (1, 0) bytes)
