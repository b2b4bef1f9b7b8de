-- A packed file: a header, a deflated stream, and what is told of the bytes that it stands for, to the last byte.
-- Source: RFC 1952 sections 2.2 and 2.3.1 (CRC32, ISIZE), RFC 1950 section 2.2 (ADLER32).
use Rattle.std.specs.Prelude.{◌≡◌, ◌≤◌, ℕ, ◌+◌, ◌-◌, ◌%◌, ◌==◌, if◌then◌else◌, min, Bool, true, List, length, drop, nat_lt, Option, Some, None, Result, Ok, Err, Vec}
use Rattle.byteorder.specs.Endian.{little_number, big_number}
use Rattle.inflate.specs.declared.refusal.Refusal.{Refusal as Broken}
use Rattle.inflate.specs.Stream.{inflated, Inflates}
use Rattle.zip_archive.specs.Checksum.{crc32}
use Rattle.packed_stream.specs.declared.reason.Packing.{Packing}
use Rattle.packed_stream.specs.declared.reason.Packing.TheVariants as packing
use Rattle.packed_stream.specs.declared.reason.Reason.TheVariants as reason
use Rattle.packed_stream.specs.declared.reason.Refusal.{Refusal}
use Rattle.packed_stream.specs.Adler.{adler32}
use Rattle.packed_stream.specs.Header.{refused, header_of}

-- ---- behind the stream

-- gzip has the checksum and the number of the bytes, and zlib its own checksum
abbrev pub end_size : Packing → ℕ
end_size packing.Gzip = 8
end_size packing.Zlib = 4

abbrev pub has_checksum : Packing → List ℕ → List ℕ → Bool
has_checksum packing.Gzip end content = little_number 4 end == crc32 content
has_checksum packing.Zlib end content = big_number 4 end == adler32 content

abbrev pub has_size : Packing → List ℕ → List ℕ → Bool
has_size packing.Gzip end content = little_number 4 (drop 4 end) == length content % 4294967296
has_size packing.Zlib end content = true

-- ---- what a packed file opens to

-- a stream stands behind the header, and its end closes the file
pub record IsPacked (p : Packing) (bytes content : List ℕ) : Type 0 where
  pub start : ℕ
  pub taken : ℕ
  pub header : header_of p bytes ≡ Ok start
  pub stream : Inflates (drop start bytes) (content, taken)
  pub whole : length (drop taken (drop start bytes)) ≡ end_size p
  pub sound : has_checksum p (drop taken (drop start bytes)) content ≡ true
  pub long : has_size p (drop taken (drop start bytes)) content ≡ true

-- ---- or why it is none

-- these bytes, unless something is wrong
abbrev pub kept : List ℕ → Option Refusal → Result (List ℕ) Refusal
kept content None = Ok content
kept content (Some r) = Err r

-- what a function returned
abbrev pub seen : {Z : Type 0} → Result (Vec ℕ Z) Refusal → Result (List ℕ) Refusal
seen (Ok v) = Ok v.items
seen (Err r) = Err r

-- the bytes that were made, if what is behind their stream is its end
unfoldable pub checked : Packing → List ℕ → List ℕ → List ℕ → Result (List ℕ) Refusal
checked p bytes behind content =
    if nat_lt (length behind) (end_size p) then refused reason.End (length bytes)
    else (if nat_lt (end_size p) (length behind) then refused reason.Rest (length bytes - length behind + end_size p)
    else (if has_checksum p behind content
    then (if has_size p behind content then Ok content else refused reason.Size (length bytes - 4))
    else refused reason.Checksum (length bytes - length behind)))

-- of what stands behind the header. (No offset is behind the last byte)
abbrev pub unpacked : Packing → List ℕ → ℕ → Result (List ℕ × ℕ) Broken → Result (List ℕ) Refusal
unpacked p bytes start (Ok x) = checked p bytes (drop x.1 (drop start bytes)) x.0
unpacked p bytes start (Err r) = refused (reason.Stream r.why) (start + min r.offset (length (drop start bytes)))

abbrev pub opened_behind : ℕ → Packing → List ℕ → Result ℕ Refusal → Result (List ℕ) Refusal
opened_behind limit p bytes (Ok start) = unpacked p bytes start (inflated limit (drop start bytes))
opened_behind limit p bytes (Err r) = Err r

-- what the bytes open to, if those are at most so many; or the first rule that they break
abbrev pub opened : ℕ → Packing → List ℕ → Result (List ℕ) Refusal
opened limit p bytes = opened_behind limit p bytes (header_of p bytes)
