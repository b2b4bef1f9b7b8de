-- How packed files begin.
-- Source: RFC 1952 sections 2.3 and 2.3.1 (gzip), RFC 1950 section 2.2 (zlib), and what Python's gzip, GNU gzip and `zlib.compress` write: no flag, or
-- that of a name, and a window of 32 KiB without a dictionary.
use Rattle.std.specs.Prelude.{ℕ, suc, ◌+◌, ◌*◌, ◌/◌, ◌%◌, ◌==◌, ◌&&◌, eqb, if◌then◌else◌, Bool, List, [], ◌∷◌, length, drop, get_or, slice_index, nat_lt, Option, Some, None, Result, Ok, Err}
use Rattle.std.specs.Option.{option_map}
use Rattle.std.specs.List.{starts_with}
use Rattle.packed_stream.specs.declared.reason.Packing.{Packing}
use Rattle.packed_stream.specs.declared.reason.Packing.TheVariants as packing
use Rattle.packed_stream.specs.declared.reason.Reason.{Reason}
use Rattle.packed_stream.specs.declared.reason.Reason.TheVariants as reason
use Rattle.packed_stream.specs.declared.reason.Refusal.{Refusal}

abbrev pub refusal_at : Reason → ℕ → Refusal
refusal_at why offset = record { why = why; offset = offset }

abbrev pub refused : {A : Type 0} → Reason → ℕ → Result A Refusal
refused why offset = Err (refusal_at why offset)

-- ---- gzip

-- ID1 and ID2
abbrev pub begins_as_gzip : List ℕ → Bool
begins_as_gzip bytes = starts_with eqb bytes (31 ∷ 139 ∷ [])

-- the name of the file that was packed: it ends with the first zero. So many bytes it has with this
unfoldable pub name_size : List ℕ → Option ℕ
name_size [] = None
name_size (byte ∷ rest) = if byte == 0 then Some 1 else option_map suc (name_size rest)

abbrev pub behind_name : List ℕ → Option ℕ → Result ℕ Refusal
behind_name bytes (Some size) = Ok (10 + size)
behind_name bytes None = refused reason.Cut (length bytes)

-- ten bytes, of which the third is the method deflate, the fourth the flags, and the others tell when, how and where it was packed; and a name, where
-- the flags say so. So many bytes the header has
unfoldable pub gzip_header : List ℕ → Result ℕ Refusal
gzip_header bytes =
    if nat_lt (length bytes) 10 then refused reason.Cut (length bytes)
    else (if begins_as_gzip bytes && slice_index bytes 2 == 8
    then (if slice_index bytes 3 == 0 then Ok 10 else (if slice_index bytes 3 == 8 then behind_name bytes (name_size (drop 10 bytes)) else refused reason.Flags 3))
    else refused reason.Header 0)

-- ---- zlib

-- CMF has the method deflate and a window of 32 KiB. FLG has no dictionary, and both together as one number are divided by 31 (FCHECK)
abbrev pub are_zlib : ℕ → ℕ → Bool
are_zlib cmf flg = cmf == 120 && ((flg / 32) % 2 == 0 && (cmf * 256 + flg) % 31 == 0)

abbrev pub begins_as_zlib : List ℕ → Bool
begins_as_zlib bytes = are_zlib (get_or bytes 0 0) (get_or bytes 1 0)

unfoldable pub zlib_header : List ℕ → Result ℕ Refusal
zlib_header bytes = if nat_lt (length bytes) 2 then refused reason.Cut (length bytes) else (if begins_as_zlib bytes then Ok 2 else refused reason.Header 0)

-- a header of zlib with a window of any size, as a writer may choose
abbrev pub tells_zlib : ℕ → ℕ → Bool
tells_zlib cmf flg = nat_lt cmf 128 && (cmf % 16 == 8 && ((flg / 32) % 2 == 0 && (cmf * 256 + flg) % 31 == 0))

-- each bit of a byte is turned in the second byte behind it
abbrev pub are_turned : List ℕ → ℕ → Bool
are_turned bytes place = get_or bytes place 0 + get_or bytes (place + 2) 0 == 255

-- the first block behind a header, by its kind: a stored one tells its length, and the same with each bit turned, and one of the four kinds is
-- reserved (RFC 1951 sections 3.2.3 and 3.2.4)
abbrev pub begins_block : ℕ → List ℕ → Bool
begins_block kind bytes = if kind == 0 then are_turned bytes 3 && are_turned bytes 4 else nat_lt kind 3

-- a reader of zlib may unpack something of these bytes
abbrev pub may_be_zlib : List ℕ → Bool
may_be_zlib bytes = tells_zlib (get_or bytes 0 0) (get_or bytes 1 0) && begins_block ((get_or bytes 2 0 / 2) % 4) bytes

-- ---- both

-- how many bytes the header has
abbrev pub header_of : Packing → List ℕ → Result ℕ Refusal
header_of packing.Gzip bytes = gzip_header bytes
header_of packing.Zlib bytes = zlib_header bytes

-- what bytes begin as
abbrev pub packing_of : List ℕ → Option Packing
packing_of bytes = if begins_as_gzip bytes then Some packing.Gzip else (if begins_as_zlib bytes then Some packing.Zlib else None)
