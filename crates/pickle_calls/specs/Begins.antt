-- What bytes begin like that hold pickles inside. They are no pickle, and `picklestep scan` looks into them.
-- Source: own; the bytes are those of zip archives (APPNOTE 4.3.7, 4.3.16 and 8.5.4), gzip (RFC 1952), `.npy` (NEP 1), HDF5 (its
-- format's superblock), bzip2, xz (2.1.1.1 of its format), zstd (RFC 8878), tar (POSIX ustar), SQLite (1.3 of its format), lzma (its classic
-- header), zlib (RFC 1950), joblib before 0.10 (its `_ZFILE_PREFIX`), Berkeley DB's hashes and GNU dbm (their headers, in the order of the
-- bytes on x86-64).
use Rattle.std.specs.Prelude.{ℕ, ◌&&◌, if◌then◌else◌, Bool, List, [], ◌∷◌, length, drop, nat_eq, nat_le, codes, Option, Some, None}
use Rattle.std.specs.List.{starts_with}
use Rattle.std.specs.Option.{option_map_or}
use Rattle.pickle_io.specs.Text.{◌⧺◌}
use Rattle.pickle_text.specs.Column.{newline}
use Rattle.pickle_calls.specs.declared.begins.TheConstants.{CONTAINERS}

-- these bytes stand at this offset
abbrev pub is_like : ℕ → List ℕ → List ℕ → Bool
is_like offset magic bytes = nat_le offset (length bytes) && starts_with nat_eq (drop offset bytes) magic

-- by the first row that is so
abbrev pub begins_by : {R : Type 0} → (R → ℕ) → (R → List ℕ) → (R → List ℕ) → List R → List ℕ → Option (List ℕ)
begins_by offset magic name [] bytes = None
begins_by offset magic name (r ∷ rows) bytes = if is_like (offset r) (magic r) bytes then Some (name r) else begins_by offset magic name rows bytes

-- what such a file is called
unfoldable pub begins_like : List ℕ → Option (List ℕ)
begins_like bytes = begins_by (λ r. r.0) (λ r. r.1.now) (λ r. r.2.now) CONTAINERS bytes

unfoldable pub begins_words : List ℕ
begins_words = codes ": picklestep scan looks into it"

unfoldable pub begins_line : List ℕ → List ℕ
begins_line name = codes "begins like " ⧺ name ⧺ begins_words ⧺ newline

-- the line of bytes that begin so
abbrev pub begins_text : List ℕ → List ℕ
begins_text bytes = option_map_or begins_line (begins_like bytes) []
