-- What files begin as. Pickles are what begins as nothing else, and of which no reader of zlib unpacks anything.
-- A tar archive is what its readers take for one by the first block, whatever its first bytes are.
-- Source: own. How a zip archive begins: APPNOTE 6.3.10, 4.3.7 (local file header) and 4.3.16 (end record).
use Rattle.std.specs.Prelude.{ℕ, ◌||◌, eqb, if◌then◌else◌, Bool, List, [], ◌∷◌, Option, Some, None}
use Rattle.std.specs.List.{starts_with}
use Rattle.packed_stream.specs.declared.reason.Packing.{Packing}
use Rattle.packed_stream.specs.declared.reason.Packing.TheVariants as packing
use Rattle.packed_stream.specs.Header.{packing_of, may_be_zlib}
use Rattle.npy_form.specs.Npy.{begins_as_array}
use Rattle.tar_archive.specs.Begins.{begins_as_tar}
use Rattle.archive_gate.specs.declared.kind.Kind.{Kind}
use Rattle.archive_gate.specs.declared.kind.Kind.TheVariants as kind

-- the header of a member is at the front, or the end of an archive without members
abbrev pub begins_as_archive : List ℕ → Bool
begins_as_archive bytes = starts_with eqb bytes (80 ∷ 75 ∷ 3 ∷ 4 ∷ []) || starts_with eqb bytes (80 ∷ 75 ∷ 5 ∷ 6 ∷ [])

abbrev pub kind_by : List ℕ → Option Packing → Kind
kind_by bytes (Some p) = kind.Packed p
kind_by bytes None = if begins_as_array bytes then kind.Array else (if may_be_zlib bytes then kind.Packed packing.Zlib else kind.Pickle)

abbrev pub kind_but_tar : List ℕ → Kind
kind_but_tar bytes = if begins_as_archive bytes then kind.Archive else kind_by bytes (packing_of bytes)

abbrev pub kind_of : List ℕ → Kind
kind_of bytes = if begins_as_tar bytes then kind.Tar else kind_but_tar bytes

-- it has members that are files themselves
abbrev pub holds_members : List ℕ → Bool
holds_members bytes = begins_as_archive bytes || begins_as_tar bytes
