-- Which files pass a list: a pickle, an array, an archive of members that pass, or a packed file with one of these that is no zip archive.
-- Source: own.
use Rattle.std.specs.Prelude.{◌≡◌, ◌⊎◌, ◌≤◌, ℕ, true, List, ◌∷◌, ◌++◌, length, Some, Ok}
use Rattle.pickle_doc.specs.Document.{size_limit}
use Rattle.pickle_allow.specs.declared.list.Entry.{Entry as Allowed}
use Rattle.pickle_gate.specs.Gate.{Passes}
use Rattle.pickle_reach.specs.declared.granted.Granted.{Granted}
use Rattle.pickle_reach.specs.Reach.{first_spot, NothingFrom}
use Rattle.zip_archive.specs.Entry.{Entry}
use Rattle.zip_archive.specs.Archive.{IsZip}
use Rattle.zip_archive.specs.Reader.{member_of}
use Rattle.archive_gate.specs.declared.fault.Failing.{Failing}
use Rattle.zip_open.specs.Opened.{OpensTo}
use Rattle.packed_stream.specs.declared.reason.Packing.{Packing}
use Rattle.packed_stream.specs.Header.{packing_of}
use Rattle.packed_stream.specs.Packed.{IsPacked}
use Rattle.npy_form.specs.declared.array.Held.TheVariants as held
use Rattle.npy_form.specs.Npy.{begins_as_array, behind_header, read_array}
use Rattle.archive_gate.specs.declared.kind.Kind.{Kind}
use Rattle.archive_gate.specs.declared.kind.Kind.TheVariants as kind
use Rattle.archive_gate.specs.Kind.{begins_as_archive, kind_of}
use Rattle.archive_gate.specs.Members.{alone, IsFailing, PassesArchive}
use Rattle.archive_gate.specs.Tar.{PassesAsTar, HasWays, HasTarWays}

-- ---- each kind

-- each member passes; and no loader reaches anything that takes the archive itself for a pickle, and was given nothing else
pub record PassesAsArchive (list : List Allowed) (bytes : List ℕ) : Type 0 where
  pub members : PassesArchive list bytes
  pub nothing : NothingFrom alone bytes first_spot

-- the bytes reach nothing, whatever a loader was given that takes them themselves for a pickle
abbrev pub ReachesNothing : List ℕ → Type 0
ReachesNothing bytes = (g : Granted) → NothingFrom g bytes first_spot

-- an array in the form in which numpy writes: it has numbers, or a pickle that passes
abbrev pub HeldPasses : List Allowed → List ℕ → Type 0
HeldPasses list bytes = (read_array bytes ≡ Ok held.Numbers) ⊎ ((read_array bytes ≡ Ok held.Pickle) × Passes list (behind_header bytes))

pub record PassesAsArray (list : List Allowed) (bytes : List ℕ) : Type 0 where
  pub held : HeldPasses list bytes
  pub nothing : ReachesNothing bytes

-- what a packed file opens to is a tar archive, an array or a pickle, and passes
abbrev pub PassesInside : List Allowed → List ℕ → Kind → Type 0
PassesInside list bytes kind.Tar = PassesAsTar list bytes
PassesInside list bytes kind.Archive = ⊥
PassesInside list bytes (kind.Packed p) = ⊥
PassesInside list bytes kind.Array = PassesAsArray list bytes
PassesInside list bytes kind.Pickle = Passes list bytes

-- it is no more bytes than a file may have
pub record PassesAsPacked (list : List Allowed) (bytes : List ℕ) (p : Packing) : Type 0 where
  pub content : List ℕ
  pub opens : IsPacked p bytes content
  pub few : length content ≤ size_limit
  pub inside : PassesInside list content (kind_of content)
  pub nothing : ReachesNothing bytes

-- ---- a file

abbrev pub PassesAs : List Allowed → List ℕ → Kind → Type 0
PassesAs list bytes kind.Tar = PassesAsTar list bytes
PassesAs list bytes kind.Archive = PassesAsArchive list bytes
PassesAs list bytes (kind.Packed p) = PassesAsPacked list bytes p
PassesAs list bytes kind.Array = PassesAsArray list bytes
PassesAs list bytes kind.Pickle = Passes list bytes

-- each file passes as what it begins as
abbrev pub PassesFile : List Allowed → List ℕ → Type 0
PassesFile list bytes = PassesAs list bytes (kind_of bytes)

-- ---- laws

-- bytes that begin so give nothing to a loader that takes them for a pickle: their first opcode is PERSID
abbrev pub NothingInArchives : Type 0
NothingInArchives = (bytes : List ℕ) → begins_as_archive bytes ≡ true → NothingFrom alone bytes first_spot

-- nor do those of a packed file, and of an array, whatever it was given: their first byte is no opcode, or STACK_GLOBAL without two texts
abbrev pub NothingInPacked : Type 0
NothingInPacked = (bytes : List ℕ) (p : Packing) → packing_of bytes ≡ Some p → ReachesNothing bytes

abbrev pub NothingInArrays : Type 0
NothingInArrays = (bytes : List ℕ) → begins_as_array bytes ≡ true → ReachesNothing bytes

-- of what a member opens to, or of what is behind its header, it is not known whether a loader reaches something: there are too many ways to read it
pub record HasWaysInZip (bytes : List ℕ) : Type 0 where
  pub entries : List Entry
  pub archive : IsZip bytes entries
  pub before : List Entry
  pub entry : Entry
  pub after : List Entry
  pub is : entries ≡ before ++ entry ∷ after
  pub held : List ℕ
  pub opens : OpensTo (member_of entry) held
  pub ways : HasWays held

-- or of what is in a member of a tar archive, or of this itself, which may be packed
pub record HasWaysInside (bytes : List ℕ) : Type 0 where
  pub packing : Packing
  pub content : List ℕ
  pub opens : IsPacked packing bytes content
  pub ways : HasTarWays content

abbrev pub HasTooManyWays : List ℕ → Type 0
HasTooManyWays bytes = HasWaysInZip bytes ⊎ (HasTarWays bytes ⊎ HasWaysInside bytes)

-- in a zip archive that passes no member fails, unless there are too many ways to read one
abbrev pub NoneFails : Type 0
NoneFails = (list : List Allowed) (bytes : List ℕ) (es : List Entry) (f : Failing) → length bytes ≤ size_limit → PassesArchive list bytes → IsZip bytes es
    → IsFailing list es f → HasWaysInZip bytes
