-- What the status 0 of the gate means for CPython's unpicklers.
-- Source: own.
use Rattle.std.specs.Prelude.{◌≡◌, ◌⊎◌, ◌≤◌, ℕ, ◌-◌, true, false, List, [], length, All, Contains, ⊤, Some, Ok}
use Rattle.pickle_doc.specs.Document.{AreBytes, size_limit}
use Rattle.pickle_text.specs.Output.{Output}
use Rattle.pickle_further.specs.declared.way.Pickles.TheVariants as pickles
use Rattle.pickle_further.specs.Parts.{ignoring, buffering}
use Rattle.pickle_loader.specs.Environment.{World}
use Rattle.pickle_loader.specs.Dispatch.{acts_of}
use Rattle.pickle_loader.specs.Bytes.{load_bytes}
use Rattle.pickle_loader.specs.CLoad.{seen_loaded, c_load_way}
use Rattle.pickle_loader.specs.ShownFile.{c_load_file}
use Rattle.pickle_allow.specs.declared.list.Entry.{Entry}
use Rattle.pickle_allow.specs.declared.listing.Listing.{Listing}
use Rattle.pickle_allow.specs.declared.listing.Listing.TheVariants as listing
use Rattle.pickle_allow.specs.Grammar.{IsListing}
use Rattle.pickle_reach.specs.Reach.{first_spot, NothingFrom}
use Rattle.zip_archive.specs.Archive.{Counts}
use Rattle.zip_archive.specs.Reader.{Member, by_directory, told_by_locator, told_before}
use Rattle.zip_open.specs.Opened.{IsReadAs}
use Rattle.tar_archive.specs.Tarfile.{Found, tarfile_reads}
use Rattle.packed_stream.specs.declared.reason.Packing.{Packing}
use Rattle.packed_stream.specs.Reader.{ReadsOn}
use Rattle.npy_form.specs.declared.array.Held.TheVariants as held
use Rattle.npy_form.specs.Npy.{begins_as_array, behind_header, read_array}
use Rattle.archive_gate.specs.declared.kind.Kind.{Kind}
use Rattle.archive_gate.specs.declared.kind.Kind.TheVariants as kind
use Rattle.archive_gate.specs.Kind.{kind_of}
use Rattle.archive_gate.specs.Members.{alone, GivesNothing}
use Rattle.archive_gate.specs.Itself.{GivesNothingItself}
use Rattle.archive_gate.specs.File.{ReachesNothing}
use Rattle.archive_script.specs.GateText.{IsGateText}
use Rattle.gate_laws.specs.Permitted.{permits_all}

-- a list permits all that the unpicklers do with these bytes, in any environment and however long they run: the one in Python; and the one in C, from
-- bytes, from a stream, and from a file that shows bytes ahead, however many at each of its turns
pub record Permits (list : List Entry) (bytes : List ℕ) : Type 0 where
  pub in_python : (w : World) (n : ℕ) → permits_all list [] (acts_of (load_bytes w false bytes n).now) ≡ true
  pub in_c : (w : World) (n : ℕ) → permits_all list [] (acts_of (seen_loaded (c_load_way w (ignoring pickles.First) bytes n).now)) ≡ true
  pub in_a_stream : (w : World) (n : ℕ) → permits_all list [] (acts_of (seen_loaded (c_load_way w (buffering pickles.First) bytes n).now)) ≡ true
  pub in_a_file : (w : World) (shows : ℕ → ℕ) (n : ℕ) → permits_all list [] (acts_of (seen_loaded (c_load_file w shows pickles.First bytes n).now)) ≡ true

-- or no loader reaches anything in them
abbrev pub PermitsGiven : List Entry → List ℕ → Type 0
PermitsGiven list bytes = Permits list bytes ⊎ GivesNothing bytes

-- ---- arrays

-- an array that numpy takes for numbers, and where it takes what is behind the header for a pickle, that is permitted
abbrev pub PermitsHeld : (List ℕ → Type 0) → List ℕ → Type 0
PermitsHeld Permitted bytes = (read_array bytes ≡ Ok held.Numbers) ⊎ ((read_array bytes ≡ Ok held.Pickle) × Permitted (behind_header bytes))

-- and the bytes reach nothing themselves, whatever a loader was given
pub record PermitsArray (list : List Entry) (bytes : List ℕ) : Type 0 where
  pub held : PermitsHeld (Permits list) bytes
  pub itself : ReachesNothing bytes

-- ---- tar archives

-- what is read of a member, as a whole, and as an array
pub record PermitsRead (list : List Entry) (read : List ℕ) : Type 0 where
  pub whole : PermitsGiven list read
  pub array : begins_as_array read ≡ true → PermitsHeld (PermitsGiven list) read

-- of each member that the reader of `tarfile` finds; and no loader reaches anything in the archive itself that was given nothing else
pub record PermitsTar (list : List Entry) (bytes : List ℕ) : Type 0 where
  pub by_header : (found : List Found) → tarfile_reads bytes ≡ Some found → All (λ (f : Found). PermitsRead list f.content) found
  pub itself : GivesNothingItself bytes

-- ---- packed files

-- what they open to is a tar archive, an array or a pickle
abbrev pub PermitsSingle : List Entry → List ℕ → Kind → Type 0
PermitsSingle list bytes kind.Tar = PermitsTar list bytes
PermitsSingle list bytes kind.Archive = ⊥
PermitsSingle list bytes (kind.Packed p) = ⊥
PermitsSingle list bytes kind.Array = PermitsArray list bytes
PermitsSingle list bytes kind.Pickle = Permits list bytes

-- whatever a reader unpacks that goes on behind a stream and compares nothing; and nothing is reached in the file itself
pub record PermitsPacked (list : List Entry) (bytes : List ℕ) : Type 0 where
  pub inside : (p : Packing) (n : ℕ) (read : List ℕ) → ReadsOn n p bytes read → PermitsSingle list read (kind_of read)
  pub itself : ReachesNothing bytes

-- ---- zip archives

-- of each member that a reader by the directory finds, and of whatever it reads there
abbrev pub PermitsMembers : (List ℕ → ℕ → Counts) → List Entry → List ℕ → Type 0
PermitsMembers told list bytes = (m : Member) (read : List ℕ) → Contains (by_directory told bytes (length bytes - 22)) m → IsReadAs m read → PermitsRead list read

-- by the places that the end of the archive tells, and by those that are counted from it; and nothing is reached in the archive itself
pub record PermitsArchive (list : List Entry) (bytes : List ℕ) : Type 0 where
  pub by_locator : PermitsMembers told_by_locator list bytes
  pub by_place : PermitsMembers told_before list bytes
  pub itself : NothingFrom alone bytes first_spot

-- ---- the law

-- in a file that is no tar archive the reader of `tarfile` finds no member
abbrev pub HasNoTar : List ℕ → Kind → Type 0
HasNoTar bytes kind.Tar = ⊤
HasNoTar bytes k = (found : List Found) → tarfile_reads bytes ≡ Some found → found ≡ []

-- of what a file begins as
abbrev pub PermitsAs : List Entry → List ℕ → Kind → Type 0
PermitsAs list bytes kind.Tar = PermitsTar list bytes
PermitsAs list bytes kind.Archive = PermitsArchive list bytes
PermitsAs list bytes (kind.Packed p) = PermitsPacked list bytes
PermitsAs list bytes kind.Array = PermitsArray list bytes
PermitsAs list bytes kind.Pickle = Permits list bytes

pub record PermitsFile (list : List Entry) (bytes : List ℕ) : Type 0 where
  pub as_it_begins : PermitsAs list bytes (kind_of bytes)
  pub no_tar : HasNoTar bytes (kind_of bytes)

-- by what a text of a list is read as
abbrev pub PermitsListed : Listing → List ℕ → Type 0
PermitsListed (listing.Entries list) bytes = PermitsFile list.items bytes
PermitsListed (listing.Wrong n) bytes = ⊥

-- where the gate ends with status 0, its list permits all that the unpicklers do with the file
abbrev pub StatusZeroPermits : Type 0
StatusZeroPermits = (list bytes : List ℕ) (o : Output) → AreBytes bytes → length bytes ≤ size_limit → IsGateText list bytes o → o.status ≡ 0
    → (l : Listing) × IsListing list l × PermitsListed l bytes
