-- What passes is permitted, and only what passes has the status 0.
use Rattle.std.proofs.Common.{ℕ, ◌-◌, Bool, true, false, List, length, get_or, inl, inr, ◌≡◌, refl, sym, ap, subst, ◌∙◌}
use Rattle.std.specs.Prelude.{All, if◌then◌else◌}
use Rattle.std.proofs.lemmas.List.Elements.{All-contains}
use Rattle.pickle_allow.specs.declared.list.Entry.{Entry}
use Rattle.pickle_allow.specs.declared.listing.Listing.{Listing}
use Rattle.pickle_allow.specs.declared.listing.Listing.TheVariants as listing
use Rattle.pickle_gate.specs.Gate.{Passes}
use Rattle.zip_archive.specs.Archive.{Counts}
use Rattle.zip_archive.specs.Reader.{by_directory, told_by_locator, told_before, ByDirectoryAgrees}
use Rattle.zip_archive.proofs.Told.{by_locator_agrees, by_place_agrees}
use Rattle.packed_stream.specs.declared.reason.Packing.{Packing}
use Rattle.packed_stream.proofs.Contents.{nothing_follows}
use Rattle.npy_form.specs.Npy.{behind_header}
use Rattle.archive_gate.specs.declared.kind.Kind.{Kind}
use Rattle.archive_gate.specs.declared.kind.Kind.TheVariants as kind
use Rattle.tar_archive.specs.Tarfile.{Found}
use Rattle.tar_archive.specs.Begins.{begins_as_tar}
use Rattle.tar_archive.proofs.Beginning.{no_tar_elsewhere}
use Rattle.archive_gate.specs.Kind.{kind_but_tar, kind_of}
use Rattle.archive_gate.specs.Members.{Gives, BytesPass, MemberPasses, PassesArchive}
use Rattle.archive_gate.specs.Tar.{PassesAsTar}
use Rattle.archive_gate.specs.File.{PassesAsArray, PassesInside, PassesAsPacked, PassesAs}
use Rattle.archive_gate.proofs.Tars.{by_header_passes}
use Rattle.archive_gate.proofs.Passing.{each_passes, read_passes}
use Rattle.archive_script.specs.GateText.{PassesListed}
use Rattle.archive_script.proofs.GateLaws.{zero_means_passing}
use Rattle.gate_laws.specs.Headline.{Permits, PermitsGiven, PermitsHeld, PermitsArray, PermitsRead, PermitsTar, PermitsSingle, PermitsPacked, PermitsMembers, HasNoTar, PermitsAs, PermitsListed, StatusZeroPermits}
use Rattle.gate_laws.proofs.Law.{only_what_is_allowed}
use Rattle.gate_laws.proofs.LawC.{only_what_is_allowed_in_c}
use Rattle.gate_laws.proofs.Files.{only_what_is_allowed_in_a_file}

permits : (list : List Entry) (bytes : List ℕ) → Passes list bytes → Permits list bytes
permits list bytes p = record {
  in_python = λ w n. only_what_is_allowed list bytes p w n;
  in_c = λ w n. (only_what_is_allowed_in_c list bytes p w n).0;
  in_a_stream = λ w n. (only_what_is_allowed_in_c list bytes p w n).1;
  in_a_file = λ w shows n. only_what_is_allowed_in_a_file list bytes p w shows n;
}

given : (list : List Entry) (bytes : List ℕ) → Gives list bytes → PermitsGiven list bytes
given list bytes (inl p) = inl (permits list bytes p)
given list bytes (inr nothing) = inr nothing

of_held : (P Q : List ℕ → Type 0) (bytes : List ℕ) → ((xs : List ℕ) → P xs → Q xs) → PermitsHeld P bytes → PermitsHeld Q bytes
of_held P Q bytes f (inl numbers) = inl numbers
of_held P Q bytes f (inr pickle) = inr (pickle.0, f (behind_header bytes) pickle.1)

of_read : (list : List Entry) (read : List ℕ) → BytesPass list read → PermitsRead list read
of_read list read p = record { whole = given list read p.gives; array = λ is. of_held (Gives list) (PermitsGiven list) read (given list) (p.array is) }

of_array : (list : List Entry) (bytes : List ℕ) → PassesAsArray list bytes → PermitsArray list bytes
of_array list bytes p = record { held = of_held (Passes list) (Permits list) bytes (permits list) p.held; itself = p.nothing }

all_read : (list : List Entry) (found : List Found) → All (λ (f : Found). BytesPass list f.content) found → All (λ (f : Found). PermitsRead list f.content) found
all_read list found a k d below = of_read list (get_or found k d).content (a k d below)

of_tar : (list : List Entry) (bytes : List ℕ) → PassesAsTar list bytes → PermitsTar list bytes
of_tar list bytes p = record { by_header = λ found reads. all_read list found (by_header_passes list bytes found p reads); itself = p.nothing }

of_inside : (list : List Entry) (bytes : List ℕ) (k : Kind) → PassesInside list bytes k → PermitsSingle list bytes k
of_inside list bytes kind.Tar p = of_tar list bytes p
of_inside list bytes kind.Archive p = p
of_inside list bytes (kind.Packed q) p = p
of_inside list bytes kind.Array p = of_array list bytes p
of_inside list bytes kind.Pickle p = permits list bytes p

of_packed : (list : List Entry) (bytes : List ℕ) (p : Packing) → PassesAsPacked list bytes p → PermitsPacked list bytes
of_packed list bytes p passes = record {
  inside = λ q n read r.
      let same : read ≡ passes.content = (nothing_follows n p q bytes passes.content read passes.opens r).1 in
      subst (λ (c : List ℕ). PermitsSingle list c (kind_of c)) (sym same) (of_inside list passes.content (kind_of passes.content) passes.inside);
  itself = passes.nothing;
}

of_members : (told : List ℕ → ℕ → Counts) (list : List Entry) (bytes : List ℕ) → ByDirectoryAgrees told → PassesArchive list bytes → PermitsMembers told list bytes
of_members told list bytes agrees p m read there is =
    let passes : MemberPasses list m = All-contains (MemberPasses list) (by_directory told bytes (length bytes - 22)) m (each_passes told agrees list bytes p) there in
    of_read list read (read_passes list m read passes is).pass

of_kind : (list : List Entry) (bytes : List ℕ) (k : Kind) → PassesAs list bytes k → PermitsAs list bytes k
of_kind list bytes kind.Tar p = of_tar list bytes p
of_kind list bytes kind.Archive p = record {
  by_locator = of_members told_by_locator list bytes by_locator_agrees p.members;
  by_place = of_members told_before list bytes by_place_agrees p.members;
  itself = p.nothing;
}
of_kind list bytes (kind.Packed q) p = of_packed list bytes q p
of_kind list bytes kind.Array p = of_array list bytes p
of_kind list bytes kind.Pickle p = permits list bytes p

abbrev is_tar : Kind → Bool
is_tar kind.Tar = true
is_tar kind.Archive = false
is_tar (kind.Packed p) = false
is_tar kind.Array = false
is_tar kind.Pickle = false

not_tar : (bytes : List ℕ) (k : Kind) → is_tar k ≡ false → kind_of bytes ≡ k → begins_as_tar bytes ≡ false
not_tar bytes k other is = go (begins_as_tar bytes) refl (ap is_tar is ∙ other)
  where
    go : (t : Bool) → begins_as_tar bytes ≡ t → is_tar (if t then kind.Tar else kind_but_tar bytes) ≡ false → begins_as_tar bytes ≡ false
    go true so h = absurd cc
    go false so h = so

none_of : (bytes : List ℕ) (k : Kind) → kind_of bytes ≡ k → HasNoTar bytes k
none_of bytes kind.Tar is = tt
none_of bytes kind.Archive is = λ found. no_tar_elsewhere bytes found (not_tar bytes kind.Archive refl is)
none_of bytes (kind.Packed p) is = λ found. no_tar_elsewhere bytes found (not_tar bytes (kind.Packed p) refl is)
none_of bytes kind.Array is = λ found. no_tar_elsewhere bytes found (not_tar bytes kind.Array refl is)
none_of bytes kind.Pickle is = λ found. no_tar_elsewhere bytes found (not_tar bytes kind.Pickle refl is)

of_listed : (l : Listing) (bytes : List ℕ) → PassesListed l bytes → PermitsListed l bytes
of_listed (listing.Entries list) bytes p = record { as_it_begins = of_kind list.items bytes (kind_of bytes) p; no_tar = none_of bytes (kind_of bytes) refl }
of_listed (listing.Wrong n) bytes p = p

pub status_zero_permits : StatusZeroPermits
status_zero_permits list bytes o small few said zero =
    let passes = zero_means_passing list bytes o small few said zero in
    (passes.0, passes.1, of_listed passes.0 bytes passes.2)
