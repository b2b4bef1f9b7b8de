-- Which tar archives pass a list.
-- Source: own. Readers of tar archives go from header to header (Lib/tarfile.py, `TarFile.next`).
use Rattle.std.specs.Prelude.{◌≡◌, ◌⊎◌, ◌≤◌, ℕ, true, List, [], ◌∷◌, ◌++◌, length, All, ⊤, Some, Ok}
use Rattle.pickle_doc.specs.Document.{AreBytes, size_limit}
use Rattle.pickle_allow.specs.declared.list.Entry.{Entry as Allowed}
use Rattle.pickle_reach.specs.declared.answer.Reach.TheVariants as answer
use Rattle.pickle_reach.specs.Reach.{IsReach}
use Rattle.npy_form.specs.Npy.{behind_header}
use Rattle.tar_archive.specs.declared.member.Member.{Member}
use Rattle.tar_archive.specs.Field.{text}
use Rattle.tar_archive.specs.Tar.{read_tar}
use Rattle.tar_archive.specs.Tarfile.{Found, tarfile_reads}
use Rattle.tar_archive.specs.Names.{are_clear}
use Rattle.archive_gate.specs.declared.fault.Failing.{Failing}
use Rattle.archive_gate.specs.Members.{alone, with_ids, BytesPass, BytesFail}
use Rattle.archive_gate.specs.Itself.{is_no_other, GivesNothingItself}

-- ---- the members

-- what is in each passes
abbrev pub AllHeldPass : List Allowed → List ℕ → List Member → Type 0
AllHeldPass list bytes [] = ⊤
AllHeldPass list bytes (m ∷ ms) = BytesPass list (text bytes m.content) × AllHeldPass list bytes ms

-- the first that does not
pub record IsFailingIn (list : List Allowed) (bytes : List ℕ) (ms : List Member) (f : Failing) : Type 0 where
  pub before : List Member
  pub member : Member
  pub after : List Member
  pub is : ms ≡ before ++ member ∷ after
  pub place : f.place ≡ length before
  pub passed : AllHeldPass list bytes before
  pub small : AreBytes (text bytes member.content)
  pub fail : BytesFail list (text bytes member.content) f.fault

-- ---- the archive

-- it is in form, each name means a file of its own, and what is in each member passes. No reader of another kind of file takes it for one by how it
-- begins, and no loader reaches anything that takes the archive itself for a pickle, and was given nothing else
pub record PassesAsTar (list : List Allowed) (bytes : List ℕ) : Type 0 where
  pub members : List Member
  pub archive : read_tar bytes ≡ Ok members
  pub clear : are_clear bytes members ≡ true
  pub held : AllHeldPass list bytes members
  pub other : is_no_other bytes ≡ true
  pub nothing : GivesNothingItself bytes

-- ---- laws

-- what is in each member passes that `tarfile` finds
abbrev pub ByHeaderPasses : Type 0
ByHeaderPasses = (list : List Allowed) (bytes : List ℕ) (found : List Found) → PassesAsTar list bytes → tarfile_reads bytes ≡ Some found
    → All (λ (f : Found). BytesPass list f.content) found

-- there are too many ways to read bytes, or what is behind their header
abbrev pub HasWays : List ℕ → Type 0
HasWays held = IsReach with_ids held answer.TooMany ⊎ IsReach with_ids (behind_header held) answer.TooMany

-- of what is in a member
pub record HasWaysInTar (bytes : List ℕ) : Type 0 where
  pub members : List Member
  pub archive : read_tar bytes ≡ Ok members
  pub before : List Member
  pub member : Member
  pub after : List Member
  pub is : members ≡ before ++ member ∷ after
  pub ways : HasWays (text bytes member.content)

-- or of the archive itself
abbrev pub HasTarWays : List ℕ → Type 0
HasTarWays bytes = HasWaysInTar bytes ⊎ IsReach alone bytes answer.TooMany

-- in an archive that passes no member fails, unless there are too many ways to read one
abbrev pub NoneFailsInTar : Type 0
NoneFailsInTar = (list : List Allowed) (bytes : List ℕ) (ms : List Member) (f : Failing) → length bytes ≤ size_limit → PassesAsTar list bytes → read_tar bytes ≡ Ok ms
    → IsFailingIn list bytes ms f → HasWaysInTar bytes
