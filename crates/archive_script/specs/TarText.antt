-- What is said of a tar archive.
-- Source: own.
use Rattle.std.specs.Prelude.{◌≡◌, ◌⊎◌, ℕ, ◌-◌, true, false, List, codes, decimal, Result, Ok, Err, ⊤}
use Rattle.pickle_io.specs.Text.{◌⧺◌, quoted}
use Rattle.pickle_io.specs.Device.{each}
use Rattle.pickle_doc.specs.Document.{Contents, ReadsAs}
use Rattle.pickle_text.specs.Column.{newline}
use Rattle.pickle_text.specs.Output.{Output}
use Rattle.pickle_allow.specs.declared.list.Entry.{Entry as Allowed}
use Rattle.pickle_script.specs.GateText.{line_for}
use Rattle.npy_form.specs.Npy.{behind_header}
use Rattle.tar_archive.specs.declared.reason.Reason.{Reason}
use Rattle.tar_archive.specs.declared.reason.Reason.TheVariants as reason
use Rattle.tar_archive.specs.declared.reason.Refusal.{Refusal}
use Rattle.tar_archive.specs.declared.member.Member.{Member}
use Rattle.tar_archive.specs.Field.{text}
use Rattle.tar_archive.specs.Tar.{read_tar}
use Rattle.tar_archive.specs.Names.{are_clear}
use Rattle.archive_gate.specs.declared.fault.Fault.{Fault}
use Rattle.archive_gate.specs.declared.fault.Fault.TheVariants as fault
use Rattle.archive_gate.specs.declared.fault.ArrayFault.TheVariants as array_fault
use Rattle.archive_gate.specs.declared.fault.Failing.{Failing}
use Rattle.archive_gate.specs.Itself.{is_no_other, GivesNothingItself, MayGive}
use Rattle.archive_gate.specs.Tar.{AllHeldPass, IsFailingIn}
use Rattle.archive_script.specs.FaultText.{passing_output, refusal_words, fault_output}

-- ---- an archive that is not in form

unfoldable pub tar_sentence : Reason → List ℕ
tar_sentence reason.Cut = codes "a header or a content that is cut"
tar_sentence reason.Checksum = codes "a header with another checksum than it tells"
tar_sentence reason.Magic = codes "a header of another kind of archive"
tar_sentence reason.Number = codes "a number in a header that is not in octal digits"
tar_sentence reason.Link = codes "a header that names a link"
tar_sentence reason.Device = codes "a header that names a device"
tar_sentence reason.Prefix = codes "a header whose last part is not empty"
tar_sentence reason.Kind = codes "a member that is neither a file nor a directory"
tar_sentence reason.Record = codes "a record that writers of pax headers do not write"
tar_sentence reason.Key = codes "a record that may tell more than a name, times and owners"
tar_sentence reason.Name = codes "a name that is not plain"
tar_sentence reason.Directory = codes "a directory with content or with the name of a file"
tar_sentence reason.Padding = codes "a content whose last block is not filled with zeros"
tar_sentence reason.End = codes "an end that is not filled with zeros as writers fill it"

unfoldable pub tar_line : Refusal → List ℕ
tar_line r = refusal_words ⧺ decimal r.offset ⧺ codes ": " ⧺ tar_sentence r.why ⧺ newline

abbrev pub no_tar_output : Refusal → Output
no_tar_output r = record { text = tar_line r; status = 1 }

-- ---- an archive in form

unfoldable pub unclear_words : List ℕ
unclear_words = codes "two names for one file, or a name with an empty part, . or ..: it is not looked at\n"

abbrev pub unclear_output : Output
unclear_output = record { text = unclear_words; status = 1 }

unfoldable pub two_kinds_words : List ℕ
two_kinds_words = codes "a loader may take the archive itself for something else: it is not looked at\n"

abbrev pub two_kinds_output : Output
two_kinds_output = record { text = two_kinds_words; status = 1 }

-- this is the line of `calls` for the item of bytes that is not allowed
abbrev pub IsLineOf : List ℕ → Fault → List ℕ → Type 0
IsLineOf bytes (fault.Broken b) line = ⊤
IsLineOf bytes fault.Archive line = ⊤
IsLineOf bytes (fault.Refused v) line = (d : Contents) → ReadsAs false bytes d → line ≡ line_for d v
IsLineOf bytes (fault.Array (array_fault.Form r)) line = ⊤
IsLineOf bytes (fault.Array (array_fault.Refused v)) line = (d : Contents) → ReadsAs false (behind_header bytes) d → line ≡ line_for d v

-- of a member that does not pass
pub record IsMemberText (bytes : List ℕ) (m : Member) (f : Fault) (o : Output) : Type 0 where
  pub line : List ℕ
  pub line_is : IsLineOf (text bytes m.content) f line
  pub text_is : o ≡ fault_output (text bytes m.name) line f

-- of the first one
pub record IsFailingInText (list : List Allowed) (bytes : List ℕ) (ms : List Member) (o : Output) : Type 0 where
  pub failing : Failing
  pub is : IsFailingIn list bytes ms failing
  pub said : IsMemberText bytes is.member failing.fault o

-- each member passes, or one does not
abbrev pub IsTarVerdict : List Allowed → List ℕ → List Member → Output → Type 0
IsTarVerdict list bytes ms o = (AllHeldPass list bytes ms × (o ≡ passing_output)) ⊎ IsFailingInText list bytes ms o

-- what is in the members is looked at
pub record IsLookedInText (list : List Allowed) (bytes : List ℕ) (ms : List Member) (o : Output) : Type 0 where
  pub clear : are_clear bytes ms ≡ true
  pub other : is_no_other bytes ≡ true
  pub nothing : GivesNothingItself bytes
  pub verdict : IsTarVerdict list bytes ms o

-- or it is not: first for the names, then for what else the archive may be
pub record IsTwoKindsText (bytes : List ℕ) (ms : List Member) (o : Output) : Type 0 where
  pub clear : are_clear bytes ms ≡ true
  pub kinds : (is_no_other bytes ≡ false) ⊎ MayGive bytes
  pub said : o ≡ two_kinds_output

abbrev pub IsTarMembersText : List Allowed → List ℕ → List Member → Output → Type 0
IsTarMembersText list bytes ms o = ((are_clear bytes ms ≡ false) × (o ≡ unclear_output)) ⊎ (IsTwoKindsText bytes ms o ⊎ IsLookedInText list bytes ms o)

-- by what is read
abbrev pub IsTarBy : List Allowed → List ℕ → Result (List Member) Refusal → Output → Type 0
IsTarBy list bytes (Ok ms) o = IsTarMembersText list bytes ms o
IsTarBy list bytes (Err r) o = o ≡ no_tar_output r

abbrev pub IsTarText : List Allowed → List ℕ → Output → Type 0
IsTarText list bytes o = IsTarBy list bytes (read_tar bytes) o

-- ---- its members

-- where the content of a member begins, how many bytes it is, and its name
unfoldable pub tar_member_line : List ℕ → Member → List ℕ
tar_member_line bytes m = decimal m.content.start ⧺ codes ": " ⧺ decimal (m.content.end - m.content.start) ⧺ codes " stored " ⧺ quoted (text bytes m.name) ⧺ newline

abbrev pub IsTarListedBy : List ℕ → Result (List Member) Refusal → Output → Type 0
IsTarListedBy bytes (Ok ms) o = o ≡ record { text = each (tar_member_line bytes) ms; status = 0 }
IsTarListedBy bytes (Err r) o = o ≡ no_tar_output r

abbrev pub IsTarMembers : List ℕ → Output → Type 0
IsTarMembers bytes o = IsTarListedBy bytes (read_tar bytes) o
