-- The text of the members of a zip archive or of a tar archive, or of what a packed file opens to; or of why bytes are none in the form in which usual writers write.
-- Source: own.
use Rattle.std.specs.Prelude.{◌≡◌, ◌≢◌, ◌⊎◌, ◌≤◌, ℕ, ◌+◌, ◌-◌, ◌==◌, if◌then◌else◌, Bool, true, false, List, codes, decimal, length, Option, Some, None, Result, Err, IfOk, IfErr}
use Rattle.pickle_io.specs.Text.{◌⧺◌, quoted}
use Rattle.pickle_io.specs.Device.{Told, each}
use Rattle.pickle_text.specs.Column.{newline}
use Rattle.pickle_text.specs.Output.{Output}
use Rattle.zip_archive.specs.declared.reason.Refusal.{Refusal}
use Rattle.zip_archive.specs.Sentence.{sentence_of}
use Rattle.zip_archive.specs.Entry.{Entry, data_place}
use Rattle.zip_archive.specs.Reader.{member_of}
use Rattle.zip_archive.specs.Archive.{IsZip, NoZip}
use Rattle.zip_archive.specs.Refused.{IsRefused}
use Rattle.pickle_script.specs.GateText.{WroteText, StopsGate}
use Rattle.pickle_doc.specs.Document.{size_limit}
use Rattle.packed_stream.specs.declared.reason.Packing.{Packing}
use Rattle.packed_stream.specs.declared.reason.Refusal.{Refusal as PackedRefusal}
use Rattle.packed_stream.specs.Header.{packing_of}
use Rattle.packed_stream.specs.Packed.{end_size, IsPacked, opened}
use Rattle.archive_script.specs.FaultText.{refusal_words}
use Rattle.tar_archive.specs.Begins.{begins_as_tar}
use Rattle.archive_script.specs.TarText.{IsTarMembers}
use Rattle.archive_script.specs.SingleText.{packing_word, no_packed_output}
use Rattle.pickle_script.specs.declared.stop.Stop.{Stop}
use Rattle.pickle_script.specs.declared.stop.Stop.TheVariants as stop

-- how a member is packed, and where it is, to how many bytes
unfoldable pub deflated_text : ℕ → List ℕ
deflated_text packed = codes " deflated to " ⧺ decimal packed ⧺ codes " "

abbrev pub packed_text : Entry → List ℕ
packed_text e = if (member_of e).method == 8 then deflated_text (length e.content) else codes " stored "

-- where its data begin, how many bytes they are once unpacked, and its name
unfoldable pub member_line : Entry → List ℕ
member_line e = decimal (data_place e) ⧺ codes ": " ⧺ decimal (member_of e).size ⧺ packed_text e ⧺ quoted e.name ⧺ newline

unfoldable pub refusal_line : Refusal → List ℕ
refusal_line r = refusal_words ⧺ decimal r.offset ⧺ codes ": " ⧺ sentence_of r.why ⧺ newline

abbrev pub members_output : List Entry → Output
members_output es = record { text = each member_line es; status = 0 }

abbrev pub refusal_output : Refusal → Output
refusal_output r = record { text = refusal_line r; status = 1 }

-- the bytes are an archive in that form with these members
pub record IsListed (bytes : List ℕ) (o : Output) : Type 0 where
  pub members : List Entry
  pub archive : IsZip bytes members
  pub text : o ≡ members_output members

-- or no list of members makes them one, and this is the first rule that they break
pub record IsUnlisted (bytes : List ℕ) (o : Output) : Type 0 where
  pub refusal : Refusal
  pub none : NoZip bytes
  pub broken : IsRefused bytes refusal
  pub text : o ≡ refusal_output refusal

abbrev pub IsArchiveMembers : List ℕ → Output → Type 0
IsArchiveMembers bytes o = IsListed bytes o ⊎ IsUnlisted bytes o

-- ---- a packed file

-- where the stream begins, how many bytes it stands for and takes, and the address of what it stands for
unfoldable pub packed_member_line : Packing → ℕ → ℕ → ℕ → List ℕ
packed_member_line p start size packed = decimal start ⧺ codes ": " ⧺ decimal size ⧺ deflated_text packed ⧺ quoted (packing_word p) ⧺ newline

abbrev pub packed_output : Packing → ℕ → ℕ → ℕ → Output
packed_output p start size packed = record { text = packed_member_line p start size packed; status = 0 }

-- the bytes open to no more bytes than a file may have
pub record IsPackedListed (p : Packing) (bytes : List ℕ) (o : Output) : Type 0 where
  pub content : List ℕ
  pub opens : IsPacked p bytes content
  pub few : length content ≤ size_limit
  pub text : o ≡ packed_output p opens.start (length content) (length bytes - (opens.start + end_size p))

-- or this is why they do not
abbrev pub IsPackedMembers : Packing → List ℕ → Output → Type 0
IsPackedMembers p bytes o = ((r : PackedRefusal) × (opened size_limit p bytes ≡ Err r) × (o ≡ no_packed_output r)) ⊎ IsPackedListed p bytes o

-- ---- a file

abbrev pub IsMembersBy : Option Packing → List ℕ → Output → Type 0
IsMembersBy (Some p) bytes o = IsPackedMembers p bytes o
IsMembersBy None bytes o = IsArchiveMembers bytes o

-- of what begins as a tar archive or as a packed file, and of other bytes as of a zip archive
abbrev pub IsMembersAs : Bool → List ℕ → Output → Type 0
IsMembersAs true bytes o = IsTarMembers bytes o
IsMembersAs false bytes o = IsMembersBy (packing_of bytes) bytes o

abbrev pub IsMembersText : List ℕ → Output → Type 0
IsMembersText bytes o = IsMembersAs (begins_as_tar bytes) bytes o

-- what is answered where the text was to be written to a sink, of which `told` says what it reports
pub record AnswersMembers (bytes : List ℕ) {S : Type 0} (told : S → Told) (old new : S) (answer : Result ℕ Stop) : Type 0 where
  pub whole : IfOk answer (WroteText (IsMembersText bytes) (told old) (told new))
  pub stopped : IfErr answer (StopsGate (IsMembersText bytes) (told old) (told new))
  pub fits : answer ≢ Err stop.TooLarge
