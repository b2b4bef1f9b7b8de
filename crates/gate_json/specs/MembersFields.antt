-- The lines of the members of a zip archive or of a tar archive, or of what a packed file opens to, with a line behind them; or the line of why bytes are none in the form in which usual writers write.
-- Source: own; the sentences are defined where the text for people is.
use Rattle.std.specs.Prelude.{◌≡◌, ◌⊎◌, ◌≤◌, ℕ, ◌+◌, ◌-◌, ◌==◌, if◌then◌else◌, Bool, true, false, List, codes, length, Option, Some, None, Result, Ok, Err}
use Rattle.json.specs.Json.{string}
use Rattle.pickle_io.specs.Text.{◌⧺◌}
use Rattle.pickle_io.specs.Device.{each}
use Rattle.json_lines.specs.Line.{Field, field, ◌⊕◌, whole, bytes_field, line}
use Rattle.pickle_doc.specs.Document.{size_limit}
use Rattle.pickle_text.specs.Output.{Output}
use Rattle.pickle_json.specs.EndFields.{how_fields}
use Rattle.zip_archive.specs.declared.reason.Refusal.{Refusal as ZipRefusal}
use Rattle.zip_archive.specs.Entry.{Entry, data_place}
use Rattle.zip_archive.specs.Reader.{member_of}
use Rattle.zip_archive.specs.Archive.{IsZip, NoZip}
use Rattle.zip_archive.specs.Refused.{IsRefused}
use Rattle.packed_stream.specs.declared.reason.Packing.{Packing}
use Rattle.packed_stream.specs.declared.reason.Refusal.{Refusal as PackedRefusal}
use Rattle.packed_stream.specs.Header.{packing_of}
use Rattle.packed_stream.specs.Packed.{end_size, IsPacked, opened}
use Rattle.tar_archive.specs.declared.reason.Refusal.{Refusal as TarRefusal}
use Rattle.tar_archive.specs.declared.member.Member.{Member}
use Rattle.tar_archive.specs.Field.{text}
use Rattle.tar_archive.specs.Tar.{read_tar}
use Rattle.tar_archive.specs.Begins.{begins_as_tar}
use Rattle.archive_script.specs.SingleText.{packing_word}
use Rattle.gate_json.specs.VerdictFields.{offset_fields, no_archive_fields, no_tar_fields, no_packed_fields}

-- ---- fields that several have

unfoldable pub name_fields : List ℕ → List Field
name_fields name = bytes_field (codes "name") (codes "name_hex") name

unfoldable pub size_fields : ℕ → List Field
size_fields size = field (codes "size") (whole size)

-- the name of a member, where its data begin, and how many bytes they are once unpacked
unfoldable pub content_fields : List ℕ → ℕ → ℕ → List Field
content_fields name offset size = name_fields name ⊕ offset_fields offset ⊕ size_fields size

unfoldable pub method_fields : List ℕ → List Field
method_fields method = field (codes "method") (string method)

unfoldable pub packed_fields : ℕ → List Field
packed_fields packed = field (codes "packed") (whole packed)

-- to how many bytes they are packed
unfoldable pub deflated_fields : ℕ → List Field
deflated_fields packed = method_fields (codes "deflated") ⊕ packed_fields packed

-- the line behind the members
unfoldable pub whole_line : List ℕ
whole_line = line (codes "end") (how_fields (codes "whole"))

-- ---- a zip archive

abbrev pub entry_method : Entry → List Field
entry_method e = if (member_of e).method == 8 then deflated_fields (length e.content) else method_fields (codes "stored")

unfoldable pub entry_fields : Entry → List Field
entry_fields e = content_fields e.name (data_place e) (member_of e).size ⊕ entry_method e

unfoldable pub entry_line : Entry → List ℕ
entry_line e = line (codes "member") (entry_fields e)

unfoldable pub entry_lines : List Entry → List ℕ
entry_lines es = each entry_line es ⧺ whole_line

unfoldable pub no_archive_line : ZipRefusal → List ℕ
no_archive_line r = line (codes "end") (no_archive_fields r)

abbrev pub entries_output : List Entry → Output
entries_output es = record { text = entry_lines es; status = 0 }

abbrev pub no_archive_output : ZipRefusal → Output
no_archive_output r = record { text = no_archive_line r; status = 1 }

-- the bytes are an archive in that form with these members
pub record AreEntries (bytes : List ℕ) (o : Output) : Type 0 where
  pub members : List Entry
  pub archive : IsZip bytes members
  pub lines : o ≡ entries_output members

-- or no list of members makes them one, and this is the first rule that they break
pub record AreNoEntries (bytes : List ℕ) (o : Output) : Type 0 where
  pub refusal : ZipRefusal
  pub none : NoZip bytes
  pub broken : IsRefused bytes refusal
  pub line_is : o ≡ no_archive_output refusal

abbrev pub IsArchiveLines : List ℕ → Output → Type 0
IsArchiveLines bytes o = AreEntries bytes o ⊎ AreNoEntries bytes o

-- ---- a packed file

-- the address of what the stream stands for, where it begins, and how many bytes it stands for and takes
unfoldable pub opened_fields : Packing → ℕ → ℕ → ℕ → List Field
opened_fields p start size packed = content_fields (packing_word p) start size ⊕ deflated_fields packed

unfoldable pub opened_line : Packing → ℕ → ℕ → ℕ → List ℕ
opened_line p start size packed = line (codes "member") (opened_fields p start size packed)

unfoldable pub opened_lines : Packing → ℕ → ℕ → ℕ → List ℕ
opened_lines p start size packed = opened_line p start size packed ⧺ whole_line

unfoldable pub no_packed_line : PackedRefusal → List ℕ
no_packed_line r = line (codes "end") (no_packed_fields r)

abbrev pub opened_output : Packing → ℕ → ℕ → ℕ → Output
opened_output p start size packed = record { text = opened_lines p start size packed; status = 0 }

abbrev pub no_packed_json : PackedRefusal → Output
no_packed_json r = record { text = no_packed_line r; status = 1 }

-- the bytes open to no more bytes than a file may have
pub record IsOpened (p : Packing) (bytes : List ℕ) (o : Output) : Type 0 where
  pub content : List ℕ
  pub opens : IsPacked p bytes content
  pub few : length content ≤ size_limit
  pub lines : o ≡ opened_output p opens.start (length content) (length bytes - (opens.start + end_size p))

-- or this is why they do not
abbrev pub IsPackedLines : Packing → List ℕ → Output → Type 0
IsPackedLines p bytes o = ((r : PackedRefusal) × (opened size_limit p bytes ≡ Err r) × (o ≡ no_packed_json r)) ⊎ IsOpened p bytes o

-- ---- a tar archive

-- its members are not packed
unfoldable pub tarred_fields : List ℕ → Member → List Field
tarred_fields bytes m = content_fields (text bytes m.name) m.content.start (m.content.end - m.content.start) ⊕ method_fields (codes "stored")

unfoldable pub tarred_line : List ℕ → Member → List ℕ
tarred_line bytes m = line (codes "member") (tarred_fields bytes m)

unfoldable pub tarred_lines : List ℕ → List Member → List ℕ
tarred_lines bytes ms = each (tarred_line bytes) ms ⧺ whole_line

unfoldable pub no_tar_line : TarRefusal → List ℕ
no_tar_line r = line (codes "end") (no_tar_fields r)

abbrev pub no_tar_json : TarRefusal → Output
no_tar_json r = record { text = no_tar_line r; status = 1 }

-- by what is read
abbrev pub IsTarLinesBy : List ℕ → Result (List Member) TarRefusal → Output → Type 0
IsTarLinesBy bytes (Ok ms) o = o ≡ record { text = tarred_lines bytes ms; status = 0 }
IsTarLinesBy bytes (Err r) o = o ≡ no_tar_json r

abbrev pub IsTarLines : List ℕ → Output → Type 0
IsTarLines bytes o = IsTarLinesBy bytes (read_tar bytes) o

-- ---- a file

abbrev pub IsLinesBy : Option Packing → List ℕ → Output → Type 0
IsLinesBy (Some p) bytes o = IsPackedLines p bytes o
IsLinesBy None bytes o = IsArchiveLines bytes o

-- of what begins as a tar archive or as a packed file, and of other bytes as of a zip archive
abbrev pub IsLinesAs : Bool → List ℕ → Output → Type 0
IsLinesAs true bytes o = IsTarLines bytes o
IsLinesAs false bytes o = IsLinesBy (packing_of bytes) bytes o

abbrev pub IsMembersLines : List ℕ → Output → Type 0
IsMembersLines bytes o = IsLinesAs (begins_as_tar bytes) bytes o
