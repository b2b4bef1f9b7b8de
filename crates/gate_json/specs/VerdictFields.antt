-- What is said of a file that the gate was asked about, as fields.
-- Source: own; what the words say is said where the texts for people are defined.
use Rattle.std.specs.Prelude.{ℕ, ◌-◌, ◌==◌, if◌then◌else◌, List, true, codes, length, take, None}
use Rattle.json.specs.Json.{string, boolean}
use Rattle.inflate.specs.declared.refusal.Refusal.{Refusal as StreamRefusal}
use Rattle.json_lines.specs.Line.{Field, field, ◌⊕◌, whole, bytes_field}
use Rattle.line_buffer.specs.Line.{line_text}
use Rattle.pickle_text.specs.declared.closing.Closing.{Closing}
use Rattle.pickle_text.specs.declared.closing.Closing.TheVariants as closing
use Rattle.pickle_calls.specs.declared.end.Ending.{Ending}
use Rattle.pickle_calls.specs.declared.end.Ending.TheVariants as ending
use Rattle.pickle_json.specs.EndFields.{how_fields, stopped_fields, refused_fields, tail_fields}
use Rattle.pickle_json.specs.FormFields.{other_fields}
use Rattle.pickle_json.specs.ShownFields.{shown_fields}
use Rattle.pickle_gate.specs.declared.verdict.Verdict.{Verdict}
use Rattle.pickle_gate.specs.declared.verdict.Verdict.TheVariants as verdict
use Rattle.pickle_script.specs.GateText.{words_of, verdict_status}
use Rattle.npy_form.specs.declared.reason.Refusal.{Refusal as ArrayRefusal}
use Rattle.packed_stream.specs.declared.reason.Packing.{Packing}
use Rattle.packed_stream.specs.declared.reason.Refusal.{Refusal as PackedRefusal}
use Rattle.zip_archive.specs.declared.reason.Refusal.{Refusal as ZipRefusal}
use Rattle.zip_archive.specs.Sentence.{sentence_of}
use Rattle.tar_archive.specs.declared.reason.Refusal.{Refusal as TarRefusal}
use Rattle.zip_open.specs.declared.broken.Broken.{Broken}
use Rattle.zip_open.specs.declared.broken.Broken.TheVariants as broken
use Rattle.archive_gate.specs.declared.fault.Fault.{Fault}
use Rattle.archive_gate.specs.declared.fault.Fault.TheVariants as fault
use Rattle.archive_gate.specs.declared.fault.ArrayFault.{ArrayFault}
use Rattle.archive_gate.specs.declared.fault.ArrayFault.TheVariants as array_fault
use Rattle.archive_script.specs.declared.judged.Judged.{Judged}
use Rattle.archive_script.specs.declared.judged.Judged.TheVariants as judged
use Rattle.archive_script.specs.declared.judged.Single.{Single}
use Rattle.archive_script.specs.declared.judged.Single.TheVariants as single
use Rattle.archive_script.specs.FaultText.{array_sentence, stream_sentence}
use Rattle.archive_script.specs.TarText.{tar_sentence}
use Rattle.archive_script.specs.SingleText.{single_output, packing_word, packed_sentence, is_too_large}
use Rattle.archive_script.specs.GateText.{judged_output, no_list_line}

-- ---- fields that several have

unfoldable pub offset_fields : ℕ → List Field
offset_fields offset = field (codes "offset") (whole offset)

unfoldable pub words_fields : List ℕ → List Field
words_fields words = field (codes "words") (string words)

-- what is wrong, and at which byte
unfoldable pub placed_fields : List ℕ → ℕ → List ℕ → List Field
placed_fields how offset words = how_fields how ⊕ offset_fields offset ⊕ words_fields words

-- the name of a member of an archive, or the address of what a packed file opens to
unfoldable pub member_fields : List ℕ → List Field
member_fields name = bytes_field (codes "member") (codes "member_hex") name

-- what follows is said of the pickle behind the header of an array; offsets count from there
unfoldable pub behind_fields : List Field
behind_fields = field (codes "behind_header") (boolean true)

-- ---- a pickle

-- a line without its newline
unfoldable pub said_words : List ℕ → List Field
said_words line = bytes_field (codes "words") (codes "words_hex") (take (length line - 1) line)

unfoldable pub not_allowed : List ℕ
not_allowed = codes "not_allowed"

-- the offset of an item that is not allowed, and what `calls` says of it
unfoldable pub forbidden_fields : ℕ → List ℕ → List Field
forbidden_fields offset words = how_fields not_allowed ⊕ offset_fields offset ⊕ said_words words

unfoldable pub item_fields : ℕ → List Field
item_fields place = field (codes "item") (whole place)

-- how a run ended: as at the end of a listing. Of one pickle, behind which there are no bytes, none are kept
abbrev pub closing_fields : Closing → List Field
closing_fields closing.Stopped = stopped_fields 0 None
closing_fields (closing.Refused place r) = refused_fields r None ⊕ item_fields place
closing_fields (closing.Fault f offset) = tail_fields f offset None

unfoldable pub unsure_fields : ℕ → List Field
unsure_fields offset = how_fields (codes "unsure") ⊕ offset_fields offset

abbrev pub ending_fields : Ending → List Field
ending_fields (ending.Closed kept c) = closing_fields c
ending_fields (ending.Unsure offset) = unsure_fields offset

-- it passes; or the item that is not allowed, what `form` says, or how reading ended
abbrev pub verdict_fields : List ℕ → Verdict → List Field
verdict_fields line verdict.Passes = how_fields (codes "passes")
verdict_fields line (verdict.Forbidden place offset) = forbidden_fields offset (words_of line)
verdict_fields line (verdict.Other o) = other_fields o
verdict_fields line (verdict.Ends e) = ending_fields e

-- ---- an array

-- the first rule that an array breaks
unfoldable pub array_fields : ArrayRefusal → List Field
array_fields r = placed_fields (codes "not_in_form") r.offset (array_sentence r.why)

-- ---- a member that does not pass

unfoldable pub size_words : List ℕ
size_words = codes "fewer bytes than are told"

unfoldable pub rest_words : List ℕ
rest_words = codes "bytes behind the stream"

unfoldable pub checksum_words : List ℕ
checksum_words = codes "another checksum than is told"

unfoldable pub broken_fields : List ℕ → List Field
broken_fields words = how_fields (codes "broken") ⊕ words_fields words

-- the first rule that the stream of a packed member breaks
unfoldable pub stream_fields : StreamRefusal → List Field
stream_fields r = placed_fields (codes "broken") r.offset (stream_sentence r.why)

abbrev pub unopened_fields : Broken → List Field
unopened_fields (broken.Stream r) = stream_fields r
unopened_fields broken.Size = broken_fields size_words
unopened_fields broken.Rest = broken_fields rest_words
unopened_fields broken.Checksum = broken_fields checksum_words

abbrev pub array_fault_fields : List ℕ → ArrayFault → List Field
array_fault_fields line (array_fault.Form r) = array_fields r
array_fault_fields line (array_fault.Refused v) = behind_fields ⊕ verdict_fields line v

abbrev pub fault_fields : List ℕ → Fault → List Field
fault_fields line (fault.Broken b) = unopened_fields b
fault_fields line fault.Archive = how_fields (codes "archive")
fault_fields line (fault.Refused v) = verdict_fields line v
fault_fields line (fault.Array f) = array_fault_fields line f

-- ---- a file that is neither packed nor a zip archive

-- the first rule that a tar archive breaks
unfoldable pub no_tar_fields : TarRefusal → List Field
no_tar_fields r = placed_fields (codes "not_in_form") r.offset (tar_sentence r.why)

abbrev pub held_fields : List ℕ → Verdict → List Field
held_fields line v = if verdict_status v == 0 then verdict_fields line v else behind_fields ⊕ verdict_fields line v

abbrev pub single_fields : Single → List Field
single_fields (single.Pickle v line) = verdict_fields line.items v
single_fields single.Numbers = how_fields (codes "passes")
single_fields (single.NoArray r) = array_fields r
single_fields (single.Behind v line) = held_fields line.items v
single_fields single.Nested = how_fields (codes "container")
single_fields single.Tar = how_fields (codes "passes")
single_fields (single.NoTar r) = no_tar_fields r
single_fields single.Unclear = how_fields (codes "unclear_names")
single_fields single.TwoKinds = how_fields (codes "two_kinds")
single_fields (single.Member name f line) = member_fields name.items ⊕ fault_fields line.items f

-- ---- a packed file

-- the address of what it opens to; that of a tar archive, of which a member has a name of its own
unfoldable pub packing_fields : List ℕ → List Field
packing_fields name = bytes_field (codes "archive") (codes "archive_hex") name

abbrev pub address_fields : Packing → Single → List Field
address_fields p (single.Member name f line) = packing_fields (packing_word p)
address_fields p s = member_fields (packing_word p)

-- where what it opens to does not pass, its address stands in front
abbrev pub inside_fields : Packing → Single → List Field
inside_fields p s = if (single_output s).status == 0 then single_fields s else address_fields p s ⊕ single_fields s

abbrev pub no_packed_fields : PackedRefusal → List Field
no_packed_fields r = if is_too_large r.why then how_fields (codes "too_large") else placed_fields (codes "not_in_form") r.offset (packed_sentence r.why)

-- ---- a file

-- the first rule that an archive breaks
unfoldable pub no_archive_fields : ZipRefusal → List Field
no_archive_fields r = placed_fields (codes "not_in_form") r.offset (sentence_of r.why)

abbrev pub judged_fields : Judged → List Field
judged_fields (judged.Single s) = single_fields s
judged_fields (judged.Packed p s) = inside_fields p s
judged_fields (judged.NoPacked r) = no_packed_fields r
judged_fields judged.Archive = how_fields (codes "passes")
judged_fields (judged.NoArchive r) = no_archive_fields r
judged_fields judged.SameNames = how_fields (codes "same_names")
judged_fields judged.TooLarge = how_fields (codes "too_large")
judged_fields (judged.Member name f line) = member_fields name.now ⊕ fault_fields line.items f

-- what is said of a file, and the line for people
unfoldable pub told_fields : Judged → List Field
told_fields j = judged_fields j ⊕ shown_fields (line_text (judged_output j).text)

unfoldable pub file_fields : List ℕ → List Field
file_fields name = bytes_field (codes "file") (codes "file_hex") name

-- with the name of the file in front
unfoldable pub named_fields : List ℕ → Judged → List Field
named_fields name j = file_fields name ⊕ told_fields j

-- ---- a list

unfoldable pub number_fields : ℕ → List Field
number_fields line = field (codes "line") (whole line)

-- a line of it is no entry
unfoldable pub no_list_fields : ℕ → List Field
no_list_fields line = how_fields (codes "not_a_list") ⊕ number_fields line ⊕ shown_fields (line_text (no_list_line line))
