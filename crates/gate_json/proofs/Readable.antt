-- The fields of each line can be read back, and so the line is.
use Rattle.std.proofs.Common.{◌≡◌, ◌-◌, ◌==◌, ℕ, true, List, length, take, None, refl, sym, subst}
use Rattle.std.specs.Prelude.{codes}
use Rattle.std.specs.List.{list_all}
use Rattle.inflate.specs.declared.refusal.Reason.{Reason as StreamReason}
use Rattle.inflate.specs.declared.refusal.Reason.TheVariants as stream
use Rattle.inflate.specs.declared.refusal.Refusal.{Refusal as StreamRefusal}
use Rattle.json_lines.specs.Json.{is_plain}
use Rattle.json_lines.specs.Line.{◌⊕◌}
use Rattle.json_lines.specs.Readable.{ArePlain, IsLineOfJson}
use Rattle.json_lines.proofs.Nested.{number, text, truth, held, both, either, plain_line_reads}
use Rattle.json_lines.proofs.Wholes.{line_read}
use Rattle.line_buffer.specs.Line.{line_text}
use Rattle.pickle_text.specs.declared.closing.Closing.{Closing}
use Rattle.pickle_text.specs.declared.closing.Closing.TheVariants as closing
use Rattle.pickle_text.specs.Output.{Output}
use Rattle.pickle_allow.specs.declared.listing.Listing.{Listing}
use Rattle.pickle_allow.specs.declared.listing.Listing.TheVariants as listing
use Rattle.pickle_calls.specs.declared.end.Ending.{Ending}
use Rattle.pickle_calls.specs.declared.end.Ending.TheVariants as ending
use Rattle.pickle_json.specs.EndFields.{how_fields}
use Rattle.pickle_json.proofs.Readable.{ended, stopped, refused, fault, shown}
use Rattle.pickle_json.proofs.FormReadable.{other}
use Rattle.pickle_gate.specs.declared.verdict.Verdict.{Verdict}
use Rattle.pickle_gate.specs.declared.verdict.Verdict.TheVariants as verdict
use Rattle.pickle_script.specs.GateText.{words_of, verdict_status}
use Rattle.npy_form.specs.declared.reason.Reason.{Reason as ArrayReason}
use Rattle.npy_form.specs.declared.reason.Reason.TheVariants as array
use Rattle.npy_form.specs.declared.reason.Refusal.{Refusal as ArrayRefusal}
use Rattle.packed_stream.specs.declared.reason.Packing.{Packing}
use Rattle.packed_stream.specs.declared.reason.Reason.{Reason as PackedReason}
use Rattle.packed_stream.specs.declared.reason.Reason.TheVariants as packed
use Rattle.packed_stream.specs.declared.reason.Refusal.{Refusal as PackedRefusal}
use Rattle.zip_archive.specs.declared.reason.Reason.{Reason as ZipReason}
use Rattle.zip_archive.specs.declared.reason.Reason.TheVariants as zip
use Rattle.zip_archive.specs.declared.reason.Refusal.{Refusal as ZipRefusal}
use Rattle.zip_archive.specs.Sentence.{sentence_of}
use Rattle.tar_archive.specs.declared.reason.Reason.{Reason as TarReason}
use Rattle.tar_archive.specs.declared.reason.Reason.TheVariants as tar
use Rattle.tar_archive.specs.declared.reason.Refusal.{Refusal as TarRefusal}
use Rattle.zip_open.specs.declared.broken.Broken.{Broken}
use Rattle.zip_open.specs.declared.broken.Broken.TheVariants as broken
use Rattle.archive_gate.specs.declared.fault.Fault.{Fault}
use Rattle.archive_gate.specs.declared.fault.Fault.TheVariants as member_fault
use Rattle.archive_gate.specs.declared.fault.ArrayFault.{ArrayFault}
use Rattle.archive_gate.specs.declared.fault.ArrayFault.TheVariants as array_fault
use Rattle.archive_script.specs.declared.judged.Judged.{Judged}
use Rattle.archive_script.specs.declared.judged.Judged.TheVariants as judged
use Rattle.archive_script.specs.declared.judged.Single.{Single}
use Rattle.archive_script.specs.declared.judged.Single.TheVariants as single
use Rattle.archive_script.specs.FaultText.{array_sentence, stream_sentence}
use Rattle.archive_script.specs.TarText.{tar_sentence}
use Rattle.archive_script.specs.SingleText.{single_output, packing_word, packed_sentence, is_too_large}
use Rattle.archive_script.specs.GateText.{judged_output, no_list_line}
use Rattle.gate_json.specs.VerdictFields.{offset_fields, words_fields, placed_fields, member_fields, behind_fields, said_words, not_allowed, forbidden_fields, item_fields, closing_fields, unsure_fields, ending_fields, verdict_fields, array_fields, size_words, rest_words, checksum_words, broken_fields, stream_fields, unopened_fields, array_fault_fields, fault_fields, no_tar_fields, held_fields, single_fields, packing_fields, address_fields, inside_fields, no_packed_fields, no_archive_fields, judged_fields, told_fields, file_fields, named_fields, number_fields, no_list_fields}
use Rattle.gate_json.specs.GateLine.{verdict_line, named_line, no_list_json, IsListedLine}
use Rattle.gate_json.specs.Readable.{VerdictLinesReadBack, AnswersAreLines}

-- ---- sentences

array_plain : (r : ArrayReason) → list_all is_plain (array_sentence r) ≡ true
unfolding array_sentence
array_plain array.Cut = refl
array_plain _ = refl

stream_plain : (r : StreamReason) → list_all is_plain (stream_sentence r) ≡ true
unfolding stream_sentence
stream_plain stream.TooLarge = refl
stream_plain _ = refl

tar_plain : (r : TarReason) → list_all is_plain (tar_sentence r) ≡ true
unfolding tar_sentence
tar_plain tar.Cut = refl
tar_plain _ = refl

zip_plain : (r : ZipReason) → list_all is_plain (sentence_of r) ≡ true
unfolding sentence_of
zip_plain zip.NoEnd = refl
zip_plain _ = refl

packed_plain : (r : PackedReason) → list_all is_plain (packed_sentence r) ≡ true
unfolding packed_sentence
packed_plain packed.Cut = refl
packed_plain packed.Header = refl
packed_plain packed.Flags = refl
packed_plain (packed.Stream r) = stream_plain r
packed_plain packed.End = refl
packed_plain packed.Rest = refl
packed_plain packed.Checksum = refl
packed_plain packed.Size = refl

-- ---- fields that several have

offset_at : (offset : ℕ) → ArePlain (offset_fields offset)
unfolding offset_fields
offset_at offset = number (codes "offset") offset refl

words : (s : List ℕ) → list_all is_plain s ≡ true → ArePlain (words_fields s)
unfolding words_fields
words s h = text (codes "words") s refl h

placed : (how : List ℕ) (offset : ℕ) (s : List ℕ) → list_all is_plain how ≡ true → list_all is_plain s ≡ true → ArePlain (placed_fields how offset s)
unfolding placed_fields
placed how offset s h k = both _ _ (both _ _ (ended how h) (offset_at offset)) (words s k)

member : (name : List ℕ) → ArePlain (member_fields name)
unfolding member_fields
member name = held (codes "member") (codes "member_hex") name refl refl

behind : ArePlain behind_fields
unfolding behind_fields
behind = truth (codes "behind_header") true refl

-- ---- a pickle

line_said : (line : List ℕ) → ArePlain (said_words line)
unfolding said_words
line_said line = held (codes "words") (codes "words_hex") (take (length line - 1) line) refl refl

forbidden : (offset : ℕ) (line : List ℕ) → ArePlain (forbidden_fields offset line)
unfolding forbidden_fields not_allowed
forbidden offset line = both _ _ (both _ _ (ended (codes "not_allowed") refl) (offset_at offset)) (line_said line)

item : (place : ℕ) → ArePlain (item_fields place)
unfolding item_fields
item place = number (codes "item") place refl

closed : (c : Closing) → ArePlain (closing_fields c)
closed closing.Stopped = stopped 0 None
closed (closing.Refused place r) = both _ _ (refused r None) (item place)
closed (closing.Fault f offset) = fault f offset None

unsure : (offset : ℕ) → ArePlain (unsure_fields offset)
unfolding unsure_fields
unsure offset = both _ _ (ended (codes "unsure") refl) (offset_at offset)

ends : (e : Ending) → ArePlain (ending_fields e)
ends (ending.Closed kept c) = closed c
ends (ending.Unsure offset) = unsure offset

judged_so : (line : List ℕ) (v : Verdict) → ArePlain (verdict_fields line v)
judged_so line verdict.Passes = ended (codes "passes") refl
judged_so line (verdict.Forbidden place offset) = forbidden offset (words_of line)
judged_so line (verdict.Other o) = other o
judged_so line (verdict.Ends e) = ends e

-- ---- an array, and a member that does not pass

array_refused : (r : ArrayRefusal) → ArePlain (array_fields r)
unfolding array_fields
array_refused r = placed (codes "not_in_form") r.offset (array_sentence r.why) refl (array_plain r.why)

broken_so : (s : List ℕ) → list_all is_plain s ≡ true → ArePlain (broken_fields s)
unfolding broken_fields
broken_so s h = both _ _ (ended (codes "broken") refl) (words s h)

stream_refused : (r : StreamRefusal) → ArePlain (stream_fields r)
unfolding stream_fields
stream_refused r = placed (codes "broken") r.offset (stream_sentence r.why) refl (stream_plain r.why)

unopened : (b : Broken) → ArePlain (unopened_fields b)
unfolding size_words rest_words checksum_words
unopened (broken.Stream r) = stream_refused r
unopened broken.Size = broken_so (codes "fewer bytes than are told") refl
unopened broken.Rest = broken_so (codes "bytes behind the stream") refl
unopened broken.Checksum = broken_so (codes "another checksum than is told") refl

array_faulty : (line : List ℕ) (f : ArrayFault) → ArePlain (array_fault_fields line f)
array_faulty line (array_fault.Form r) = array_refused r
array_faulty line (array_fault.Refused v) = both _ _ behind (judged_so line v)

faulty : (line : List ℕ) (f : Fault) → ArePlain (fault_fields line f)
faulty line (member_fault.Broken b) = unopened b
faulty line member_fault.Archive = ended (codes "archive") refl
faulty line (member_fault.Refused v) = judged_so line v
faulty line (member_fault.Array f) = array_faulty line f

-- ---- a file that is neither packed nor a zip archive

tar_refused : (r : TarRefusal) → ArePlain (no_tar_fields r)
unfolding no_tar_fields
tar_refused r = placed (codes "not_in_form") r.offset (tar_sentence r.why) refl (tar_plain r.why)

held_behind : (line : List ℕ) (v : Verdict) → ArePlain (held_fields line v)
held_behind line v = either (verdict_status v == 0) (verdict_fields line v) (behind_fields ⊕ verdict_fields line v) (judged_so line v) (both _ _ behind (judged_so line v))

alone : (s : Single) → ArePlain (single_fields s)
alone (single.Pickle v line) = judged_so line.items v
alone single.Numbers = ended (codes "passes") refl
alone (single.NoArray r) = array_refused r
alone (single.Behind v line) = held_behind line.items v
alone single.Nested = ended (codes "container") refl
alone single.Tar = ended (codes "passes") refl
alone (single.NoTar r) = tar_refused r
alone single.Unclear = ended (codes "unclear_names") refl
alone single.TwoKinds = ended (codes "two_kinds") refl
alone (single.Member name f line) = both _ _ (member name.items) (faulty line.items f)

-- ---- a packed file

packing : (name : List ℕ) → ArePlain (packing_fields name)
unfolding packing_fields
packing name = held (codes "archive") (codes "archive_hex") name refl refl

address : (p : Packing) (s : Single) → ArePlain (address_fields p s)
address p (single.Member name f line) = packing (packing_word p)
address p s = member (packing_word p)

inside : (p : Packing) (s : Single) → ArePlain (inside_fields p s)
inside p s = either ((single_output s).status == 0) (single_fields s) (address_fields p s ⊕ single_fields s) (alone s) (both _ _ (address p s) (alone s))

packed_refused : (r : PackedRefusal) → ArePlain (no_packed_fields r)
packed_refused r =
    either (is_too_large r.why) (how_fields (codes "too_large")) (placed_fields (codes "not_in_form") r.offset (packed_sentence r.why)) (ended (codes "too_large") refl)
    (placed (codes "not_in_form") r.offset (packed_sentence r.why) refl (packed_plain r.why))

-- ---- a file

zip_refused : (r : ZipRefusal) → ArePlain (no_archive_fields r)
unfolding no_archive_fields
zip_refused r = placed (codes "not_in_form") r.offset (sentence_of r.why) refl (zip_plain r.why)

of_file : (j : Judged) → ArePlain (judged_fields j)
of_file (judged.Single s) = alone s
of_file (judged.Packed p s) = inside p s
of_file (judged.NoPacked r) = packed_refused r
of_file judged.Archive = ended (codes "passes") refl
of_file (judged.NoArchive r) = zip_refused r
of_file judged.SameNames = ended (codes "same_names") refl
of_file judged.TooLarge = ended (codes "too_large") refl
of_file (judged.Member name f line) = both _ _ (member name.now) (faulty line.items f)

told : (j : Judged) → ArePlain (told_fields j)
unfolding told_fields
told j = both _ _ (of_file j) (shown (line_text (judged_output j).text))

file : (name : List ℕ) → ArePlain (file_fields name)
unfolding file_fields
file name = held (codes "file") (codes "file_hex") name refl refl

named : (name : List ℕ) (j : Judged) → ArePlain (named_fields name j)
unfolding named_fields
named name j = both _ _ (file name) (told j)

-- ---- a list

wrong : (n : ℕ) → ArePlain (number_fields n)
unfolding number_fields
wrong n = number (codes "line") n refl

no_list : (n : ℕ) → ArePlain (no_list_fields n)
unfolding no_list_fields
no_list n = both _ _ (both _ _ (ended (codes "not_a_list") refl) (wrong n)) (shown (line_text (no_list_line n)))

pub verdict_lines_read_back : VerdictLinesReadBack
unfolding verdict_line named_line no_list_json
verdict_lines_read_back =
    record {
      verdict = λ j. plain_line_reads (codes "verdict") (told_fields j) refl (told j);
      named = λ name j. plain_line_reads (codes "verdict") (named_fields name j) refl (named name j);
      no_list = λ n. plain_line_reads (codes "verdict") (no_list_fields n) refl (no_list n);
    }

-- ---- answers

listed : (bytes : List ℕ) (o : Output) (l : Listing) → IsListedLine l bytes o → IsLineOfJson o.text
listed bytes o (listing.Entries es) (j, said, same) =
    subst (λ (x : Output). IsLineOfJson x.text) (sym same) (line_read _ _ _ (verdict_lines_read_back.verdict j))
listed bytes o (listing.Wrong n) same = subst (λ (x : Output). IsLineOfJson x.text) (sym same) (line_read _ _ _ (verdict_lines_read_back.no_list n))

pub answers_are_lines : AnswersAreLines
answers_are_lines =
    record {
      alone = λ list bytes o w. listed bytes o w.0 w.2;
      named = λ name list bytes o w. subst (λ (x : Output). IsLineOfJson x.text) (sym w.2) (line_read _ _ _ (verdict_lines_read_back.named name w.0));
    }
