-- What is said of what does not pass: of an array, and of a member of an archive.
-- Source: own.
use Rattle.std.specs.Prelude.{ℕ, List, codes, decimal}
use Rattle.pickle_io.specs.Text.{◌⧺◌, quoted}
use Rattle.pickle_text.specs.Column.{newline}
use Rattle.pickle_text.specs.Output.{Output}
use Rattle.pickle_script.specs.GateText.{verdict_text}
use Rattle.inflate.specs.declared.refusal.Refusal.{Refusal}
use Rattle.inflate.specs.declared.refusal.Reason.{Reason as StreamReason}
use Rattle.inflate.specs.declared.refusal.Reason.TheVariants as stream
use Rattle.npy_form.specs.declared.reason.Reason.{Reason as ArrayReason}
use Rattle.npy_form.specs.declared.reason.Reason.TheVariants as array
use Rattle.npy_form.specs.declared.reason.Refusal.{Refusal as ArrayRefusal}
use Rattle.zip_open.specs.declared.broken.Broken.{Broken}
use Rattle.zip_open.specs.declared.broken.Broken.TheVariants as broken
use Rattle.archive_gate.specs.declared.fault.Fault.{Fault}
use Rattle.archive_gate.specs.declared.fault.Fault.TheVariants as fault
use Rattle.archive_gate.specs.declared.fault.ArrayFault.{ArrayFault}
use Rattle.archive_gate.specs.declared.fault.ArrayFault.TheVariants as array_fault

-- what is said of something, with its name in front
unfoldable pub named : List ℕ → List ℕ → List ℕ
named name said = quoted name ⧺ codes ": " ⧺ said

abbrev pub passing_output : Output
passing_output = record { text = codes "passes\n"; status = 0 }

unfoldable pub refusal_words : List ℕ
refusal_words = codes "not in form: "

unfoldable pub array_sentence : ArrayReason → List ℕ
array_sentence array.Cut = codes "the header of an array that is cut"
array_sentence array.Version = codes "an array of a version that numpy does not write"
array_sentence array.Length = codes "a header of an array that ends at no multiple of 16"
array_sentence array.Text = codes "a header of an array that numpy does not write"
array_sentence array.Item = codes "items of an array that are no plain numbers, texts, times, bytes or objects"
array_sentence array.Number = codes "a number that is too large for an array"
array_sentence array.Axes = codes "more than 64 axes"
array_sentence array.Size = codes "more or fewer bytes than the header of the array tells"

unfoldable pub array_line : ArrayRefusal → List ℕ
array_line r = refusal_words ⧺ decimal r.offset ⧺ codes ": " ⧺ array_sentence r.why ⧺ newline

unfoldable pub behind_words : List ℕ
behind_words = codes "behind its header: "

-- what is said of what is behind the header of an array; offsets count from there
unfoldable pub behind_text : List ℕ → List ℕ
behind_text said = behind_words ⧺ said

-- what is wrong with a stream
unfoldable pub stream_sentence : StreamReason → List ℕ
stream_sentence stream.TooLarge = codes "more bytes than are told"
stream_sentence stream.CutShort = codes "it ends too early"
stream_sentence stream.BadBlock = codes "no block"
stream_sentence stream.BadCode = codes "no code"
stream_sentence stream.BadDistance = codes "a copy from before the first byte"

-- ---- a member

unfoldable pub archive_words : List ℕ
archive_words = codes "an archive itself: it is not looked at\n"

-- what is wrong with the stream of a packed member; the offset counts from its first byte
unfoldable pub stream_words : List ℕ
stream_words = codes "not deflated: "

unfoldable pub stream_line : Refusal → List ℕ
stream_line r = stream_words ⧺ decimal r.offset ⧺ codes ": " ⧺ stream_sentence r.why ⧺ newline

unfoldable pub size_words : List ℕ
size_words = codes "not deflated: fewer bytes than are told\n"

unfoldable pub rest_words : List ℕ
rest_words = codes "not deflated: bytes behind the stream\n"

unfoldable pub checksum_words : List ℕ
checksum_words = codes "another checksum than is told\n"

-- of a member that does not open
abbrev pub broken_text : Broken → List ℕ
broken_text (broken.Stream r) = stream_line r
broken_text broken.Size = size_words
broken_text broken.Rest = rest_words
broken_text broken.Checksum = checksum_words

-- of an array that does not pass
abbrev pub array_fault_text : List ℕ → ArrayFault → List ℕ
array_fault_text line (array_fault.Form r) = array_line r
array_fault_text line (array_fault.Refused v) = behind_text (verdict_text line v)

-- of a member that does not pass
abbrev pub fault_text : List ℕ → Fault → List ℕ
fault_text line (fault.Broken b) = broken_text b
fault_text line fault.Archive = archive_words
fault_text line (fault.Refused v) = verdict_text line v
fault_text line (fault.Array f) = array_fault_text line f

abbrev pub fault_output : List ℕ → List ℕ → Fault → Output
fault_output name line f = record { text = named name (fault_text line f); status = 1 }
