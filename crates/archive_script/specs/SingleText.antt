-- What is said of a file that is a pickle, an array or a tar archive, and of a packed file.
-- Source: own.
use Rattle.std.specs.Prelude.{◌≡◌, ◌≢◌, ◌⊎◌, ◌≤◌, ℕ, ◌==◌, if◌then◌else◌, Bool, true, false, List, length, codes, decimal, Result, Ok, Err, IfOk, IfErr}
use Rattle.pickle_io.specs.Text.{◌⧺◌}
use Rattle.pickle_io.specs.Device.{Told}
use Rattle.pickle_doc.specs.Document.{AreBytes, size_limit}
use Rattle.pickle_text.specs.Column.{newline}
use Rattle.pickle_text.specs.Output.{Output}
use Rattle.pickle_allow.specs.declared.list.Entry.{Entry as Allowed}
use Rattle.pickle_gate.specs.declared.verdict.Verdict.{Verdict}
use Rattle.pickle_script.specs.GateText.{verdict_text, verdict_status, IsVerdictText, WroteText, StopsGate}
use Rattle.pickle_script.specs.declared.stop.Stop.{Stop}
use Rattle.pickle_script.specs.declared.stop.Stop.TheVariants as stop
use Rattle.inflate.specs.declared.refusal.Reason.TheVariants as stream
use Rattle.packed_stream.specs.declared.reason.Packing.{Packing}
use Rattle.packed_stream.specs.declared.reason.Packing.TheVariants as packing
use Rattle.packed_stream.specs.declared.reason.Reason.{Reason as PackedReason}
use Rattle.packed_stream.specs.declared.reason.Reason.TheVariants as packed
use Rattle.packed_stream.specs.declared.reason.Refusal.{Refusal as PackedRefusal}
use Rattle.packed_stream.specs.Packed.{IsPacked, opened}
use Rattle.npy_form.specs.declared.reason.Refusal.{Refusal as ArrayRefusal}
use Rattle.npy_form.specs.declared.array.Held.{Held}
use Rattle.npy_form.specs.declared.array.Held.TheVariants as held
use Rattle.npy_form.specs.Npy.{behind_header, read_array}
use Rattle.archive_gate.specs.declared.kind.Kind.{Kind}
use Rattle.archive_gate.specs.declared.kind.Kind.TheVariants as kind
use Rattle.archive_gate.specs.Kind.{kind_of}
use Rattle.archive_script.specs.FaultText.{named, passing_output, refusal_words, array_line, behind_text, stream_sentence, fault_output}
use Rattle.archive_script.specs.TarText.{no_tar_output, unclear_output, two_kinds_output, IsTarText}
use Rattle.archive_script.specs.declared.judged.Single.{Single}
use Rattle.archive_script.specs.declared.judged.Single.TheVariants as single

-- ---- an array

abbrev pub no_array_output : ArrayRefusal → Output
no_array_output r = record { text = array_line r; status = 1 }

-- where it does not pass
abbrev pub behind_output : Output → Output
behind_output said = record { text = if said.status == 0 then said.text else behind_text said.text; status = said.status }

abbrev pub IsBehindText : List Allowed → List ℕ → Output → Type 0
IsBehindText list bytes o = (said : Output) × IsVerdictText list bytes said × (o ≡ behind_output said)

abbrev pub IsHeldText : List Allowed → List ℕ → Result Held ArrayRefusal → Output → Type 0
IsHeldText list bytes (Ok held.Numbers) o = o ≡ passing_output
IsHeldText list bytes (Ok held.Pickle) o = IsBehindText list (behind_header bytes) o
IsHeldText list bytes (Err r) o = o ≡ no_array_output r

-- of bytes that begin as an array
abbrev pub IsArrayText : List Allowed → List ℕ → Output → Type 0
IsArrayText list bytes o = IsHeldText list bytes (read_array bytes) o

-- ---- what a packed file opens to

unfoldable pub nested_words : List ℕ
nested_words = codes "a container itself: it is not looked at\n"

abbrev pub nested_output : Output
nested_output = record { text = nested_words; status = 1 }

abbrev pub IsSingleText : List Allowed → List ℕ → Kind → Output → Type 0
IsSingleText list bytes kind.Tar o = IsTarText list bytes o
IsSingleText list bytes kind.Archive o = o ≡ nested_output
IsSingleText list bytes (kind.Packed p) o = o ≡ nested_output
IsSingleText list bytes kind.Array o = IsArrayText list bytes o
IsSingleText list bytes kind.Pickle o = IsVerdictText list bytes o

-- what was judged
abbrev pub held_text : List ℕ → Verdict → List ℕ
held_text line v = if verdict_status v == 0 then verdict_text line v else behind_text (verdict_text line v)

abbrev pub single_output : Single → Output
single_output (single.Pickle v line) = record { text = verdict_text line.items v; status = verdict_status v }
single_output single.Numbers = passing_output
single_output (single.NoArray r) = no_array_output r
single_output (single.Behind v line) = record { text = held_text line.items v; status = verdict_status v }
single_output single.Nested = nested_output
single_output single.Tar = passing_output
single_output (single.NoTar r) = no_tar_output r
single_output single.Unclear = unclear_output
single_output single.TwoKinds = two_kinds_output
single_output (single.Member name f line) = fault_output name.items line.items f

-- ---- a packed file

-- the address of what it opens to, behind that of the file
abbrev pub packing_word : Packing → List ℕ
packing_word packing.Gzip = codes "(gzip)"
packing_word packing.Zlib = codes "(zlib)"

-- where that does not pass, it is named
abbrev pub inside_output : Packing → Output → Output
inside_output p said = record { text = if said.status == 0 then said.text else named (packing_word p) said.text; status = said.status }

unfoldable pub packed_sentence : PackedReason → List ℕ
packed_sentence packed.Cut = codes "the header of a packed file that is cut"
packed_sentence packed.Header = codes "a header that gzip and zlib do not write"
packed_sentence packed.Flags = codes "a header with more than a name"
packed_sentence (packed.Stream why) = stream_sentence why
packed_sentence packed.End = codes "the end of a packed file is cut"
packed_sentence packed.Rest = codes "bytes behind the end of the stream"
packed_sentence packed.Checksum = codes "another checksum than is told"
packed_sentence packed.Size = codes "another size than is told"

unfoldable pub packed_line : PackedRefusal → List ℕ
packed_line r = refusal_words ⧺ decimal r.offset ⧺ codes ": " ⧺ packed_sentence r.why ⧺ newline

unfoldable pub too_large_front : List ℕ
too_large_front = codes "it unpacks to more than "

unfoldable pub too_large_back : List ℕ
too_large_back = codes " bytes: it is not looked at\n"

unfoldable pub too_large_line : List ℕ
too_large_line = too_large_front ⧺ decimal size_limit ⧺ too_large_back

abbrev pub is_too_large : PackedReason → Bool
is_too_large (packed.Stream stream.TooLarge) = true
is_too_large _ = false

-- what unpacks to too much is not looked at; of other files the first rule is told that they break
abbrev pub no_packed_output : PackedRefusal → Output
no_packed_output r = record { text = if is_too_large r.why then too_large_line else packed_line r; status = 1 }

-- the file opens to bytes, no more than a file may have, and this is said of them
pub record IsOpenedText (list : List Allowed) (bytes : List ℕ) (p : Packing) (o : Output) : Type 0 where
  pub content : List ℕ
  pub opens : IsPacked p bytes content
  pub few : length content ≤ size_limit
  pub small : AreBytes content
  pub said : Output
  pub inside : IsSingleText list content (kind_of content) said
  pub text : o ≡ inside_output p said

-- of bytes that begin as a packed file
abbrev pub IsPackedText : List Allowed → List ℕ → Packing → Output → Type 0
IsPackedText list bytes p o = ((r : PackedRefusal) × (opened size_limit p bytes ≡ Err r) × (o ≡ no_packed_output r)) ⊎ IsOpenedText list bytes p o

-- ---- the answer

-- a text was written that `Is` means, and this is its status; or the sink failed in it, or memory ran out before it
pub record Says (Is : Output → Type 0) (old new : Told) (answer : Result ℕ Stop) : Type 0 where
  pub whole : IfOk answer (WroteText Is old new)
  pub stopped : IfErr answer (StopsGate Is old new)
  pub fits : answer ≢ Err stop.TooLarge
