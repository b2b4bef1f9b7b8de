-- The lines of the members of a file, or of why there are none.
use Rattle.std.proofs.Common.{◌≡◌, ◌≤◌, ℕ, ◌+◌, ◌-◌, sym, ◌∙◌, List, length, inl, inr, Ok, Err, refl, subst}
use Rattle.std.specs.Prelude.{Bool, Result, IsErrAnd}
use Rattle.pickle_io.specs.Device.{Told, Wrote, Broke}
use Rattle.pickle_doc.specs.Document.{size_limit}
use Rattle.pickle_text.specs.Output.{Output}
use Rattle.zip_archive.specs.declared.reason.Refusal.{Refusal}
use Rattle.zip_archive.specs.Entry.{Entry}
use Rattle.zip_archive.specs.Archive.{IsZip, NoZip}
use Rattle.zip_archive.specs.Refused.{IsRefused}
use Rattle.packed_stream.specs.declared.reason.Packing.{Packing}
use Rattle.packed_stream.specs.declared.reason.Refusal.{Refusal as PackedRefusal}
use Rattle.packed_stream.specs.Header.{header_of}
use Rattle.packed_stream.specs.Packed.{end_size, IsPacked, opened}
use Rattle.tar_archive.specs.declared.reason.Refusal.{Refusal as TarRefusal}
use Rattle.tar_archive.specs.declared.member.Member.{Member}
use Rattle.tar_archive.specs.Tar.{read_tar}
use Rattle.tar_archive.specs.Begins.{begins_as_tar}
use Rattle.archive_script.specs.SingleText.{Says}
use Rattle.archive_script.proofs.GateTexts.{says_wrote, says_broke}
use Rattle.pickle_script.specs.declared.stop.Stop.{Stop}
use Rattle.pickle_script.specs.declared.stop.Stop.TheVariants as stop
use Rattle.gate_json.specs.MembersFields.{entry_lines, entries_output, no_archive_output, IsArchiveLines, opened_lines, opened_output, no_packed_json, IsPackedLines, tarred_lines, no_tar_json, IsTarLinesBy, IsTarLines, IsLinesAs, IsMembersLines}

-- ---- a zip archive

lists : (bytes : List ℕ) (es : List Entry) → IsZip bytes es → IsArchiveLines bytes (entries_output es)
lists bytes es z = inl (record { members = es; archive = z; lines = refl })

pub refuses : (bytes : List ℕ) (r : Refusal) → NoZip bytes × IsRefused bytes r → IsArchiveLines bytes (no_archive_output r)
refuses bytes r n = inr (record { refusal = r; none = n.0; broken = n.1; line_is = refl })

-- the members that are shown are those that were read
pub listed_wrote : (bytes : List ℕ) (es shown : List Entry) (a b : Told) → IsZip bytes es → shown ≡ es → Wrote a b (entry_lines shown) → Says (IsArchiveLines bytes) a b (Ok 0)
listed_wrote bytes es shown a b z same w =
    says_wrote (IsArchiveLines bytes) (entries_output es) a b (lists bytes es z) (subst (λ (l : List Entry). Wrote a b (entry_lines l)) same w)

pub listed_broke : (bytes : List ℕ) (es shown : List Entry) (a b : Told) (answer : Result ℕ Stop) → IsErrAnd answer (λ e. e ≡ stop.Write) → IsZip bytes es → shown ≡ es
    → Broke a b (entry_lines shown) → Says (IsArchiveLines bytes) a b answer
listed_broke bytes es shown a b answer h z same w =
    says_broke (IsArchiveLines bytes) (entries_output es) a b answer h (lists bytes es z) (subst (λ (l : List Entry). Broke a b (entry_lines l)) same w)

-- ---- a packed file

opens_so : (p : Packing) (bytes content : List ℕ) (opens : IsPacked p bytes content) → length content ≤ size_limit
    → IsPackedLines p bytes (opened_output p opens.start (length content) (length bytes - (opens.start + end_size p)))
opens_so p bytes content opens few = inr (record { content = content; opens = opens; few = few; lines = refl })

abbrev lines_of : Packing → List ℕ → ℕ → ℕ → List ℕ
lines_of p bytes start size = opened_lines p start size (length bytes - (start + end_size p))

pub packed_wrote : (p : Packing) (bytes content : List ℕ) (size : ℕ) (a b : Told) → IsPacked p bytes content → length content ≤ size_limit → size ≡ length content
    → ((start : ℕ) → header_of p bytes ≡ Ok start → Wrote a b (lines_of p bytes start size)) → Says (IsPackedLines p bytes) a b (Ok 0)
packed_wrote p bytes content size a b opens few same w =
    says_wrote (IsPackedLines p bytes) (opened_output p opens.start (length content) (length bytes - (opens.start + end_size p))) a b (opens_so p bytes content opens few)
    (subst (λ (n : ℕ). Wrote a b (lines_of p bytes opens.start n)) same (w opens.start opens.header))

pub packed_broke : (p : Packing) (bytes content : List ℕ) (size : ℕ) (a b : Told) (answer : Result ℕ Stop) → IsErrAnd answer (λ e. e ≡ stop.Write) → IsPacked p bytes content
    → length content ≤ size_limit → size ≡ length content → ((start : ℕ) → header_of p bytes ≡ Ok start → Broke a b (lines_of p bytes start size)) → Says (IsPackedLines p bytes) a b answer
packed_broke p bytes content size a b answer h opens few same w =
    says_broke (IsPackedLines p bytes) (opened_output p opens.start (length content) (length bytes - (opens.start + end_size p))) a b answer h (opens_so p bytes content opens few)
    (subst (λ (n : ℕ). Broke a b (lines_of p bytes opens.start n)) same (w opens.start opens.header))

pub unopened : (p : Packing) (bytes : List ℕ) (r : PackedRefusal) → Err r ≡ opened size_limit p bytes → IsPackedLines p bytes (no_packed_json r)
unopened p bytes r is = inl (r, sym is, refl)

-- ---- a tar archive

pub tar_wrote : (bytes : List ℕ) (ms shown : List Member) (a b : Told) → Ok ms ≡ read_tar bytes → shown ≡ ms → Wrote a b (tarred_lines bytes shown) → Says (IsTarLines bytes) a b (Ok 0)
tar_wrote bytes ms shown a b is same w =
    let o : Output = record { text = tarred_lines bytes ms; status = 0 } in
    says_wrote (IsTarLines bytes) o a b (subst (λ (r : Result (List Member) TarRefusal). IsTarLinesBy bytes r o) is refl)
    (subst (λ (l : List Member). Wrote a b (tarred_lines bytes l)) same w)

pub tar_broke : (bytes : List ℕ) (ms shown : List Member) (a b : Told) (answer : Result ℕ Stop) → IsErrAnd answer (λ e. e ≡ stop.Write) → Ok ms ≡ read_tar bytes → shown ≡ ms
    → Broke a b (tarred_lines bytes shown) → Says (IsTarLines bytes) a b answer
tar_broke bytes ms shown a b answer h is same w =
    let o : Output = record { text = tarred_lines bytes ms; status = 0 } in
    says_broke (IsTarLines bytes) o a b answer h (subst (λ (r : Result (List Member) TarRefusal). IsTarLinesBy bytes r o) is refl)
    (subst (λ (l : List Member). Broke a b (tarred_lines bytes l)) same w)

pub no_tar_is : (bytes : List ℕ) (r : TarRefusal) → Err r ≡ read_tar bytes → IsTarLines bytes (no_tar_json r)
no_tar_is bytes r is = subst (λ (x : Result (List Member) TarRefusal). IsTarLinesBy bytes x (no_tar_json r)) is refl

-- ---- a file

pub by_beginning : (bytes : List ℕ) (shown tar : Bool) (a b : Told) (answer : Result ℕ Stop) → shown ≡ begins_as_tar bytes → shown ≡ tar → Says (IsLinesAs tar bytes) a b answer
    → Says (IsMembersLines bytes) a b answer
by_beginning bytes shown tar a b answer same is s = subst (λ (t : Bool). Says (IsLinesAs t bytes) a b answer) (sym is ∙ same) s
