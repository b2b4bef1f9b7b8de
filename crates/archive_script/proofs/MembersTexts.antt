-- The text of the members of an archive, or of why there are none.
use Rattle.std.proofs.Common.{◌≡◌, ◌≤◌, ℕ, zero, suc, ◌+◌, ◌-◌, ◌^◌, ◌<◌, sym, ◌∙◌, List, [], ◌∷◌, length, get_or, inl, inr, Ok, Err, refl, subst, arith}
use Rattle.std.specs.Prelude.{Bool, Option, Result, IsErrAnd}
use Rattle.pickle_io.specs.Device.{Told, Wrote, Broke, each}
use Rattle.pickle_text.specs.Output.{Output}
use Rattle.zip_archive.specs.declared.reason.Refusal.{Refusal}
use Rattle.zip_archive.specs.Entry.{Entry, data_place}
use Rattle.zip_archive.specs.Archive.{IsZip, NoZip, ArePlaced}
use Rattle.zip_archive.specs.Refused.{IsRefused}
use Rattle.pickle_doc.specs.Document.{size_limit}
use Rattle.packed_stream.specs.declared.reason.Packing.{Packing}
use Rattle.packed_stream.specs.declared.reason.Refusal.{Refusal as PackedRefusal}
use Rattle.packed_stream.specs.Header.{header_of, packing_of}
use Rattle.packed_stream.specs.Packed.{end_size, IsPacked, opened}
use Rattle.tar_archive.specs.declared.reason.Refusal.{Refusal as TarRefusal}
use Rattle.tar_archive.specs.declared.member.Member.{Member}
use Rattle.tar_archive.specs.Tar.{read_tar}
use Rattle.tar_archive.specs.Begins.{begins_as_tar}
use Rattle.archive_script.specs.TarText.{no_tar_output, tar_member_line, IsTarListedBy, IsTarMembers}
use Rattle.archive_script.specs.SingleText.{no_packed_output, Says}
use Rattle.archive_script.proofs.GateTexts.{says_wrote, says_broke}
use Rattle.archive_script.specs.MembersText.{member_line, members_output, refusal_output, IsArchiveMembers, packed_member_line, packed_output, IsPackedMembers, IsMembersBy, IsMembersAs, IsMembersText, AnswersMembers}
use Rattle.pickle_script.specs.declared.stop.Stop.{Stop}
use Rattle.pickle_script.specs.declared.stop.Stop.TheVariants as stop

pub placed_at : (es : List Entry) (i : ℕ) (d : Entry) → ArePlaced es → i < length es → data_place (get_or es i d) < 2 ^ 64
placed_at [] i d a below = absurd (omega arith)
placed_at (e ∷ es) zero d a below = a.0
placed_at (e ∷ es) (suc i) d a below = placed_at es i d a.1 (omega arith)

pub lists : (bytes : List ℕ) (es : List Entry) → IsZip bytes es → IsArchiveMembers bytes (members_output es)
lists bytes es z = inl (record { members = es; archive = z; text = refl })

pub refuses : (bytes : List ℕ) (r : Refusal) → NoZip bytes × IsRefused bytes r → IsArchiveMembers bytes (refusal_output r)
refuses bytes r n = inr (record { refusal = r; none = n.0; broken = n.1; text = refl })

-- the members that are shown are those that were read
pub listed_wrote : (bytes : List ℕ) (es shown : List Entry) (a b : Told) → IsZip bytes es → shown ≡ es → Wrote a b (each member_line shown) → Says (IsArchiveMembers bytes) a b (Ok 0)
listed_wrote bytes es shown a b z same w =
    says_wrote (IsArchiveMembers bytes) (members_output es) a b (lists bytes es z) (subst (λ (l : List Entry). Wrote a b (each member_line l)) same w)

pub listed_broke : (bytes : List ℕ) (es shown : List Entry) (a b : Told) (answer : Result ℕ Stop) → IsErrAnd answer (λ e. e ≡ stop.Write) → IsZip bytes es → shown ≡ es
    → Broke a b (each member_line shown) → Says (IsArchiveMembers bytes) a b answer
listed_broke bytes es shown a b answer h z same w =
    says_broke (IsArchiveMembers bytes) (members_output es) a b answer h (lists bytes es z) (subst (λ (l : List Entry). Broke a b (each member_line l)) same w)

-- ---- a packed file

pub opened_lists : (p : Packing) (bytes content : List ℕ) (opens : IsPacked p bytes content) → length content ≤ size_limit
    → IsPackedMembers p bytes (packed_output p opens.start (length content) (length bytes - (opens.start + end_size p)))
opened_lists p bytes content opens few = inr (record { content = content; opens = opens; few = few; text = refl })

abbrev line_of : Packing → List ℕ → ℕ → ℕ → List ℕ
line_of p bytes start size = packed_member_line p start size (length bytes - (start + end_size p))

pub packed_wrote : (p : Packing) (bytes content : List ℕ) (size : ℕ) (a b : Told) → IsPacked p bytes content → length content ≤ size_limit → size ≡ length content
    → ((start : ℕ) → header_of p bytes ≡ Ok start → Wrote a b (line_of p bytes start size)) → Says (IsPackedMembers p bytes) a b (Ok 0)
packed_wrote p bytes content size a b opens few same w =
    says_wrote (IsPackedMembers p bytes) (packed_output p opens.start (length content) (length bytes - (opens.start + end_size p))) a b (opened_lists p bytes content opens few)
    (subst (λ (n : ℕ). Wrote a b (line_of p bytes opens.start n)) same (w opens.start opens.header))

pub packed_broke : (p : Packing) (bytes content : List ℕ) (size : ℕ) (a b : Told) (answer : Result ℕ Stop) → IsErrAnd answer (λ e. e ≡ stop.Write) → IsPacked p bytes content
    → length content ≤ size_limit → size ≡ length content → ((start : ℕ) → header_of p bytes ≡ Ok start → Broke a b (line_of p bytes start size)) → Says (IsPackedMembers p bytes) a b answer
packed_broke p bytes content size a b answer h opens few same w =
    says_broke (IsPackedMembers p bytes) (packed_output p opens.start (length content) (length bytes - (opens.start + end_size p))) a b answer h (opened_lists p bytes content opens few)
    (subst (λ (n : ℕ). Broke a b (line_of p bytes opens.start n)) same (w opens.start opens.header))

pub unopened : (p : Packing) (bytes : List ℕ) (r : PackedRefusal) → Err r ≡ opened size_limit p bytes → IsPackedMembers p bytes (no_packed_output r)
unopened p bytes r is = inl (r, sym is, refl)

-- ---- a file

pub by_packing : (bytes : List ℕ) (shown o : Option Packing) (a b : Told) (answer : Result ℕ Stop) → shown ≡ packing_of bytes → shown ≡ o → Says (IsMembersBy o bytes) a b answer
    → Says (IsMembersBy (packing_of bytes) bytes) a b answer
by_packing bytes shown o a b answer same is s = subst (λ (x : Option Packing). Says (IsMembersBy x bytes) a b answer) (sym is ∙ same) s

pub answers_members : {S : Type 0} (bytes : List ℕ) (shown tar : Bool) (told : S → Told) (a b : S) (answer : Result ℕ Stop) → shown ≡ begins_as_tar bytes → shown ≡ tar
    → Says (IsMembersAs tar bytes) (told a) (told b) answer → AnswersMembers bytes told a b answer
answers_members bytes shown tar told a b answer same is s =
    let all : Says (IsMembersText bytes) (told a) (told b) answer = subst (λ (t : Bool). Says (IsMembersAs t bytes) (told a) (told b) answer) (sym is ∙ same) s in
    record { whole = all.whole; stopped = all.stopped; fits = all.fits }

-- ---- a tar archive

pub tar_wrote : (bytes : List ℕ) (ms shown : List Member) (a b : Told) → Ok ms ≡ read_tar bytes → shown ≡ ms → Wrote a b (each (tar_member_line bytes) shown)
    → Says (IsTarMembers bytes) a b (Ok 0)
tar_wrote bytes ms shown a b is same w =
    let o : Output = record { text = each (tar_member_line bytes) ms; status = 0 } in
    says_wrote (IsTarMembers bytes) o a b (subst (λ (r : Result (List Member) TarRefusal). IsTarListedBy bytes r o) is refl)
    (subst (λ (l : List Member). Wrote a b (each (tar_member_line bytes) l)) same w)

pub tar_broke : (bytes : List ℕ) (ms shown : List Member) (a b : Told) (answer : Result ℕ Stop) → IsErrAnd answer (λ e. e ≡ stop.Write) → Ok ms ≡ read_tar bytes → shown ≡ ms
    → Broke a b (each (tar_member_line bytes) shown) → Says (IsTarMembers bytes) a b answer
tar_broke bytes ms shown a b answer h is same w =
    let o : Output = record { text = each (tar_member_line bytes) ms; status = 0 } in
    says_broke (IsTarMembers bytes) o a b answer h (subst (λ (r : Result (List Member) TarRefusal). IsTarListedBy bytes r o) is refl)
    (subst (λ (l : List Member). Broke a b (each (tar_member_line bytes) l)) same w)

pub no_tar_is : (bytes : List ℕ) (r : TarRefusal) → Err r ≡ read_tar bytes → IsTarMembers bytes (no_tar_output r)
no_tar_is bytes r is = subst (λ (x : Result (List Member) TarRefusal). IsTarListedBy bytes x (no_tar_output r)) is refl
