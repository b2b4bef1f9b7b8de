-- The text of a tar archive, of what was judged.
use Rattle.std.proofs.Common.{false, ◌≡◌, ◌<◌, ◌≤◌, ℕ, List, [], ◌∷◌, ◌++◌, length, length-append, length-drop, get_or, inr, Ok, Err, refl, ap, subst, ◌∙◌, arith, sym}
use Rattle.std.specs.Prelude.{Result, IfOk}
use Rattle.pickle_doc.specs.Document.{Contents, ReadsAs, size_limit}
use Rattle.pickle_gate.specs.declared.verdict.Verdict.{Verdict}
use Rattle.pickle_script.specs.GateText.{line_for}
use Rattle.pickle_allow.specs.declared.list.Entry.{Entry as Allowed}
use Rattle.npy_form.specs.Npy.{header_size, behind_header}
use Rattle.tar_archive.specs.declared.reason.Refusal.{Refusal}
use Rattle.tar_archive.specs.declared.member.Member.{Member}
use Rattle.tar_archive.specs.Field.{text}
use Rattle.tar_archive.specs.Tar.{read_tar}
use Rattle.archive_gate.specs.declared.fault.Fault.{Fault}
use Rattle.archive_gate.specs.declared.fault.Fault.TheVariants as fault
use Rattle.archive_gate.specs.declared.fault.ArrayFault.TheVariants as array_fault
use Rattle.archive_gate.specs.declared.fault.Failing.{Failing}
use Rattle.archive_gate.specs.Tar.{IsFailingIn}
use Rattle.archive_script.specs.declared.judged.Single.{Single}
use Rattle.archive_script.specs.FaultText.{fault_output}
use Rattle.archive_script.specs.TarText.{IsLineOf, IsMemberText, IsTarVerdict, IsTarMembersText, IsTarBy, IsTarText, no_tar_output}
use Rattle.archive_script.specs.SingleText.{single_output}

-- ---- the member that does not pass

pub there_in : (list : List Allowed) (bytes : List ℕ) (ms : List Member) (f : Failing) → IsFailingIn list bytes ms f → f.place < length ms
there_in list bytes ms f is = rw (is.is, is.place) (omega (arith, length-append is.before (is.member ∷ is.after)))

at_place : (before : List Member) (m : Member) (after : List Member) (d : Member) → get_or (before ++ m ∷ after) (length before) d ≡ m
at_place [] m after d = refl
at_place (b ∷ before) m after d = at_place before m after d

pub is_there_in : (list : List Allowed) (bytes : List ℕ) (ms : List Member) (f : Failing) (is : IsFailingIn list bytes ms f) (d : Member) → get_or ms f.place d ≡ is.member
is_there_in list bytes ms f is d = rw (is.is, is.place) (at_place is.before is.member is.after d)

pub behind_short : (bytes shown : List ℕ) → shown ≡ behind_header bytes → length bytes ≤ size_limit → length shown ≤ size_limit
behind_short bytes shown same few = omega (arith, ap (λ (l : List ℕ). length l) same, length-drop (header_size bytes) bytes, few)

-- the line for what is behind the header
pub line_shown : {V E : Type 0} (items : V → List ℕ) (bytes shown : List ℕ) (v : Verdict) (r : Result V E) → shown ≡ behind_header bytes
    → IfOk r (λ line. (d : Contents) → ReadsAs false shown d → items line ≡ line_for d v) → IfOk r (λ line. IsLineOf bytes (fault.Array (array_fault.Refused v)) (items line))
line_shown items bytes shown v (Ok line) same is = λ d reads. is d (subst (λ (x : List ℕ). ReadsAs false x d) (sym same) reads)
line_shown items bytes shown v (Err e) same is = tt

pub held_is : (bytes : List ℕ) (m : Member) (f : Fault) (name line held shown : List ℕ) → held ≡ text bytes m.content → shown ≡ text bytes m.name → name ≡ shown → IsLineOf held f line
    → IsMemberText bytes m f (fault_output name line f)
held_is bytes m f name line held shown same shows same_name is = record {
  line = line;
  line_is = subst (λ (x : List ℕ). IsLineOf x f line) same is;
  text_is = ap (λ (n : List ℕ). fault_output n line f) (same_name ∙ shows);
}

pub failing_in : {E : Type 0} (list : List Allowed) (bytes : List ℕ) (ms : List Member) (f : Failing) (is : IsFailingIn list bytes ms f) (shown : Member) (r : Result Single E)
    → shown ≡ is.member → IfOk r (λ s. IsMemberText bytes shown f.fault (single_output s)) → IfOk r (λ s. IsTarVerdict list bytes ms (single_output s))
failing_in list bytes ms f is shown (Ok s) same t =
    inr (record { failing = f; is = is; said = subst (λ (m : Member). IsMemberText bytes m f.fault (single_output s)) same t })
failing_in list bytes ms f is shown (Err e) same t = tt

-- ---- the archive

pub members_in : {E : Type 0} (list : List Allowed) (bytes : List ℕ) (ms shown : List Member) (r : Result Single E) → Ok ms ≡ read_tar bytes → shown ≡ ms
    → IfOk r (λ s. IsTarMembersText list bytes shown (single_output s)) → IfOk r (λ s. IsTarText list bytes (single_output s))
members_in list bytes ms shown (Ok s) is same t =
    subst (λ (x : Result (List Member) Refusal). IsTarBy list bytes x (single_output s)) is (subst (λ (l : List Member). IsTarMembersText list bytes l (single_output s)) same t)
members_in list bytes ms shown (Err e) is same t = tt

pub no_tar : (list : List Allowed) (bytes : List ℕ) (r : Refusal) → Err r ≡ read_tar bytes → IsTarText list bytes (no_tar_output r)
no_tar list bytes r is = subst (λ (x : Result (List Member) Refusal). IsTarBy list bytes x (no_tar_output r)) is refl
