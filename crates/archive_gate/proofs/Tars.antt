-- Members of a tar archive that pass, one after another.
use Rattle.std.proofs.Common.{◌≡◌, ℕ, zero, suc, ◌+◌, ◌-◌, ◌<◌, ◌≤◌, true, false, List, [], ◌∷◌, ◌++◌, length, length-take, length-drop, take, drop, get_or, map, inl, inr, refl, sym, ap, subst, ◌∙◌, arith}
use Rattle.std.specs.Prelude.{All, Option, Some, Result, Ok}
use Rattle.std.proofs.lemmas.List.{drop_more, take_more, take-append-drop, length-take-le}
use Rattle.pickle_doc.specs.Document.{AreBytes, size_limit}
use Rattle.pickle_allow.specs.declared.list.Entry.{Entry as Allowed}
use Rattle.pickle_reach.specs.declared.answer.Reach.TheVariants as answer
use Rattle.pickle_reach.specs.Reach.{IsReach}
use Rattle.tar_archive.specs.declared.reason.Refusal.{Refusal}
use Rattle.tar_archive.specs.declared.field.Span.{Span}
use Rattle.tar_archive.specs.declared.member.Member.{Member}
use Rattle.tar_archive.specs.Field.{span, text}
use Rattle.tar_archive.specs.Tar.{member, read_tar}
use Rattle.tar_archive.specs.Written.{IsTar}
use Rattle.tar_archive.specs.Tarfile.{Found}
use Rattle.tar_archive.specs.Laws.{found_of}
use Rattle.tar_archive.proofs.Taken.{what_is_read_is_written}
use Rattle.tar_archive.proofs.Agreeing.{tarfile_agrees}
use Rattle.archive_gate.specs.declared.fault.Fault.{Fault}
use Rattle.archive_gate.specs.Members.{alone, BytesPass, BytesFail}
use Rattle.archive_gate.specs.Itself.{GivesNothingItself, MayGive}
use Rattle.archive_gate.specs.Tar.{AllHeldPass, IsFailingIn, ByHeaderPasses, NoneFailsInTar}
use Rattle.archive_gate.proofs.Deciding.{only_ways, held_ways}

-- ---- what is in a member

pub no_member : Member
no_member = member (span 0 0) false (span 0 0)

pub text_short : (bytes : List ℕ) (s : Span) → length (text bytes s) ≤ length bytes
text_short bytes s = omega (arith, length-take (s.end - s.start) (drop s.start bytes), length-drop s.start bytes)

pub held_few : (bytes held : List ℕ) (s : Span) → held ≡ text bytes s → length bytes ≤ size_limit → length held ≤ size_limit
held_few bytes held s same few = let short : length held ≤ length bytes = subst (λ (x : List ℕ). length x ≤ length bytes) (sym same) (text_short bytes s) in omega (arith, short, few)

-- ---- one more

held_more : (list : List Allowed) (bytes : List ℕ) (ms : List Member) (m : Member) → AllHeldPass list bytes ms → BytesPass list (text bytes m.content) → AllHeldPass list bytes (ms ++ m ∷ [])
held_more list bytes [] m a p = (p, tt)
held_more list bytes (x ∷ ms) m a p = (a.0, held_more list bytes ms m a.1 p)

pub held_next : (list : List Allowed) (bytes : List ℕ) (ms : List Member) (i : ℕ) (d : Member) (held : List ℕ) → i < length ms → held ≡ text bytes (get_or ms i d).content
    → AllHeldPass list bytes (take i ms) → BytesPass list held → AllHeldPass list bytes (take (i + 1) ms)
held_next list bytes ms i d held below same a p =
    subst (AllHeldPass list bytes) (sym (take_more ms i d below)) (held_more list bytes (take i ms) (get_or ms i d) a (subst (BytesPass list) same p))

pub held_fails : (list : List Allowed) (bytes : List ℕ) (ms : List Member) (i : ℕ) (d : Member) (held : List ℕ) (f : Fault) → i < length ms → held ≡ text bytes (get_or ms i d).content
    → AllHeldPass list bytes (take i ms) → AreBytes held → BytesFail list held f → IsFailingIn list bytes ms (record { place = i; fault = f })
held_fails list bytes ms i d held f below same a small fail = record {
  before = take i ms;
  member = get_or ms i d;
  after = drop (i + 1) ms;
  is = sym (take-append-drop i ms) ∙ ap (λ (x : List Member). take i ms ++ x) (drop_more ms i d below);
  place = sym (length-take-le i ms (omega arith));
  passed = a;
  small = subst AreBytes same small;
  fail = subst (λ (x : List ℕ). BytesFail list x f) same fail;
}

-- ---- what readers find

all_held : (list : List Allowed) (bytes : List ℕ) (ms : List Member) → AllHeldPass list bytes ms → All (λ (f : Found). BytesPass list f.content) (map (found_of bytes) ms)
all_held list bytes [] a k d below = absurd (omega arith)
all_held list bytes (m ∷ ms) a zero d below = a.0
all_held list bytes (m ∷ ms) a (suc k) d below = all_held list bytes ms a.1 k d (omega arith)

some_same : (a b : List Found) → ◌≡◌ {A = Option (List Found)} (Some a) (Some b) → a ≡ b
some_same a b e = cc

pub by_header_passes : ByHeaderPasses
by_header_passes list bytes found p reads =
    let written : IsTar bytes p.members = what_is_read_is_written bytes p.members p.archive in
    let same : map (found_of bytes) p.members ≡ found = some_same (map (found_of bytes) p.members) found (sym (tarfile_agrees bytes p.members written) ∙ reads) in
    subst (All (λ (f : Found). BytesPass list f.content)) same (all_held list bytes p.members p.held)

-- ---- where an archive passes

pub one_reading : (a b : List Member) (r : Result (List Member) Refusal) → r ≡ Ok a → r ≡ Ok b → a ≡ b
one_reading a b r is other = let same : ◌≡◌ {A = Result (List Member) Refusal} (Ok a) (Ok b) = sym is ∙ other in cc

among_held : (list : List Allowed) (bytes : List ℕ) (before : List Member) (m : Member) (after : List Member) → AllHeldPass list bytes (before ++ m ∷ after) → BytesPass list (text bytes m.content)
among_held list bytes [] m after a = a.0
among_held list bytes (b ∷ before) m after a = among_held list bytes before m after a.1

pub none_fails_in_tar : NoneFailsInTar
none_fails_in_tar list bytes ms f few p reads failing =
    let parts : p.members ≡ failing.before ++ failing.member ∷ failing.after = one_reading p.members ms (read_tar bytes) p.archive reads ∙ failing.is in
    let passes : AllHeldPass list bytes (failing.before ++ failing.member ∷ failing.after) = subst (AllHeldPass list bytes) parts p.held in
    let content : List ℕ = text bytes failing.member.content in
    record {
      members = p.members;
      archive = p.archive;
      before = failing.before;
      member = failing.member;
      after = failing.after;
      is = parts;
      ways = held_ways list content f.fault failing.small (held_few bytes content failing.member.content refl few)
          (among_held list bytes failing.before failing.member failing.after passes) failing.fail;
    }

-- ---- the archive as a pickle

pub itself_ways : (bytes : List ℕ) → GivesNothingItself bytes → MayGive bytes → IsReach alone bytes answer.TooMany
itself_ways bytes (inl takes) m = let bad : false ≡ true = sym m.goes ∙ takes in absurd cc
itself_ways bytes (inr nothing) m = only_ways alone bytes m.found nothing m.reach m.reaches
