-- Where an archive passes, no member fails, unless loaders may read it in too many ways.
use Rattle.std.proofs.Common.{◌≡◌, ◌≢◌, ℕ, zero, suc, ◌<◌, ◌≤◌, ◌^◌, Bool, true, false, List, [], ◌∷◌, ◌++◌, length, length-drop, drop, Some, Ok, Err, inl, inr, refl, sym, ap, subst, ◌∙◌, arith}
use Rattle.std.specs.Prelude.{Result}
use Rattle.pickle_doc.specs.Document.{AreBytes, size_limit}
use Rattle.pickle_allow.specs.declared.list.Entry.{Entry as Allowed}
use Rattle.pickle_gate.specs.declared.verdict.Verdict.{Verdict}
use Rattle.pickle_gate.specs.declared.verdict.Verdict.TheVariants as verdict
use Rattle.pickle_gate.proofs.Verdicts.{verdicts_are_true, one_verdict}
use Rattle.pickle_lenient.specs.declared.taken.Frames.{Frames}
use Rattle.pickle_reach.specs.declared.granted.Granted.{Granted}
use Rattle.pickle_reach.specs.declared.answer.Reach.{Reach}
use Rattle.pickle_reach.specs.declared.answer.Reach.TheVariants as answer
use Rattle.pickle_reach.specs.declared.spot.Spot.{Spot}
use Rattle.pickle_reach.specs.declared.spot.Step.{Step}
use Rattle.pickle_reach.specs.declared.spot.Step.TheVariants as step
use Rattle.pickle_reach.specs.Reach.{Turn, as_shown, first_spot, step_at, reaches_on, reaches_from, stands_on, stands_from, NothingFrom, IsReach}
use Rattle.zip_archive.specs.Entry.{Entry}
use Rattle.zip_archive.specs.Reader.{member_of}
use Rattle.archive_gate.specs.declared.fault.Fault.{Fault}
use Rattle.archive_gate.specs.declared.fault.Fault.TheVariants as fault
use Rattle.zip_open.specs.Opened.{OpensTo, IsOpenable, AreOpenable, unpacked_total}
use Rattle.npy_form.specs.declared.reason.Refusal.{Refusal}
use Rattle.npy_form.specs.declared.array.Held.{Held}
use Rattle.npy_form.specs.declared.array.Held.TheVariants as held
use Rattle.npy_form.specs.Npy.{header_size, behind_header}
use Rattle.archive_gate.specs.declared.fault.ArrayFault.{ArrayFault}
use Rattle.archive_gate.specs.declared.fault.ArrayFault.TheVariants as array_fault
use Rattle.archive_gate.specs.Members.{with_ids, Gives, ArrayPasses, BytesPass, MemberPasses, AllPass, ArrayFails, BytesFail, IsRefusedAs, OpenedFails, HasFault}
use Rattle.archive_gate.specs.Tar.{HasWays}
use Rattle.archive_gate.specs.File.{NoneFails}
use Rattle.zip_open.proofs.Opening.{same_opening, broken_opens, small_opened}
use Rattle.zip_open.proofs.Openable.{openable_in, openable_among}
use Rattle.zip_archive.proofs.Whole.{one_zip}

-- ---- a member among others

among_pass : (list : List Allowed) (before : List Entry) (e : Entry) (after : List Entry) → AllPass list (before ++ e ∷ after) → MemberPasses list (member_of e)
among_pass list [] e after a = a.0
among_pass list (b ∷ before) e after a = among_pass list before e after a.1

-- ---- something is reached

abbrev turn_of : Frames → Turn
turn_of f = record { frames = f; shown = false }

reaches_there : (g : Granted) (bytes : List ℕ) (mix : List Turn) (from s : Spot) (f : Frames) → stands_from g bytes mix from ≡ Some s → step_at g bytes f s ≡ step.Reaches
    → reaches_from g bytes (mix ++ turn_of f ∷ []) from ≡ true
unfolding stands_from reaches_from
reaches_there g bytes [] from s f stands reaches =
    let here : from ≡ s = cc in
    ap (λ (x : Step). reaches_on x (λ t. reaches_from g bytes [] (as_shown false t))) (ap (step_at g bytes f) here ∙ reaches)
reaches_there g bytes (turn ∷ mix) from s f stands reaches =
    go (λ t h. reaches_there g bytes mix (as_shown turn.shown t) s f h reaches) (step_at g bytes turn.frames from) stands
  where
    go : ((t : Spot) → stands_from g bytes mix (as_shown turn.shown t) ≡ Some s → reaches_from g bytes (mix ++ turn_of f ∷ []) (as_shown turn.shown t) ≡ true)
        → (x : Step) → stands_on x (λ t. stands_from g bytes mix (as_shown turn.shown t)) ≡ Some s
        → reaches_on x (λ t. reaches_from g bytes (mix ++ turn_of f ∷ []) (as_shown turn.shown t)) ≡ true
    go further step.Reaches h = refl
    go further step.Ends h = absurd cc
    go further (step.Goes t) h = further t h

-- where nothing is reached, another answer can only be that there are too many ways
pub only_ways : (g : Granted) (bytes : List ℕ) (r : Reach) → NothingFrom g bytes first_spot → IsReach g bytes r → ((offset : ℕ) (settled : Bool) → r ≢ answer.Nothing offset settled)
    → IsReach g bytes answer.TooMany
only_ways g bytes (answer.Nothing offset settled) nothing is other = absurd (other offset settled refl)
only_ways g bytes (answer.At spot frames) nothing is other =
    let bad : false ≡ true = sym (nothing (is.stands.0 ++ turn_of frames ∷ [])) ∙ reaches_there g bytes is.stands.0 first_spot spot frames is.stands.1 is.reaches in
    absurd cc
only_ways g bytes answer.TooMany nothing is other = is

-- ---- a member that passes has no fault

refused_ways : (list : List Allowed) (bytes : List ℕ) (v : Verdict) → AreBytes bytes → length bytes ≤ size_limit → Gives list bytes → IsRefusedAs list bytes v
    → IsReach with_ids bytes answer.TooMany
refused_ways list bytes v small few (inl passes) r =
    let less : length bytes < 2 ^ 64 = omega (arith, few) in
    let one = one_verdict list bytes small less in
    let here : one.0 ≡ v = one.2 v r.refusal.said in
    let there : one.0 ≡ verdict.Passes = one.2 verdict.Passes ((verdicts_are_true list bytes few).says passes) in
    absurd (r.refusal.other (sym here ∙ there))
refused_ways list bytes v small few (inr (inl raises)) r = let bad : false ≡ true = sym r.goes ∙ raises in absurd cc
refused_ways list bytes v small few (inr (inr nothing)) r = only_ways with_ids bytes r.found nothing r.reach r.reaches

pub dropped_bytes : (n : ℕ) (xs : List ℕ) → AreBytes xs → AreBytes (drop n xs)
dropped_bytes zero xs h = h
dropped_bytes (suc n) [] h = h
dropped_bytes (suc n) (x ∷ xs) h = dropped_bytes n xs (λ i. h (suc i))

-- an array is read as one thing
pub not_both : {r : Result Held Refusal} {h : Held} {e : Refusal} → r ≡ Ok h → r ≡ Err e → ⊥
not_both {r} {h} {e} is other = let bad : ◌≡◌ {A = Result Held Refusal} (Ok h) (Err e) = sym is ∙ other in absurd cc

pub not_numbers : {r : Result Held Refusal} → r ≡ Ok held.Numbers → r ≡ Ok held.Pickle → ⊥
not_numbers {r} is other = let bad : ◌≡◌ {A = Result Held Refusal} (Ok held.Numbers) (Ok held.Pickle) = sym is ∙ other in absurd cc

array_ways : (list : List Allowed) (bytes : List ℕ) (f : ArrayFault) → AreBytes bytes → length bytes ≤ size_limit → ArrayPasses list bytes → ArrayFails list bytes f
    → IsReach with_ids (behind_header bytes) answer.TooMany
array_ways list bytes (array_fault.Form r) small few (inl numbers) has = absurd (not_both numbers has)
array_ways list bytes (array_fault.Form r) small few (inr pickle) has = absurd (not_both pickle.0 has)
array_ways list bytes (array_fault.Refused v) small few (inl numbers) has = absurd (not_numbers numbers has.0)
array_ways list bytes (array_fault.Refused v) small few (inr pickle) has =
    let less : length (behind_header bytes) ≤ size_limit = omega (arith, few, length-drop (header_size bytes) bytes) in
    refused_ways list (behind_header bytes) v (dropped_bytes (header_size bytes) bytes small) less pickle.1 has.1

pub held_ways : (list : List Allowed) (bytes : List ℕ) (f : Fault) → AreBytes bytes → length bytes ≤ size_limit → BytesPass list bytes → BytesFail list bytes f → HasWays bytes
held_ways list bytes (fault.Broken b) small few p has = absurd has
held_ways list bytes fault.Archive small few p has = let bad : false ≡ true = sym p.apart ∙ has in absurd cc
held_ways list bytes (fault.Refused v) small few p has = inl (refused_ways list bytes v small few p.gives has)
held_ways list bytes (fault.Array f) small few p has = inr (array_ways list bytes f small few (p.array has.0) has.1)

-- what a member opens to, of which there are too many ways to read it or what is behind its header
record EntryWays (e : Entry) : Type 0 where
  held : List ℕ
  opens : OpensTo (member_of e) held
  ways : HasWays held

fails_ways : (list : List Allowed) (e : Entry) (f : Fault) → IsOpenable e → MemberPasses list (member_of e) → OpenedFails list (member_of e) f → EntryWays e
fails_ways list e f o m has =
    let same : has.bytes ≡ m.bytes = same_opening (member_of e) m.bytes has.bytes m.opens has.opens in
    record {
      held = has.bytes;
      opens = has.opens;
      ways = held_ways list has.bytes f has.small (small_opened e has.bytes o has.opens) (subst (BytesPass list) (sym same) m.pass) has.fail;
    }

fault_ways : (list : List Allowed) (e : Entry) (f : Fault) → IsOpenable e → MemberPasses list (member_of e) → HasFault list e f → EntryWays e
fault_ways list e (fault.Broken b) o m has = absurd (broken_opens (member_of e) b has m.bytes m.opens)
fault_ways list e fault.Archive o m has = fails_ways list e fault.Archive o m has
fault_ways list e (fault.Refused v) o m has = fails_ways list e (fault.Refused v) o m has
fault_ways list e (fault.Array f) o m has = fails_ways list e (fault.Array f) o m has

pub none_fails : NoneFails
none_fails list bytes es f few p z failing =
    let same : p.entries ≡ es = one_zip bytes p.entries es p.archive z in
    let parts : p.entries ≡ failing.before ++ failing.entry ∷ failing.after = same ∙ failing.is in
    let passes : AllPass list (failing.before ++ failing.entry ∷ failing.after) = subst (AllPass list) parts p.members in
    let within : unpacked_total es ≤ size_limit = subst (λ (l : List Entry). unpacked_total l ≤ size_limit) same p.within in
    let all : AreOpenable (failing.before ++ failing.entry ∷ failing.after) = subst AreOpenable failing.is (openable_in bytes es z few within) in
    let found = fault_ways list failing.entry f.fault (openable_among failing.before failing.entry failing.after all) (among_pass list failing.before failing.entry failing.after passes) failing.has in
    record {
      entries = es;
      archive = z;
      before = failing.before;
      entry = failing.entry;
      after = failing.after;
      is = failing.is;
      held = found.held;
      opens = found.opens;
      ways = found.ways;
    }
