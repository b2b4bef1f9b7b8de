-- Members that pass, one after another.
use Rattle.std.proofs.Common.{◌≡◌, ℕ, zero, suc, ◌+◌, ◌<◌, List, [], ◌∷◌, ◌++◌, length, take, drop, get_or, map, sym, ap, subst, ◌∙◌, arith}
use Rattle.std.specs.Prelude.{All, Result, Ok, Err, Option, Some, None, IfOk, MatchOption}
use Rattle.std.proofs.lemmas.List.{drop_more, take_more, take-append-drop, length-take-le}
use Rattle.pickle_doc.specs.Document.{AreBytes}
use Rattle.pickle_allow.specs.declared.list.Entry.{Entry as Allowed}
use Rattle.zip_archive.specs.Entry.{Entry}
use Rattle.zip_archive.specs.Archive.{Counts}
use Rattle.zip_archive.specs.Reader.{member_of, ByDirectoryAgrees}
use Rattle.archive_gate.specs.declared.fault.Fault.{Fault}
use Rattle.archive_gate.specs.declared.fault.Fault.TheVariants as fault
use Rattle.zip_open.specs.Opened.{OpensTo}
use Rattle.archive_gate.specs.Members.{BytesPass, MemberPasses, AllPass, BytesFail, HasFault, IsFailing, EachMemberPasses, WhatIsReadPasses}
use Rattle.zip_open.proofs.Opening.{one_opening}

-- ---- one more

passes_more : (list : List Allowed) (es : List Entry) (e : Entry) → AllPass list es → MemberPasses list (member_of e) → AllPass list (es ++ e ∷ [])
passes_more list [] e a m = (m, tt)
passes_more list (x ∷ es) e a m = (a.0, passes_more list es e a.1 m)

pub passes_next : (list : List Allowed) (es : List Entry) (i : ℕ) (d : Entry) → i < length es → AllPass list (take i es) → MemberPasses list (member_of (get_or es i d))
    → AllPass list (take (i + 1) es)
passes_next list es i d below a m = subst (AllPass list) (sym (take_more es i d below)) (passes_more list (take i es) (get_or es i d) a m)

pub fails_here : (list : List Allowed) (es : List Entry) (i : ℕ) (d : Entry) (f : Fault) → i < length es → AllPass list (take i es) → HasFault list (get_or es i d) f
    → IsFailing list es (record { place = i; fault = f })
fails_here list es i d f below a has = record {
  before = take i es;
  entry = get_or es i d;
  after = drop (i + 1) es;
  is = sym (take-append-drop i es) ∙ ap (λ (x : List Entry). take i es ++ x) (drop_more es i d below);
  place = sym (length-take-le i es (omega arith));
  passed = a;
  has = has;
}

-- ---- one member

found_in : (list : List Allowed) (e : Entry) (bytes : List ℕ) (f : Fault) → OpensTo (member_of e) bytes → AreBytes bytes → BytesFail list bytes f → HasFault list e f
found_in list e bytes (fault.Broken b) opens small found = absurd found
found_in list e bytes fault.Archive opens small found = record { bytes = bytes; opens = opens; small = small; fail = found }
found_in list e bytes (fault.Refused v) opens small found = record { bytes = bytes; opens = opens; small = small; fail = found }
found_in list e bytes (fault.Array f) opens small found = record { bytes = bytes; opens = opens; small = small; fail = found }

-- what is said of the bytes that a member opens to is said of it
pub of_opened : {E : Type 0} (list : List Allowed) (e : Entry) (bytes shown : List ℕ) (r : Result (Option Fault) E) → shown ≡ bytes → OpensTo (member_of e) bytes → AreBytes shown
    → IfOk r (λ o. MatchOption o (BytesPass list shown) (λ f. BytesFail list shown f))
    → IfOk r (λ o. MatchOption o (MemberPasses list (member_of e)) (λ f. HasFault list e f))
of_opened list e bytes shown (Ok None) same opens small passes = record { bytes = shown; opens = subst (OpensTo (member_of e)) (sym same) opens; pass = passes }
of_opened list e bytes shown (Ok (Some f)) same opens small found = found_in list e shown f (subst (OpensTo (member_of e)) (sym same) opens) small found
of_opened list e bytes shown (Err x) same opens small found = tt

-- ---- what readers find

all_found : (list : List Allowed) (es : List Entry) → AllPass list es → All (MemberPasses list) (map member_of es)
all_found list [] a k d below = absurd (omega arith)
all_found list (e ∷ es) a zero d below = a.0
all_found list (e ∷ es) a (suc k) d below = all_found list es a.1 k d (omega arith)

pub each_passes : (told : List ℕ → ℕ → Counts) → ByDirectoryAgrees told → EachMemberPasses told
each_passes told agrees list bytes p = subst (All (MemberPasses list)) (sym (agrees bytes p.entries p.archive)) (all_found list p.entries p.members)

pub read_passes : WhatIsReadPasses
read_passes list m read p r =
    let same : read ≡ p.bytes = one_opening m p.bytes read p.opens r in
    record { opens = subst (OpensTo m) (sym same) p.opens; pass = subst (BytesPass list) (sym same) p.pass }
