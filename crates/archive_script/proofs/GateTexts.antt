-- The text of the gate, of what was judged.
use Rattle.std.proofs.Common.{◌≡◌, ◌<◌, ◌≤◌, ℕ, true, false, List, [], ◌∷◌, ◌++◌, length, length-append, length-drop, get_or, inl, inr, Ok, Err, refl, sym, ap, subst, ◌∙◌, arith}
use Rattle.std.specs.Prelude.{Result, IfOk, IsErrAnd}
use Rattle.pickle_io.specs.Device.{Told, Wrote, Broke}
use Rattle.pickle_doc.specs.Document.{Contents, ReadsAs, AreBytes, size_limit}
use Rattle.pickle_text.specs.Output.{Output}
use Rattle.pickle_allow.specs.declared.list.Entry.{Entry as Allowed}
use Rattle.pickle_allow.specs.declared.listing.Listing.{Listing}
use Rattle.pickle_allow.specs.Grammar.{IsListing}
use Rattle.pickle_gate.specs.declared.verdict.Verdict.{Verdict}
use Rattle.pickle_gate.specs.Verdict.{IsVerdict}
use Rattle.pickle_script.specs.GateText.{line_for, verdict_text, verdict_status, StopsGate}
use Rattle.pickle_script.proofs.GateTexts.{tells}
use Rattle.pickle_script.specs.declared.stop.Stop.{Stop}
use Rattle.pickle_script.specs.declared.stop.Stop.TheVariants as stop
use Rattle.zip_archive.specs.declared.reason.Refusal.{Refusal}
use Rattle.zip_archive.specs.Entry.{Entry}
use Rattle.zip_archive.specs.Archive.{IsZip, NoZip, are_distinct, any_case}
use Rattle.zip_archive.specs.Refused.{IsRefused}
use Rattle.zip_archive.specs.Reader.{member_of}
use Rattle.zip_open.specs.declared.broken.Broken.{Broken}
use Rattle.archive_gate.specs.declared.fault.Failing.{Failing}
use Rattle.archive_gate.specs.declared.fault.Fault.TheVariants as fault
use Rattle.zip_open.specs.Opened.{OpensTo, IsBroken, IsOpenable, AreOpenable, unpacked_total}
use Rattle.packed_stream.specs.declared.reason.Packing.{Packing}
use Rattle.packed_stream.specs.declared.reason.Refusal.{Refusal as PackedRefusal}
use Rattle.packed_stream.specs.Packed.{IsPacked, opened}
use Rattle.npy_form.specs.declared.reason.Refusal.{Refusal as ArrayRefusal}
use Rattle.npy_form.specs.declared.array.Held.{Held}
use Rattle.npy_form.specs.Npy.{header_size, behind_header, read_array}
use Rattle.archive_gate.specs.declared.kind.Kind.{Kind}
use Rattle.archive_gate.specs.declared.fault.ArrayFault.TheVariants as array_fault
use Rattle.archive_gate.specs.Kind.{kind_of}
use Rattle.archive_gate.specs.Members.{IsFailing}
use Rattle.zip_open.proofs.Opening.{same_opening, broken_opens, small_opened}
use Rattle.zip_open.proofs.Openable.{openable_among}
use Rattle.archive_script.specs.MembersText.{refusal_output}
use Rattle.archive_script.specs.declared.judged.Judged.{Judged}
use Rattle.archive_script.specs.declared.judged.Single.{Single}
use Rattle.archive_script.specs.SingleText.{single_output, inside_output, no_packed_output, held_text, IsBehindText, IsHeldText, IsArrayText, IsSingleText, IsPackedText, Says}
use Rattle.archive_script.specs.FaultText.{fault_output}
use Rattle.archive_script.specs.GateText.{judged_output, IsLineIn, IsMembersVerdict, IsEntriesText, IsArchiveText, IsTextAs, IsFileText, IsNamedText, named_output, AnswersWith}

-- ---- an answer

pub says_wrote : (Is : Output → Type 0) (o : Output) (a b : Told) → Is o → Wrote a b o.text → Says Is a b (Ok o.status)
says_wrote Is o a b is w = record { whole = (o, is, w, refl); stopped = tt; fits = λ e. absurd cc }

pub says_broke : (Is : Output → Type 0) (o : Output) (a b : Told) (answer : Result ℕ Stop) → IsErrAnd answer (λ e. e ≡ stop.Write) → Is o → Broke a b o.text → Says Is a b answer
says_broke Is o a b (Ok status) h is w = absurd h
says_broke Is o a b (Err e) h is w = rw h (record { whole = tt; stopped = (o, is, w); fits = λ e. absurd cc })

-- without memory nothing was written
pub says_nothing : (Is : Output → Type 0) (a : Told) (answer : Result ℕ Stop) → IsErrAnd answer (λ e. e ≡ stop.Memory) → Says Is a a answer
says_nothing Is a (Ok status) h = absurd h
says_nothing Is a (Err e) h = rw h (record { whole = tt; stopped = refl; fits = λ e. absurd cc })

stops_wider : (Is Js : Output → Type 0) (a b : Told) (e : Stop) → ((o : Output) → Is o → Js o) → StopsGate Is a b e → StopsGate Js a b e
stops_wider Is Js a b stop.Read f w = absurd w
stops_wider Is Js a b stop.Write f w = (w.0, f w.0 w.1, w.2)
stops_wider Is Js a b stop.TooLarge f w = w
stops_wider Is Js a b stop.Memory f w = w

pub says_wider : (Is Js : Output → Type 0) (a b : Told) (answer : Result ℕ Stop) → ((o : Output) → Is o → Js o) → Says Is a b answer → Says Js a b answer
says_wider Is Js a b (Ok status) f s = let w = s.whole in record { whole = (w.0, f w.0 w.1, w.2, w.3); stopped = tt; fits = s.fits }
says_wider Is Js a b (Err e) f s = record { whole = tt; stopped = stops_wider Is Js a b e f s.stopped; fits = s.fits }

-- ---- a member

-- there is such a member
pub there : (list : List Allowed) (es : List Entry) (f : Failing) → IsFailing list es f → f.place < length es
there list es f is = rw (is.is, is.place) (omega (arith, length-append is.before (is.entry ∷ is.after)))

at_place : (before : List Entry) (e : Entry) (after : List Entry) (d : Entry) → get_or (before ++ e ∷ after) (length before) d ≡ e
at_place [] e after d = refl
at_place (b ∷ before) e after d = at_place before e after d

-- and it is the one at the place
pub is_there : (list : List Allowed) (es : List Entry) (f : Failing) (is : IsFailing list es f) (d : Entry) → get_or es f.place d ≡ is.entry
is_there list es f is d = rw (is.is, is.place) (at_place is.before is.entry is.after d)

pub openable_failing : (list : List Allowed) (es : List Entry) (f : Failing) (is : IsFailing list es f) (shown : Entry) → shown ≡ is.entry → AreOpenable es → IsOpenable shown
openable_failing list es f is shown same a = subst IsOpenable (sym same) (openable_among is.before is.entry is.after (subst AreOpenable is.is a))

-- the line for bytes that a member opens to is the line for it
pub line_inside : {V E : Type 0} (items : V → List ℕ) (e : Entry) (v : Verdict) (held shown : List ℕ) (r : Result V E) → shown ≡ held → OpensTo (member_of e) held
    → IfOk r (λ line. (d : Contents) → ReadsAs false shown d → items line ≡ line_for d v) → IfOk r (λ line. IsLineIn e (fault.Refused v) (items line))
line_inside items e v held shown (Ok line) same opens is =
    λ bytes o d reads. is d (subst (λ (x : List ℕ). ReadsAs false x d) (same_opening (member_of e) held bytes opens o ∙ sym same) reads)
line_inside items e v held shown (Err x) same opens is = tt

pub line_behind : {V E : Type 0} (items : V → List ℕ) (e : Entry) (v : Verdict) (held shown : List ℕ) (r : Result V E) → shown ≡ behind_header held → OpensTo (member_of e) held
    → IfOk r (λ line. (d : Contents) → ReadsAs false shown d → items line ≡ line_for d v) → IfOk r (λ line. IsLineIn e (fault.Array (array_fault.Refused v)) (items line))
line_behind items e v held shown (Ok line) same opens is =
    λ bytes o d reads. is d (subst (λ (x : List ℕ). ReadsAs false x d) (ap behind_header (same_opening (member_of e) held bytes opens o) ∙ sym same) reads)
line_behind items e v held shown (Err x) same opens is = tt

pub behind_few : (e : Entry) (held shown : List ℕ) → IsOpenable e → OpensTo (member_of e) held → shown ≡ behind_header held → length shown ≤ size_limit
behind_few e held shown o opens same =
    omega (arith, small_opened e held o opens, ap (λ (l : List ℕ). length l) same, length-drop (header_size held) held)

-- of a member that does not open any line is
pub no_line_inside : (e : Entry) (v : Verdict) (b : Broken) (line : List ℕ) → IsBroken (member_of e) b → IsLineIn e (fault.Refused v) line
no_line_inside e v b line is = λ bytes o. absurd (broken_opens (member_of e) b is bytes o)

pub no_line_behind : (e : Entry) (v : Verdict) (b : Broken) (line : List ℕ) → IsBroken (member_of e) b → IsLineIn e (fault.Array (array_fault.Refused v)) line
no_line_behind e v b line is = λ bytes o. absurd (broken_opens (member_of e) b is bytes o)

pub failing_is : (list : List Allowed) (es : List Entry) (f : Failing) (is : IsFailing list es f) (shown : Entry) (name line : List ℕ) → shown ≡ is.entry → name ≡ shown.name
    → IsLineIn shown f.fault line → IsMembersVerdict list es (fault_output name line f.fault)
failing_is list es f is shown name line same same_name here = inr (record {
  failing = f;
  is = is;
  line = line;
  line_is = subst (λ (e : Entry). IsLineIn e f.fault line) same here;
  text = ap (λ (n : List ℕ). fault_output n line f.fault) (same_name ∙ ap (λ (e : Entry). e.name) same);
})

-- ---- an archive

pub looked_at : {E : Type 0} (list : List Allowed) (es : List Entry) (r : Result Judged E) → are_distinct any_case es ≡ true → unpacked_total es ≤ size_limit
    → IfOk r (λ j. IsMembersVerdict list es (judged_output j)) → IfOk r (λ j. IsEntriesText list es (judged_output j))
looked_at list es (Ok j) apart within w = inr (inr (record { apart = apart; within = within; verdict = w }))
looked_at list es (Err e) apart within w = tt

pub members_are : {E : Type 0} (list : List Allowed) (bytes : List ℕ) (es shown : List Entry) (r : Result Judged E) → IsZip bytes es → shown ≡ es
    → IfOk r (λ j. IsEntriesText list shown (judged_output j)) → IfOk r (λ j. IsArchiveText list bytes (judged_output j))
members_are list bytes es shown (Ok j) z same w = inr (es, z, subst (λ (l : List Entry). IsEntriesText list l (judged_output j)) same w)
members_are list bytes es shown (Err e) z same w = tt

pub unlisted : (list : List Allowed) (bytes : List ℕ) (r : Refusal) → NoZip bytes × IsRefused bytes r → IsArchiveText list bytes (refusal_output r)
unlisted list bytes r n = inl (record { refusal = r; none = n.0; broken = n.1; text = refl })

-- ---- a file

pub as_kind : (list : List Allowed) (bytes : List ℕ) (shown k : Kind) (o : Output) → shown ≡ kind_of bytes → shown ≡ k → IsTextAs list bytes k o → IsFileText list bytes o
as_kind list bytes shown k o same is w = subst (λ (x : Kind). IsTextAs list bytes x o) (sym is ∙ same) w

pub as_file : {E : Type 0} (list : List Allowed) (bytes : List ℕ) (shown k : Kind) (r : Result Judged E) → shown ≡ kind_of bytes → shown ≡ k
    → IfOk r (λ j. IsTextAs list bytes k (judged_output j)) → IfOk r (λ j. IsFileText list bytes (judged_output j))
as_file list bytes shown k (Ok j) same is w = as_kind list bytes shown k (judged_output j) same is w
as_file list bytes shown k (Err e) same is w = tt

-- what a packed file opens to

pub as_single : {E : Type 0} (list : List Allowed) (bytes : List ℕ) (shown k : Kind) (r : Result Single E) → shown ≡ kind_of bytes → shown ≡ k
    → IfOk r (λ s. IsSingleText list bytes k (single_output s)) → IfOk r (λ s. IsSingleText list bytes (kind_of bytes) (single_output s))
as_single list bytes shown k (Ok s) same is w = subst (λ (x : Kind). IsSingleText list bytes x (single_output s)) (sym is ∙ same) w
as_single list bytes shown k (Err e) same is w = tt

pub as_array : {E : Type 0} (list : List Allowed) (bytes : List ℕ) (shown h : Result Held ArrayRefusal) (r : Result Single E) → shown ≡ read_array bytes → shown ≡ h
    → IfOk r (λ s. IsHeldText list bytes h (single_output s)) → IfOk r (λ s. IsArrayText list bytes (single_output s))
as_array list bytes shown h (Ok s) same is w = subst (λ (x : Result Held ArrayRefusal). IsHeldText list bytes x (single_output s)) (sym is ∙ same) w
as_array list bytes shown h (Err e) same is w = tt

-- what is said of a verdict on what is behind a header
pub behind_tells : (list : List Allowed) (bytes line : List ℕ) (v : Verdict) → IsVerdict list bytes v → ((d : Contents) → ReadsAs false bytes d → line ≡ line_for d v)
    → IsBehindText list bytes (record { text = held_text line v; status = verdict_status v })
behind_tells list bytes line v is lines = (record { text = verdict_text line v; status = verdict_status v }, tells list bytes line v is lines, refl)

pub opened_so : (list : List Allowed) (bytes content shown : List ℕ) (p : Packing) (s : Single) → IsPacked p bytes content → shown ≡ content → length shown ≤ size_limit → AreBytes shown
    → IsSingleText list shown (kind_of shown) (single_output s) → IsPackedText list bytes p (inside_output p (single_output s))
opened_so list bytes content shown p s opens same few small inside = inr (record {
  content = shown;
  opens = subst (IsPacked p bytes) (sym same) opens;
  few = few;
  small = small;
  said = single_output s;
  inside = inside;
  text = refl;
})

pub not_opened : (list : List Allowed) (bytes : List ℕ) (p : Packing) (r : PackedRefusal) → Err r ≡ opened size_limit p bytes → IsPackedText list bytes p (no_packed_output r)
not_opened list bytes p r is = inl (r, sym is, refl)

-- with its name in front
pub named_is : (name : List ℕ) (list : List Allowed) (bytes : List ℕ) (o : Output) → IsFileText list bytes o → IsNamedText name list bytes (named_output name o)
named_is name list bytes o is = (o, is, refl)

-- ---- a list

pub of_says : {S : Type 0} (Is : Output → Type 0) (bytes : List ℕ) (told : S → Told) (a b : S) (answer : Result ℕ Stop) → length bytes ≤ size_limit → Says Is (told a) (told b) answer
    → AnswersWith Is bytes told a b answer
of_says Is bytes told a b answer few s = record {
  whole = s.whole;
  stopped = s.stopped;
  too_large = ((λ e. absurd (s.fits e)), (λ large. absurd (omega (arith, few, large))));
  untouched = λ e. absurd (s.fits e);
}

-- what is answered by the entries of a list is what is answered
pub entries_answer : {S : Type 0} (list bytes : List ℕ) (l : Listing) (Is : Output → Type 0) (IsListed : Listing → Output → Type 0) (told : S → Told) (a b : S) (answer : Result ℕ Stop)
    → length bytes ≤ size_limit → IsListing list l → ((o : Output) → Is o → IsListed l o) → Says Is (told a) (told b) answer
    → AnswersWith (λ o. (m : Listing) × IsListing list m × IsListed m o) bytes told a b answer
entries_answer list bytes l Is IsListed told a b answer few is same s =
    of_says (λ o. (m : Listing) × IsListing list m × IsListed m o) bytes told a b answer few
    (says_wider Is (λ o. (m : Listing) × IsListing list m × IsListed m o) (told a) (told b) answer (λ o w. (l, is, same o w)) s)

-- without memory for the entries nothing was written
pub no_memory : {S : Type 0} (Is : Output → Type 0) (bytes : List ℕ) (told : S → Told) (a : S) (answer : Result ℕ Stop) → length bytes ≤ size_limit → IsErrAnd answer (λ e. e ≡ stop.Memory)
    → AnswersWith Is bytes told a a answer
no_memory Is bytes told a answer few h = of_says Is bytes told a a answer few (says_nothing Is (told a) answer h)

-- too many bytes are refused before anything is written
pub gate_too_large : {S : Type 0} (Is : Output → Type 0) (bytes : List ℕ) (told : S → Told) (a : S) → size_limit < length bytes → AnswersWith Is bytes told a a (Err stop.TooLarge)
gate_too_large Is bytes told a large = record { whole = tt; stopped = refl; too_large = ((λ _. large), (λ _. refl)); untouched = λ _. refl }
