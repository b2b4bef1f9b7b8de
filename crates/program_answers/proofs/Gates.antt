-- The answers of the gate about several files, one after another.
use Rattle.std.proofs.Common.{◌≡◌, ◌≢◌, inl, inr, ℕ, zero, suc, ◌+◌, ◌<◌, ◌≤◌, true, false, List, [], ◌∷◌, length, drop, get_or, Bool, ◌==◌, map, Result, Ok, Err, refl, sym, ap, subst, ◌∙◌, arith}
use Rattle.std.specs.Prelude.{IsErrAnd}
use Rattle.std.proofs.lemmas.Bool.{eqb-true, eqb-false}
use Rattle.std.proofs.lemmas.List.{length-drop, nil_from_length}
use Rattle.std.specs.String.{string_bytes}
use Rattle.pickle_io.specs.Device.{Told}
use Rattle.pickle_text.specs.Output.{Output}
use Rattle.pickle_allow.specs.declared.list.Entry.{Entry}
use Rattle.pickle_allow.specs.declared.listing.Listing.{Listing}
use Rattle.pickle_allow.specs.declared.listing.Listing.TheVariants as listing
use Rattle.archive_gate.specs.File.{PassesFile}
use Rattle.pickle_script.specs.declared.stop.Stop.{Stop}
use Rattle.pickle_script.specs.declared.stop.Stop.TheVariants as stop
use Rattle.program_answers.specs.declared.task.GivenFile.{GivenFile}
use Rattle.program_answers.specs.declared.task.Format.{Format}
use Rattle.program_answers.specs.declared.task.Format.TheVariants as format
use Rattle.program_answers.specs.Device.{TookText}
use Rattle.program_answers.specs.Files.{Reports, IsRead}
use Rattle.program_answers.specs.Gated.{IsMissing, GatesFile, GatesNamed, GatesEach, GatesListed, GatesSeveral, GatesFiles, IsNoListAnswer, first_other, joined, HasPassed, OfEach, AllPass}
use Rattle.program_answers.proofs.AtDevice.{zero_took}
use Rattle.program_answers.proofs.Added.{words_at}

-- ---- statuses

pub first_zero : (status next : ℕ) → status ≡ 0 → next ≡ first_other status next
first_zero zero next e = refl
first_zero (suc n) next e = absurd (omega (arith, e))

pub first_not : (status next : ℕ) → status ≢ 0 → status ≡ first_other status next
first_not zero next n = absurd (n refl)
first_not (suc k) next n = refl

joined_twice : (status next : ℕ) (rest : Result ℕ Stop) → joined status (joined next rest) ≡ joined (first_other status next) rest
joined_twice zero next (Ok n) = refl
joined_twice (suc k) next (Ok n) = refl
joined_twice status next (Err e) = refl

joined_last : (status : ℕ) → joined status (Ok 0) ≡ Ok status
joined_last zero = refl
joined_last (suc k) = refl

-- ---- file after file

-- whatever is said of the files that are left completes what is said of all
abbrev pub IsLeft : Format → List Entry → List (List ℕ) → List (List ℕ) → {F O : Type 0} → Reports F O → F → Told → Told → ℕ → Type 0
IsLeft f list left names r files old now status =
    (new : Told) (rest : Result ℕ Stop) → GatesEach f list left r files now new rest → GatesEach f list names r files old new (joined status rest)

pub from_first : {F O : Type 0} (f : Format) (list : List Entry) (name : List ℕ) (more : List (List ℕ)) (r : Reports F O) (files : F) (old now : Told) (status : ℕ)
    → GatesNamed f list name r files old now (Ok status) → IsLeft f list more (name ∷ more) r files old now status
from_first f list name more r files old now status one new rest others =
    inr (record { between = now; status = status; one = one; rest = rest; others = others; result_is = refl })

go_on : {F O : Type 0} (f : Format) (list : List Entry) (name : List ℕ) (more names : List (List ℕ)) (r : Reports F O) (files : F) (old now after : Told) (status next : ℕ)
    → GatesNamed f list name r files now after (Ok next) → IsLeft f list (name ∷ more) names r files old now status
    → IsLeft f list more names r files old after (first_other status next)
go_on f list name more names r files old now after status next one so new rest others =
    subst (λ (x : Result ℕ Stop). GatesEach f list names r files old new x) (joined_twice status next rest)
    (so new (joined next rest) (from_first f list name more r files now after next one new rest others))

pub stopped : {F O : Type 0} (f : Format) (list : List Entry) (names : List (List ℕ)) (r : Reports F O) (files : F) (old new : Told) (e : Stop) (result : Result ℕ Stop)
    → IsErrAnd result (λ x. x ≡ e) → GatesEach f list names r files old new (Err e) → GatesEach f list names r files old new result
stopped f list names r files old new e (Ok status) is w = absurd is
stopped f list names r files old new e (Err x) is w = subst (λ (y : Stop). GatesEach f list names r files old new (Err y)) (sym is) w

pub stopped_first : {F O : Type 0} (f : Format) (list : List Entry) (name : List ℕ) (more : List (List ℕ)) (r : Reports F O) (files : F) (old new : Told) (e : Stop) (result : Result ℕ Stop)
    → IsErrAnd result (λ x. x ≡ e) → GatesNamed f list name r files old new (Err e) → GatesEach f list (name ∷ more) r files old new result
stopped_first f list name more r files old new e result is one = stopped f list (name ∷ more) r files old new e result is (inl (refl, one))

pub went_on : {F O X : Type 0} (f : Format) (text : X → List ℕ) (given : List X) (i : ℕ) (x : X) (list : List Entry) (name : List ℕ) (names : List (List ℕ)) (r : Reports F O) (files : F) (old now after : Told)
    (status next both : ℕ) → i < length given → x ≡ get_or given i x → name ≡ text x → both ≡ first_other status next → GatesNamed f list name r files now after (Ok next)
    → IsLeft f list (map text (drop i given)) names r files old now status → IsLeft f list (map text (drop (i + 1) given)) names r files old after both
went_on f text given i x list name names r files old now after status next both within at is sum one so =
    subst (λ (s : ℕ). IsLeft f list (map text (drop (i + 1) given)) names r files old after s) (sym sum)
    (go_on f list name (map text (drop (i + 1) given)) names r files old now after status next one
    (subst (λ (left : List (List ℕ)). IsLeft f list left names r files old now status) (words_at text given i x name within at is) so))

pub stopped_at : {F O X : Type 0} (f : Format) (text : X → List ℕ) (given : List X) (i : ℕ) (x : X) (list : List Entry) (name : List ℕ) (names : List (List ℕ)) (r : Reports F O) (files : F) (old now new : Told)
    (status : ℕ) (e : Stop) (result : Result ℕ Stop) → i < length given → x ≡ get_or given i x → name ≡ text x → GatesNamed f list name r files now new (Err e)
    → IsErrAnd result (λ y. y ≡ e) → IsLeft f list (map text (drop i given)) names r files old now status → GatesEach f list names r files old new result
stopped_at f text given i x list name names r files old now new status e result within at is one err so =
    let left : IsLeft f list (name ∷ map text (drop (i + 1) given)) names r files old now status =
    subst (λ (left : List (List ℕ)). IsLeft f list left names r files old now status) (words_at text given i x name within at is) so in
    stopped f list names r files old new e result err (left new (Err e) (inl (refl, one)))

pub all_told : {F O X : Type 0} (f : Format) (text : X → List ℕ) (given : List X) (i : ℕ) (list : List Entry) (names : List (List ℕ)) (r : Reports F O) (files : F) (old now : Told) (status : ℕ)
    → length given ≤ i → IsLeft f list (map text (drop i given)) names r files old now status → GatesEach f list names r files old now (Ok status)
all_told f text given i list names r files old now status end so =
    let none : drop i given ≡ [] = nil_from_length (drop i given) (omega (arith, length-drop i given, end)) in
    subst (λ (x : Result ℕ Stop). GatesEach f list names r files old now x) (joined_last status)
    (so now (Ok 0) (subst (λ (left : List _). GatesEach f list (map text left) r files now now (Ok 0)) (sym none) (refl, refl)))

-- ---- status zero

-- what is joined is 0 only where both are
both_zero : (status : ℕ) (rest : Result ℕ Stop) → Ok 0 ≡ joined status rest → (status ≡ 0) × (rest ≡ Ok 0)
both_zero zero (Ok n) e = (refl, sym e)
both_zero (suc k) (Ok n) e = absurd cc
both_zero status (Err x) e = absurd cc

named_passes : {F O : Type 0} (f : Format) (list : List Entry) (name : List ℕ) (r : Reports F O) (files : F) (old new : Told) (status : ℕ) → status ≡ 0
    → GatesNamed f list name r files old new (Ok status) → (bytes : List ℕ) × IsRead (r.bytes_of files name) bytes × PassesFile list bytes
named_passes f list name r files old new status z (inl missing) = absurd missing.0
named_passes f list name r files old new status z (inr w) = (w.0, w.1, w.2.passes (ap Ok z))

each_passes : {F O : Type 0} (f : Format) (P : List ℕ → Type 0) (list : List Entry) (names : List (List ℕ)) (r : Reports F O) (files : F) (old new : Told) (result : Result ℕ Stop)
    → ((name : List ℕ) (a b : Told) (status : ℕ) → status ≡ 0 → GatesNamed f list name r files a b (Ok status) → P name) → result ≡ Ok 0
    → GatesEach f list names r files old new result → OfEach P names
each_passes f P list [] r files old new result law z w = tt
each_passes f P list (name ∷ more) r files old new (Ok status) law z (inl w) = let bad : false ≡ true = w.0 in absurd cc
each_passes f P list (name ∷ more) r files old new (Err e) law z (inl w) = absurd cc
each_passes f P list (name ∷ more) r files old new result law z (inr w) =
    let both = both_zero w.status w.rest (sym z ∙ w.result_is) in
    (law name old w.between w.status both.0 w.one, each_passes f P list more r files w.between new w.rest law both.1 w.others)

no_list_zero : (f : Format) (n : ℕ) (o : Output) → IsNoListAnswer f n o → o.status ≡ 0 → ⊥
no_list_zero format.Text n o is status = let bad : 2 ≡ 0 = sym (ap (λ (x : Output). x.status) is) ∙ status in absurd cc
no_list_zero format.Json n o is status = let bad : 2 ≡ 0 = sym (ap (λ (x : Output). x.status) is) ∙ status in absurd cc

no_list_passes : {A : Type 0} (f : Format) (n : ℕ) (old new : Told) (result : Result ℕ Stop) → result ≡ Ok 0 → TookText (IsNoListAnswer f n) old new result → A
no_list_passes f n old new result z w = absurd (zero_took ⊥ (IsNoListAnswer f n) old new result (no_list_zero f n) w z)

listed_passes : {F O : Type 0} (f : Format) (list : Listing) (names : List (List ℕ)) (r : Reports F O) (files : F) (old new : Told) (result : Result ℕ Stop) → result ≡ Ok 0
    → GatesListed f list names r files old new result → OfEach (HasPassed list r files) names
listed_passes f (listing.Entries entries) names r files old new result z w =
    each_passes f (HasPassed (listing.Entries entries) r files) entries.items names r files old new result
    (λ name a b status is one. named_passes f entries.items name r files a b status is one) z w
listed_passes f (listing.Wrong n) names r files old new result z w = no_list_passes f n old new result z w.0

-- what is missing has no status
missing_passes : {A F O : Type 0} (path : List ℕ) (r : Reports F O) (files : F) (old new : Told) (result : Result ℕ Stop) → result ≡ Ok 0 → IsMissing path r files old new result → A
missing_passes path r files old new (Ok status) z w = absurd w.0
missing_passes path r files old new (Err e) z w = absurd cc

file_passes : {F O : Type 0} (f : Format) (input : GivenFile) (path : List ℕ) (r : Reports F O) (files : F) (old new : Told) (result : Result ℕ Stop) → result ≡ Ok 0
    → GatesFile f input path r files old new result → AllPass r files path (string_bytes input.file ∷ [])
file_passes f input path r files old new result z (inl missing) = missing_passes path r files old new result z missing
file_passes f input path r files old new result z (inr (text, read, inl missing)) = missing_passes (string_bytes input.file) r files old new result z missing
file_passes f input path r files old new result z (inr (text, read, inr (bytes, given, w))) =
    let p = w.passes z in
    record { text = text; read = read; list = p.0; lists = p.1; each = ((bytes, given, p.2), tt) }

several_pass : {F O : Type 0} (f : Format) (names : List (List ℕ)) (path : List ℕ) (r : Reports F O) (files : F) (old new : Told) (result : Result ℕ Stop) → result ≡ Ok 0
    → GatesSeveral f names path r files old new result → AllPass r files path names
several_pass f names path r files old new result z (inl missing) = missing_passes path r files old new result z missing
several_pass f names path r files old new result z (inr (text, read, inl memory)) = let bad : ◌≡◌ {A = Result ℕ Stop} (Err stop.Memory) (Ok 0) = sym memory.0 ∙ z in absurd cc
several_pass f names path r files old new result z (inr (text, read, inr (list, lists, w))) =
    record { text = text; read = read; list = list; lists = lists; each = listed_passes f list names r files old new result z w }

pub files_pass : {F O : Type 0} (f : Format) (input : GivenFile) (more : List (List ℕ)) (path : List ℕ) (r : Reports F O) (files : F) (old new : Told) (result : Result ℕ Stop)
    → GatesFiles f input more path r files old new result → result ≡ Ok 0 → AllPass r files path (string_bytes input.file ∷ more)
files_pass f input [] path r files old new result w z = file_passes f input path r files old new result z w
files_pass f input (name ∷ more) path r files old new result w z = several_pass f (string_bytes input.file ∷ name ∷ more) path r files old new result z w

-- ---- one file, or several

pub empty_zero : (n : ℕ) (b : Bool) → b ≡ (n == 0) → b ≡ true → n ≡ 0
empty_zero n b e t = eqb-true n 0 (sym e ∙ t)

pub not_zero : (n : ℕ) (b : Bool) → b ≡ (n == 0) → b ≡ false → n ≢ 0
not_zero n b e f = eqb-false n 0 (sym e ∙ f)

pub told_one : {F O X : Type 0} (f : Format) (text : X → List ℕ) (input : GivenFile) (items more : List X) (path listed : List ℕ) (r : Reports F O) (files : F) (old new : Told) (result : Result ℕ Stop)
    → more ≡ items → listed ≡ path → length more ≡ 0 → GatesFile f input listed r files old new result → GatesFiles f input (map text items) path r files old new result
told_one f text input [] more path listed r files old new result same at none w = subst (λ (p : List ℕ). GatesFile f input p r files old new result) at w
told_one f text input (x ∷ xs) more path listed r files old new result same at none w = absurd (omega (arith, ap length same, none))

pub told_more : {F O X : Type 0} (f : Format) (text : X → List ℕ) (input : GivenFile) (items more : List X) (path listed first : List ℕ) (r : Reports F O) (files : F) (old new : Told) (result : Result ℕ Stop)
    → more ≡ items → listed ≡ path → first ≡ string_bytes input.file → length more ≢ 0 → GatesSeveral f (first ∷ map text more) listed r files old new result
    → GatesFiles f input (map text items) path r files old new result
told_more f text input [] more path listed first r files old new result same at is some w = absurd (some (ap length same))
told_more f text input (x ∷ xs) more path listed first r files old new result same at is some w =
    subst (λ (m : List _). GatesSeveral f (string_bytes input.file ∷ map text m) path r files old new result) same
    (subst (λ (p : List ℕ). GatesSeveral f (string_bytes input.file ∷ map text more) p r files old new result) at
    (subst (λ (front : List ℕ). GatesSeveral f (front ∷ map text more) listed r files old new result) is w))
