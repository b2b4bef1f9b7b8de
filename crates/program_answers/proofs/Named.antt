-- What clap's matches name.
use Rattle.std.proofs.Common.{◌≡◌, ◌≢◌, ◌⊎◌, inl, inr, bytes_eq, true, ℕ, ◌<◌, ◌≤◌, ◌^◌, List, [], drop, Option, Some, None, Result, Ok, Err, Bor, refl, sym, ap, subst, ◌∙◌, arith, codes}
use Rattle.std.specs.Prelude.{Bool, IsTrue, false, IfSome, IfOk, IfErr, IsErrAnd, option_map}
use Rattle.std.specs.Str.Parse.{IsNumeral, digits_value, without_leading_plus}
use Rattle.std.specs.Option.{unwrap_or}
use Rattle.std.proofs.lemmas.Slice.Eq.{bytes_eq-Decides}
use Rattle.clap.specs.Words.{App, HasMatchesOf, Row, Text, TriesOne, all_of, fault_of, first_of, is_simple, one_of, is_simple_and_free, kind_of, subcommand_of, subcommand_rows_of, takes}
use Rattle.clap.specs.declared.parser.matches.ArgMatches.{ArgMatches}
use Rattle.pickle_io.specs.declared.hole.Hole.{Hole}
use Rattle.pickle_script.specs.GivenHoles.{holes_of}
use Rattle.clap.specs.declared.error.Error.{Error}
use Rattle.clap.specs.declared.error.kind.ErrorKind.TheVariants as kind
use Rattle.program_answers.specs.declared.task.Task.{Task}
use Rattle.program_answers.specs.declared.task.CallsOptions.{CallsOptions}
use Rattle.program_answers.specs.declared.task.GivenFile.{GivenFile}
use Rattle.program_answers.specs.declared.task.Format.{Format}
use Rattle.program_answers.specs.declared.task.Format.TheVariants as format
use Rattle.program_answers.specs.declared.task.Word.{Word}
use Rattle.program_answers.specs.declared.task.Word.TheVariants as word
use Rattle.program_answers.specs.declared.task.Usage.{Usage}
use Rattle.program_answers.specs.declared.task.Usage.TheVariants as usage
use Rattle.pickle_further.specs.declared.way.Pickles.{Pickles}
use Rattle.pickle_further.specs.declared.way.Pickles.TheVariants as pickles
use Rattle.pickle_calls.specs.declared.naming.Detail.{Detail}
use Rattle.pickle_calls.specs.declared.naming.Detail.TheVariants as detail
use Rattle.program_answers.specs.CommandLine.{Matches, IsCommand, matches_of, FitsCalls, FitsMemo, GivesReading, HasCallsOptions, HasDetail, HasFormat, HasHoles, HasInput, HasText, HasReading, IsMemory, IsNamed, IsAsked, IsUsed, IsWindow, NamesTask, more_of, name_of, most_records, program, skips_of}

-- ---- a subcommand

pub used_is : {X A B : Type 0} (f : X → A) (g : X → B) (o : Option X) (a : A) (b : B) → Some a ≡ option_map f o
    → Some b ≡ option_map (λ (p : A × B). p.1) (option_map {U = A × B} (λ x. (f x, g x)) o) → option_map {U = A × B} (λ x. (f x, g x)) o ≡ Some (a, b)
used_is f g None a b p q = absurd cc
used_is f g (Some x) a b p q =
    let first : a ≡ f x = cc in
    let second : b ≡ g x = cc in
    rw (first, second) refl

-- ---- a window

pub no_text : {E : Type 0} (gives : List ℕ → Result ℕ E → Type 0) (o : Option Text) (r : Result (Option ℕ) E)
    → ((t : Text) → o ≡ Some t → TriesOne gives t r) → r ≡ Ok None → o ≡ None
no_text gives None r value e = refl
no_text gives (Some t) r value e = absurd (subst (λ x. TriesOne gives t x) e (value t refl))

pub record Read {E : Type 0} (gives : List ℕ → Result ℕ E → Type 0) (o : Option Text) (r : Result ℕ E) : Type 0 where
  pub text : Text
  pub there : o ≡ Some text
  pub given : gives text r

pub some_text : {E : Type 0} (gives : List ℕ → Result ℕ E → Type 0) (o : Option Text) (r : Result (Option ℕ) E) (n : ℕ) → (o ≡ None → r ≡ Ok None)
    → ((t : Text) → o ≡ Some t → TriesOne gives t r) → r ≡ Ok (Some n) → Read gives o (Ok n)
some_text gives None r n none value e = let bad : Ok None ≡ Ok (Some n) = sym (none refl) ∙ e in absurd cc
some_text gives (Some t) r n none value e = record { text = t; there = refl; given = subst (λ x. TriesOne gives t x) e (value t refl) }

pub bad_text : {E : Type 0} (gives : List ℕ → Result ℕ E → Type 0) (o : Option Text) (r : Result (Option ℕ) E) (x : E) → (o ≡ None → r ≡ Ok None)
    → ((t : Text) → o ≡ Some t → TriesOne gives t r) → r ≡ Err x → Read gives o (Err x)
bad_text gives None r x none value e = let bad : Ok None ≡ Err x = sym (none refl) ∙ e in absurd cc
bad_text gives (Some t) r x none value e = record { text = t; there = refl; given = subst (λ y. TriesOne gives t y) e (value t refl) }

pub is_window : (o : Option Text) (t : Text) (n : ℕ) (r : Option (Option ℕ)) → o ≡ Some t → IsNumeral 10 (without_leading_plus t)
    → n ≡ digits_value 10 (without_leading_plus t) → IfSome r (λ w. (w ≡ Some n) × (1 ≤ n) × (n ≤ most_records)) → IfSome r (IsWindow o)
is_window o t n None e numeral value b = tt
is_window o t n (Some w) e numeral value b = rw (e, b.0) (record { numeral = numeral; value = value; least = b.1; most = b.2 })

window_at : (o : Option Text) (t : Text) (w : Option ℕ) → o ≡ Some t → IsWindow o w → IsWindow (Some t) w
window_at o t w e h = subst (λ x. IsWindow x w) e h

pub no_count : (o : Option Text) (t : Text) (n : ℕ) (w : Option ℕ) → o ≡ Some t → n ≡ digits_value 10 (without_leading_plus t)
    → (1 ≤ n → n ≤ most_records → ⊥) → IsWindow o w → ⊥
no_count o t n None e value out h = window_at o t None e h
no_count o t n (Some m) e value out h =
    let c = window_at o t (Some m) e h in
    let same : m ≡ n = c.value ∙ sym value in
    out (subst (λ x. 1 ≤ x) same c.least) (subst (λ x. x ≤ most_records) same c.most)

pub no_number : (o : Option Text) (t : Text) (w : Option ℕ) → o ≡ Some t
    → (IsNumeral 10 (without_leading_plus t) × (digits_value 10 (without_leading_plus t) < 2 ^ 64) → ⊥) → IsWindow o w → ⊥
no_number o t None e not h = window_at o t None e h
no_number o t (Some m) e not h =
    let c = window_at o t (Some m) e h in
    not (c.numeral, omega (arith, c.value, c.most))

-- ---- the pickles that are told of

same_answer : (a b : Bool) {A : Type 0} → (IsTrue a → A) → (A → IsTrue a) → (IsTrue b → A) → (A → IsTrue b) → a ≡ b
same_answer true true f g h k = refl
same_answer false false f g h k = refl
same_answer true false f g h k = let bad : false ≡ true = k (f refl) in absurd cc
same_answer false true f g h k = let bad : false ≡ true = g (h refl) in absurd cc

pub reads : (first : Bool) (memo : Option Text) (rows : List Row) (r : Option Pickles) → (IsTrue first → first_of (codes "first") rows ≡ Some (codes "true"))
    → (first_of (codes "first") rows ≡ Some (codes "true") → IsTrue first) → memo ≡ first_of (codes "memo") rows
    → IfSome r (GivesReading first memo) → IfSome r (HasReading rows)
reads first memo rows None is is_not e g = tt
reads first memo rows (Some p) is is_not e g = record { first = first; first_is = is; all_is = is_not; gives = subst (λ m. GivesReading first m p) e g }

pub reads_none : (first : Bool) (memo : Option Text) (rows : List Row) (p : Pickles) → (IsTrue first → first_of (codes "first") rows ≡ Some (codes "true"))
    → (first_of (codes "first") rows ≡ Some (codes "true") → IsTrue first) → memo ≡ first_of (codes "memo") rows → ((q : Pickles)
    → GivesReading first memo q → ⊥)
    → HasReading rows p → ⊥
reads_none first memo rows p is is_not e out h =
    let same : h.first ≡ first = same_answer h.first first h.first_is h.all_is is is_not in
    out p (subst (λ m. GivesReading first m p) (sym e) (subst (λ b. GivesReading b (first_of (codes "memo") rows) p) same h.gives))

-- ---- the bytes that are left out

pub skips_are : (texts : List Text) (rows : List Row) → Some texts ≡ all_of (codes "skip") rows → skips_of rows ≡ texts
skips_are texts rows e = sym (ap (λ (o : Option (List Text)). unwrap_or o []) e)

pub no_skips : (rows : List Row) → None ≡ all_of (codes "skip") rows → skips_of rows ≡ []
no_skips rows e = sym (ap (λ (o : Option (List Text)). unwrap_or o []) e)

-- ---- a text

pub text_some : {X E : Type 0} (text : X → Text) (name : Text) (o : Option (Bor Text)) (rows : List Row) (r : Result (Option X) E)
    → option_map (λ (t : Bor Text). t.now) o ≡ first_of name rows
    → IfOk r (λ x. option_map text x ≡ option_map (λ (t : Bor Text). t.now) o) → IfOk r (λ x. IfSome x (λ l. HasText name rows (text l)))
text_some text name o rows (Ok None) e w = tt
text_some text name o rows (Ok (Some l)) e w = sym e ∙ sym w
text_some text name o rows (Err x) e w = tt

pub text_none : {X E : Type 0} (text : X → Text) (name : Text) (o : Option (Bor Text)) (rows : List Row) (r : Result (Option X) E)
    → option_map (λ (t : Bor Text). t.now) o ≡ first_of name rows
    → IfOk r (λ x. option_map text x ≡ option_map (λ (t : Bor Text). t.now) o) → r ≡ Ok None → first_of name rows ≡ None
text_none text name o rows (Ok None) e w is = sym e ∙ sym w
text_none text name o rows (Ok (Some l)) e w is = absurd cc
text_none text name o rows (Err x) e w is = absurd cc

-- ---- the files behind the first

pub more_are : {V E : Type 0} (names : V → List Text) (texts : List Text) (rows : List Row) (r : Result V E) → Some texts ≡ all_of (codes "FILE") rows
    → IfOk r (λ v. names v ≡ drop 1 texts) → IfOk r (λ v. names v ≡ more_of rows)
more_are names texts rows (Ok v) is w = rw (← is) w
more_are names texts rows (Err e) is w = tt

pub no_more : (rows : List Row) → None ≡ all_of (codes "FILE") rows → [] ≡ more_of rows
no_more rows is = ap (λ (o : Option (List Text)). drop 1 (unwrap_or o [])) is

-- ---- the options of `calls`

is_or_not : (o : Option Text) (t : Text) → (o ≡ Some t) ⊎ (o ≢ Some t)
is_or_not None t = inr (λ e. absurd cc)
is_or_not (Some x) t = go (bytes_eq x t) refl
  where
    other : bytes_eq x t ≡ false → Some x ≡ Some t → ⊥
    other e s =
        let same : x ≡ t = cc in
        let hit : bytes_eq x t ≡ true = (bytes_eq-Decides x t).1 same in
        let bad : false ≡ true = sym e ∙ hit in
        absurd cc

    go : (b : Bool) → bytes_eq x t ≡ b → (Some x ≡ Some t) ⊎ (Some x ≢ Some t)
    go true e = inl (ap Some ((bytes_eq-Decides x t).0 e))
    go false e = inr (λ s. other e s)

has_reading : (rows : List Row) → FitsMemo rows → (p : Pickles) × HasReading rows p
has_reading rows fits = go (is_or_not (first_of (codes "first") rows) (codes "true")) fits
  where
    go : (first_of (codes "first") rows ≡ Some (codes "true")) ⊎ (first_of (codes "first") rows ≢ Some (codes "true")) → FitsMemo rows
        → (p : Pickles) × HasReading rows p
    go (inl given) (inl none) = (pickles.First, record { first = true; first_is = λ _. given; all_is = λ _. refl; gives = (refl, none) })
    go (inl given) (inr kept) = absurd (kept.1 given)
    go (inr out) (inl none) = (pickles.All, record { first = false; first_is = λ t. absurd cc; all_is = λ e. absurd (out e); gives = (refl, none) })
    go (inr out) (inr kept) = (pickles.OneMemo, record { first = false; first_is = λ t. absurd cc; all_is = λ e. absurd (out e); gives = (refl, kept.0) })

has_detail : (rows : List Row) → (d : Detail) × HasDetail rows d
has_detail rows = go (is_or_not (first_of (codes "full") rows) (codes "true"))
  where
    go : (first_of (codes "full") rows ≡ Some (codes "true")) ⊎ (first_of (codes "full") rows ≢ Some (codes "true")) → (d : Detail) × HasDetail rows d
    go (inl given) = (detail.Full, given)
    go (inr out) = (detail.Cut, out)

has_format : (rows : List Row) → (f : Format) × HasFormat rows f
has_format rows = go (is_or_not (first_of (codes "json") rows) (codes "true"))
  where
    go : (first_of (codes "json") rows ≡ Some (codes "true")) ⊎ (first_of (codes "json") rows ≢ Some (codes "true")) → (f : Format) × HasFormat rows f
    go (inl given) = (format.Json, given)
    go (inr out) = (format.Text, out)

has_holes : (rows : List Row) (o : Option (List Hole)) → holes_of (skips_of rows) ≡ o → o ≢ None → (holes : List Hole) × HasHoles rows holes
has_holes rows None is some = absurd (some refl)
has_holes rows (Some holes) is some = (holes, is)

fits_has : (rows : List Row) → FitsCalls rows → (o : CallsOptions) × HasCallsOptions rows o
fits_has rows fits =
    let p = has_reading rows fits.memo in
    let d = has_detail rows in
    let h = has_holes rows (holes_of (skips_of rows)) refl fits.skips in
    let f = has_format rows in
    (record { pickles = p.0; detail = d.0; holes = h.0; format = f.0 }, record { pickles_is = p.1; detail_is = d.1; holes_is = h.1; format_is = f.1 })

-- ---- the tasks of the commands

-- a command was used on its input
abbrev pub used_on : (name : Text) (rows : List Row) (input : GivenFile) → HasInput rows input → IsUsed name (matches_of name rows) input
used_on name rows input h = record { rows = rows; used = refl; input_is = h }

abbrev pub used_as : (name other : Text) (rows : List Row) (input : GivenFile) → name ≡ other → HasInput rows input → IsUsed other (matches_of name rows) input
used_as name other rows input same h = record { rows = rows; used = ap (λ (n : Text). matches_of n rows) same; input_is = h }

pub asked_as : (name : Text) (rows : List Row) (f : Format) → name ≡ codes "opcodes" → HasFormat rows f → IsAsked (codes "opcodes") (matches_of name rows) f
asked_as name rows f same h = record { rows = rows; used = ap (λ (n : Text). matches_of n rows) same; format_is = h }

abbrev name_in : Matches → Text
name_in None = []
name_in (Some m) = m.0

abbrev rows_in : Matches → List Row
rows_in None = []
rows_in (Some m) = m.1

same_rows : (name : Text) (rows : List Row) (t : NamesTask (matches_of name rows)) → t.rows ≡ rows
same_rows name rows t = sym (ap rows_in t.used)

same_name : (name : Text) (rows : List Row) (t : NamesTask (matches_of name rows)) → t.name ≡ name
same_name name rows t = sym (ap name_in t.used)

-- without its options there is no task of `calls`
pub no_calls : (rows : List Row) → ((o : CallsOptions) → HasCallsOptions rows o → ⊥) → NamesTask (matches_of (codes "calls") rows) → ⊥
no_calls rows none t = let has = fits_has rows (t.fits rows refl) in none has.0 has.1

-- without a window within the bounds there is none of `debug`
pub no_debug : (rows : List Row) → ((w : Option ℕ) → IsWindow (one_of (codes "window") rows) w → ⊥) → NamesTask (matches_of (codes "debug") rows) → ⊥
no_debug rows none t =
    none t.window (subst (λ (r : List Row). IsWindow (one_of (codes "window") r) t.window) (same_rows (codes "debug") rows t) t.window_is)

-- without a list there is none of `gate`
pub no_gate_task : (rows : List Row) → first_of (codes "LIST") rows ≡ None → NamesTask (matches_of (codes "gate") rows) → ⊥
no_gate_task rows none t =
    t.list_is (same_name (codes "gate") rows t) (subst (λ (r : List Row). first_of (codes "LIST") r ≡ None) (sym (same_rows (codes "gate") rows t)) none)

-- without another file there is none of `same`
pub no_same_task : (rows : List Row) → first_of (codes "OTHER") rows ≡ None → NamesTask (matches_of (codes "same") rows) → ⊥
no_same_task rows none t =
    t.other_is (same_name (codes "same") rows t) (subst (λ (r : List Row). first_of (codes "OTHER") r ≡ None) (sym (same_rows (codes "same") rows t)) none)

-- a command of another name is another one
pub unlike : {A : Type 0} (one other : Text) → bytes_eq one other ≡ false → one ≡ other → A
unlike one other differ e =
    let bad : true ≡ false = sym ((bytes_eq-Decides one other).1 e) ∙ differ in
    absurd cc

named_opcodes : (w : Word) → name_of w ≡ codes "opcodes" → w ≡ word.Opcodes
named_opcodes word.List e = unlike (codes "list") (codes "opcodes") refl e
named_opcodes word.Objects e = unlike (codes "objects") (codes "opcodes") refl e
named_opcodes word.Calls e = unlike (codes "calls") (codes "opcodes") refl e
named_opcodes word.Debug e = unlike (codes "debug") (codes "opcodes") refl e
named_opcodes word.Form e = unlike (codes "form") (codes "opcodes") refl e
named_opcodes word.Gate e = unlike (codes "gate") (codes "opcodes") refl e
named_opcodes word.Reach e = unlike (codes "reach") (codes "opcodes") refl e
named_opcodes word.Members e = unlike (codes "members") (codes "opcodes") refl e
named_opcodes word.Assemble e = unlike (codes "assemble") (codes "opcodes") refl e
named_opcodes word.Same e = unlike (codes "same") (codes "opcodes") refl e
named_opcodes word.Source e = unlike (codes "source") (codes "opcodes") refl e
named_opcodes word.Opcodes e = refl

-- and without a file none of all others but `opcodes`
pub no_file : (w : Word) (rows : List Row) → w ≢ word.Opcodes → first_of (codes "FILE") rows ≡ None → NamesTask (matches_of (name_of w) rows) → ⊥
no_file w rows other none t =
    t.file_is (λ e. other (named_opcodes w (sym (same_name (name_of w) rows t) ∙ e)))
    (subst (λ (r : List Row). first_of (codes "FILE") r ≡ None) (sym (same_rows (name_of w) rows t)) none)

-- the matches are those of a command that was used
pub named_some : {E : Type 0} (m : Matches) (name other : Text) (rows : List Row) (r : Result (Option Task) E) → m ≡ Some (name, rows) → name ≡ other
    → IfOk r (λ x. IfSome x (IsNamed (matches_of other rows))) → IfOk r (λ x. IfSome x (IsNamed m))
named_some m name other rows r is same h =
    subst (λ (f : Matches). IfOk r (λ x. IfSome x (IsNamed f))) (sym (is ∙ ap (λ (n : Text). matches_of n rows) same)) h

pub named_none : (m : Matches) (name other : Text) (rows : List Row) → m ≡ Some (name, rows) → name ≡ other → (NamesTask (matches_of other rows) → ⊥) → NamesTask m → ⊥
named_none m name other rows is same none t = none (subst NamesTask (is ∙ ap (λ (n : Text). matches_of n rows) same) t)

-- another name is that of no command
pub no_command : (m : Matches) (name : Text) (rows : List Row) → m ≡ Some (name, rows) → (IsCommand name → ⊥) → NamesTask m → ⊥
no_command m name rows is none t =
    let u : NamesTask (matches_of name rows) = subst NamesTask is t in
    none (subst IsCommand (same_name name rows u) u.command)

-- ---- the matches of the program's words

-- the program's command line is one of those whose matches clap's words say
pub matched : (a : App) (words : List Text) (m : ArgMatches) → a ≡ program → HasMatchesOf a words m → subcommand_rows_of m ≡ subcommand_of program words
matched a words m e has = (has (ap is_simple e)).1 ∙ ap (λ (x : App). subcommand_of x words) e

-- and clap finds no fault in words whose matches it answers
pub faultless : (a : App) (words : List Text) → a ≡ program → (is_simple_and_free a ≡ true → fault_of a words ≡ []) → fault_of program words ≡ []
faultless a words e none = sym (ap (λ (x : App). fault_of x words) e) ∙ none (ap is_simple_and_free e)

-- ---- a refusal

pub refused_memory : (r : Result Task Usage) (e : Error) → IsErrAnd r (λ u. u ≡ usage.Words e) → kind_of e ≡ kind.OutOfMemory → IfErr r IsMemory
refused_memory (Ok x) e is m = absurd is
refused_memory (Err u) e is m = rw is m

pub taken_by : (a b : App) (words : List Text) → a ≡ b → takes b words ≡ true → takes a words ≡ true
taken_by a b words e t = ap (λ (x : App). takes x words) e ∙ t
