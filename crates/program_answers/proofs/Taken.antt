-- All words that clap takes name a task, but where the options of `calls` do not fit.
use Rattle.std.proofs.Common.{◌≡◌, ◌≢◌, ◌∙◌, ◌&&◌, ◌||◌, ◌⊎◌, inl, inr, not, ℕ, ◌≤◌, Bool, cond, true, false, nat_lt, nat_le, ltb-true, leb-true, pos, List, [], ◌∷◌, ◌++◌, length, find, Option, Some, None, option_map, option_and_then, bytes_eq, codes, slice_get, refl, sym, ap, subst, arith}
use Rattle.std.specs.Prelude.{MatchBool, ⊤}
use Rattle.std.specs.List.{list_all, list_any}
use Rattle.std.specs.Option.{option_map_or}
use Rattle.std.specs.Str.Parse.{digits_value, starts_with_minus, without_leading_plus}
use Rattle.std.proofs.lemmas.List.Folds.{list_all-append}
use Rattle.std.proofs.lemmas.Slice.Eq.{bytes_eq-Decides}
use Rattle.std.proofs.lemmas.Int.{ints}
use Rattle.clap.specs.Facts.{explicit_source, parser_of_value, unwrap_or_range}
use Rattle.clap.specs.Lexer.{without_minus}
use Rattle.clap.specs.Values.{IsSignedIn, is_request, read_as, reading_of}
use Rattle.clap.specs.ValueTests.{accepts}
use Rattle.clap.specs.Walk.{Row, Rule, Text, action_of, answers_to, at_row, default_rows, first_of, has_row, more_values, one_of, reading_by, row_text, rows_after, used_as, values_or_missing, with_values, without}
use Rattle.clap.specs.Simple.{App, Shape, argument_words, built, filled, help_rule, is_simple, label_of, subcommand_of, with_index}
use Rattle.clap.specs.Takes.{action_passes, is_given, is_valid, takes, values_pass}
use Rattle.clap.specs.declared.builder.value_parser.ValueParser.{ValueParser}
use Rattle.clap.specs.declared.builder.value_parser.ValueParser.TheVariants as parser
use Rattle.clap.specs.declared.builder.value_parser.Reading.{Reading}
use Rattle.clap.specs.declared.builder.value_parser.Reading.TheVariants as reading
use Rattle.clap.specs.declared.builder.action.ArgAction.{ArgAction}
use Rattle.clap.specs.declared.builder.action.ArgAction.TheVariants as action
use Rattle.clap.specs.declared.parser.matches.ValueSource.{ValueSource}
use Rattle.clap.specs.declared.parser.matches.ValueSource.TheVariants.{CommandLine, DefaultValue}
use Rattle.clap.proofs.ValueTestLemmas.{accepts-Accepts}
use Rattle.clap.proofs.WalkLemmas.{both}
use Rattle.program_answers.specs.declared.task.Word.TheVariants as word
use Rattle.program_answers.specs.CommandLine.{FitsOptions, IsCommand, IsCount, IsWindow, NamesTask, file_rule, files_rule, first_rule, full_rule, json_rule, list_rule, other_rule, whole_rule, many_rule, memo_rule, extensions_rule, persistent_rule, buffers_rule, most_records, program, save_rule, skip_rule, unframed_rule, window_rule}
use Rattle.program_answers.proofs.Named.{unlike}
use Rattle.program_answers.proofs.Walked.{Each, Keeps, KeepsDefault, enters, enters_rows, found_each, level_is_valid, level_keeps, no_help, required}

-- ---- a row

abbrev window_parser : ValueParser
window_parser = parser.Signed (pos 1) (pos most_records)

abbrev has_text : List Text → Bool
has_text [] = false
has_text (t ∷ ts) = true

abbrev drops_minus : Reading → Bool
drops_minus reading.WithoutMinus = true
drops_minus _ = false

abbrev counts : List Text → Bool
counts = list_all (accepts false window_parser)

-- the values of the window passed its parser
abbrev fine_values : Text → Reading → List Text → Bool
fine_values id how values = not (bytes_eq id (codes "window")) || (drops_minus how && counts values)

-- a row has a value
abbrev fine : Row → Bool
fine r = has_text r.values && fine_values r.id r.reading r.values

abbrev Fine : List Row → Type 0
Fine rows = list_all fine rows ≡ true

-- ---- a use and a default keep rows fine

and_true : (a b : Bool) → a ≡ true → b ≡ true → (a && b) ≡ true
and_true a b e f = rw (e, f) refl

at_row_fine : (id : Text) (change : Row → List Row) (missing : List Row) (rows : List Row) → ((r : Row) → bytes_eq r.id id ≡ true → fine r ≡ true
    → Fine (change r)) → Fine missing
    → Fine rows → Fine (at_row id change missing rows)
at_row_fine id change missing [] changes new all = new
at_row_fine id change missing (r ∷ rs) changes new all =
    let p = both (fine r) _ all in
    go (bytes_eq r.id id) refl p.0 p.1 (at_row_fine id change missing rs changes new p.1)
  where
    go : (b : Bool) → bytes_eq r.id id ≡ b → fine r ≡ true → Fine rs → Fine (at_row id change missing rs)
        → Fine (cond b (change r ++ rs) (r ∷ at_row id change missing rs))
    go true t f rest deep = list_all-append fine (change r) rs ∙ and_true (list_all fine (change r)) (list_all fine rs) (changes r t f) rest
    go false t f rest deep = and_true (fine r) _ f deep

without_fine : (id : Text) (rows : List Row) → Fine rows → Fine (without id rows)
without_fine id rows all = at_row_fine id (λ _. []) [] rows (λ r t f. refl) refl all

joined_fine : (b d : Bool) (xs ys : List Text) → (b || (d && counts xs)) ≡ true → (b || counts ys) ≡ true → (b || (d && counts (xs ++ ys))) ≡ true
joined_fine true d xs ys e f = refl
joined_fine false true xs ys e f = list_all-append (accepts false window_parser) xs ys ∙ and_true (counts xs) (counts ys) e f
joined_fine false false xs ys e f = absurd cc

joined_has : (xs ys : List Text) → has_text xs ≡ true → has_text (xs ++ ys) ≡ true
joined_has [] ys e = absurd cc
joined_has (x ∷ xs) ys e = refl

counts_part : (b d : Bool) (xs : List Text) → (b || (d && counts xs)) ≡ true → (b || counts xs) ≡ true
counts_part true d xs e = refl
counts_part false true xs e = e
counts_part false false xs e = absurd cc

with_values_fine : (id : Text) (how : Reading) (source : ValueSource) (values : List Text) (rows : List Row) → has_text values ≡ true
    → fine_values id how values ≡ true
    → Fine rows → Fine (with_values id how source values rows)
with_values_fine id how source values rows there well all =
    at_row_fine id (more_values source values) (record { id = id; values = values; count = None; source = Some source; reading = how } ∷ []) rows changes
    (and_true (has_text values && fine_values id how values) true (and_true (has_text values) (fine_values id how values) there well) refl) all
  where
    changes : (r : Row) → bytes_eq r.id id ≡ true → fine r ≡ true → Fine (more_values source values r)
    changes r t f =
        let same : r.id ≡ id = (bytes_eq-Decides r.id id).0 t in
        let p = both (has_text r.values) _ f in
        let there = subst (λ (i : Text). fine_values i how values ≡ true) (sym same) well in
        let new = counts_part (not (bytes_eq r.id (codes "window"))) (drops_minus how) values there in
        let old = joined_fine (not (bytes_eq r.id (codes "window"))) (drops_minus r.reading) r.values values p.1 new in
        and_true (has_text (r.values ++ values) && fine_values r.id r.reading (r.values ++ values)) true
        (and_true (has_text (r.values ++ values)) (fine_values r.id r.reading (r.values ++ values)) (joined_has r.values values p.0) old) refl

-- ---- what an argument keeps

abbrev is_count : ArgAction → Bool
is_count action.Count = true
is_count _ = false

-- a use gives a value, or the argument is a call for help
abbrev gives_value : Rule → Bool
gives_value a = is_request (action_of a) || (nat_lt 0 (unwrap_or_range a.range).start_inclusive || has_text a.missing)

pub record Suits (a : Rule) : Type 0 where
  pub no_count : is_count (action_of a) ≡ false
  pub gives : gives_value a ≡ true
  pub window : bytes_eq a.id (codes "window") ≡ true → (parser_of_value a.parser ≡ window_parser) × (a.ignore_case ≡ false) × (a.defaults ≡ [])

either : (a b : Bool) → (a || b) ≡ true → (a ≡ true) ⊎ (b ≡ true)
either true b e = inl refl
either false b e = inr e

use_has : (a : Rule) (values : List Text) → (nat_lt 0 (unwrap_or_range a.range).start_inclusive || has_text a.missing) ≡ true
    → nat_le (unwrap_or_range a.range).start_inclusive (length values) ≡ true → has_text (values_or_missing a values) ≡ true
use_has a (v ∷ vs) g e = refl
use_has a [] g e = elim (either (nat_lt 0 (unwrap_or_range a.range).start_inclusive) (has_text a.missing) g) [
  | inl least ↦ absurd (omega (arith, ltb-true 0 (unwrap_or_range a.range).start_inclusive least, leb-true (unwrap_or_range a.range).start_inclusive 0 e))
  | inr missing ↦ missing
]

use_fine : (a : Rule) (values : List Text) → Suits a → values_pass a values ≡ true → fine_values a.id (reading_by a) values ≡ true
use_fine a values s e = go (bytes_eq a.id (codes "window")) refl
  where
    go : (b : Bool) → bytes_eq a.id (codes "window") ≡ b → (not b || (drops_minus (reading_by a) && counts values)) ≡ true
    go false t = refl
    go true t =
        let w = s.window t in
        let how : drops_minus (reading_by a) ≡ true = ap (λ (p : ValueParser). drops_minus (reading_of p)) w.0 in
        let passed : counts values ≡ true = subst (λ (i : Bool). list_all (accepts i window_parser) values ≡ true) w.1
        (subst (λ (p : ValueParser). list_all (accepts a.ignore_case p) values ≡ true) w.0 e) in
        and_true _ _ how passed

used_fine : (x : ArgAction) (again : Bool) (a : Rule) (raw : List Text) (rows : List Row) → Suits a → is_count x ≡ false → (is_request x ≡ false → has_text raw ≡ true)
    → action_passes x again a raw rows ≡ true → Fine rows → Fine (used_as x a.id (reading_by a) raw rows)
used_fine action.Set again a raw rows s n there e all =
    with_values_fine a.id (reading_by a) CommandLine raw (without a.id rows) (there refl) (use_fine a raw s (both _ _ e).1) (without_fine a.id rows all)
used_fine action.SetTrue again a raw rows s n there e all =
    with_values_fine a.id (reading_by a) CommandLine raw (without a.id rows) (there refl) (use_fine a raw s (both _ _ e).1) (without_fine a.id rows all)
used_fine action.SetFalse again a raw rows s n there e all =
    with_values_fine a.id (reading_by a) CommandLine raw (without a.id rows) (there refl) (use_fine a raw s (both _ _ e).1) (without_fine a.id rows all)
used_fine action.Append again a raw rows s n there e all = with_values_fine a.id (reading_by a) CommandLine raw rows (there refl) (use_fine a raw s e) all
used_fine action.Count again a raw rows s n there e all = absurd cc
used_fine action.Help again a raw rows s n there e all = absurd cc
used_fine action.HelpShort again a raw rows s n there e all = absurd cc
used_fine action.HelpLong again a raw rows s n there e all = absurd cc
used_fine action.Version again a raw rows s n there e all = absurd cc

not_first : (a b : Bool) → (a || b) ≡ true → a ≡ false → b ≡ true
not_first true b e f = absurd cc
not_first false b e f = e

suits_keeps : (again : Bool) (a : Rule) → Suits a → Keeps Fine again a
suits_keeps again a s values rows e all =
    let p = both (nat_le (unwrap_or_range a.range).start_inclusive (length values)) _ e in
    used_fine (action_of a) again a (values_or_missing a values) rows s s.no_count
    (λ r. use_has a values (not_first (is_request (action_of a)) _ s.gives r) p.0) (both _ _ p.1).1 all

-- the window has no default
default_well : (a : Rule) (v : Text) (vs : List Text) → Suits a → a.defaults ≡ v ∷ vs → fine_values a.id (reading_by a) (v ∷ vs) ≡ true
default_well a v vs s e = go (bytes_eq a.id (codes "window")) refl
  where
    go : (b : Bool) → bytes_eq a.id (codes "window") ≡ b → (not b || (drops_minus (reading_by a) && counts (v ∷ vs))) ≡ true
    go false t = refl
    go true t =
        let none : a.defaults ≡ [] = (s.window t).2 in
        absurd cc

default_fine : (a : Rule) (vs : List Text) (rows : List Row) → Suits a → a.defaults ≡ vs → Fine rows → Fine (default_rows a.id (reading_by a) vs rows)
default_fine a [] rows s e all = all
default_fine a (v ∷ vs) rows s e all = with_values_fine a.id (reading_by a) DefaultValue (v ∷ vs) rows refl (default_well a v vs s e) all

suits_default : (a : Rule) → Suits a → KeepsDefault Fine a
suits_default a s rows all = go (has_row a.id rows)
  where
    go : (b : Bool) → Fine (cond b rows (default_rows a.id (reading_by a) a.defaults rows))
    go true = all
    go false = default_fine a a.defaults rows s refl all

each_keeps : (again : Bool) (c : List Rule) → Each Suits c → Each (Keeps Fine again) c
each_keeps again [] h = tt
each_keeps again (a ∷ c) h = (suits_keeps again a h.0, each_keeps again c h.1)

each_default : (c : List Rule) → Each Suits c → Each (KeepsDefault Fine) c
each_default [] h = tt
each_default (a ∷ c) h = (suits_default a h.0, each_default c h.1)

-- ---- what is read of fine rows

found_fine : (p : Row → Bool) (rows : List Row) (r : Row) → find p rows ≡ Some r → Fine rows → (p r ≡ true) × (fine r ≡ true)
found_fine p [] r e all = absurd cc
found_fine p (x ∷ rows) r e all = go (p x) refl e (both (fine x) _ all).0 (λ is. found_fine p rows r is (both (fine x) _ all).1)
  where
    go : (b : Bool) → p x ≡ b → cond b (Some x) (find p rows) ≡ Some r → fine x ≡ true → (find p rows ≡ Some r → (p r ≡ true) × (fine r ≡ true))
        → (p r ≡ true) × (fine r ≡ true)
    go true t is f deep =
        let same : x ≡ r = cc in
        subst (λ (y : Row). (p y ≡ true) × (fine y ≡ true)) same (t, f)
    go false t is f deep = deep is

-- what was given has a first value
given_first : (id : Text) (rows : List Row) → Fine rows → is_given id rows ≡ true → (t : Text) × (first_of id rows ≡ Some t)
given_first id rows all given = go (find (λ r. bytes_eq r.id id) rows) refl given
  where
    first : (vs : List Text) → has_text vs ≡ true → (t : Text) × (slice_get vs 0 ≡ Some t)
    first [] e = absurd cc
    first (v ∷ vs) e = (v, refl)

    go : (o : Option Row) → find (λ r. bytes_eq r.id id) rows ≡ o → option_map_or (λ r. explicit_source r.source) o false ≡ true
        → (t : Text) × (option_and_then (λ r. slice_get r.values 0) o ≡ Some t)
    go None is e = absurd cc
    go (Some r) is e = first r.values (both (has_text r.values) _ (found_fine (λ r. bytes_eq r.id id) rows r is all).1).0

keeps_text : (t : Text) → starts_with_minus t ≡ false → without_minus t ≡ t
keeps_text [] e = refl
keeps_text (x ∷ xs) e = rw e refl

count_read : (t : Text) → IsSignedIn (pos 1) (pos most_records) t → IsCount (without_minus t) (digits_value 10 (without_leading_plus (without_minus t)))
count_read t passed = go (starts_with_minus t) refl
  where
    go : (b : Bool) → starts_with_minus t ≡ b → IsCount (without_minus t) (digits_value 10 (without_leading_plus (without_minus t)))
    go true minus =
        let low = rw minus at passed.2 in
        absurd (omega (arith, ints))
    go false minus =
        let low = rw minus at passed.2 in
        let high = rw minus at passed.3 in
        let numeral = rw minus at passed.0 in
        let least : 1 ≤ digits_value 10 (without_leading_plus t) = omega (arith, ints) in
        let most : digits_value 10 (without_leading_plus t) ≤ most_records = omega (arith, ints) in
        subst (λ (u : Text). IsCount u (digits_value 10 (without_leading_plus u))) (sym (keeps_text t minus))
        (record { numeral = numeral; value = refl; least = least; most = most })

text_window : (how : Reading) (values : List Text) → has_text values ≡ true → drops_minus how ≡ true → counts values ≡ true
    → (w : Option ℕ) × IsWindow (option_map (read_as how) (slice_get values 0)) w
text_window how [] e d l = absurd cc
text_window reading.AsWritten (v ∷ vs) e d l = absurd cc
text_window reading.Boolish (v ∷ vs) e d l = absurd cc
text_window reading.Falsey (v ∷ vs) e d l = absurd cc
text_window reading.WithoutMinus (v ∷ vs) e d l =
    (Some (digits_value 10 (without_leading_plus (without_minus v))), count_read v (accepts-Accepts false window_parser v (both _ _ l).0))

window_read : (rows : List Row) → Fine rows → (w : Option ℕ) × IsWindow (one_of (codes "window") rows) w
window_read rows all = go (find (λ r. bytes_eq r.id (codes "window")) rows) refl
  where
    go : (o : Option Row) → find (λ r. bytes_eq r.id (codes "window")) rows ≡ o → (w : Option ℕ) × IsWindow (option_and_then row_text o) w
    go None is = (None, tt)
    go (Some r) is =
        let h = found_fine (λ r. bytes_eq r.id (codes "window")) rows r is all in
        let p = both (has_text r.values) _ h.1 in
        let q = both _ _ (required (bytes_eq r.id (codes "window")) _ h.0 p.1) in
        text_window r.reading r.values p.0 q.0 q.1

-- ---- the commands

-- but for `opcodes` a command of this name has a FILE
abbrev GivesFile : Text → List Row → Type 0
GivesFile name rows = MatchBool (bytes_eq name (codes "opcodes")) ⊤ (is_given (codes "FILE") rows ≡ true)

pub record IsOurs (sub : Shape) : Type 0 where
  pub command : IsCommand sub.name
  pub suits : Each Suits sub.rules
  pub file : (rows : List Row) → list_all (λ a. not a.required || is_given a.id rows) sub.rules ≡ true → GivesFile sub.name rows
  pub list : sub.name ≡ codes "gate" → (rows : List Row) → list_all (λ a. not a.required || is_given a.id rows) sub.rules ≡ true → is_given (codes "LIST") rows ≡ true
  pub other : sub.name ≡ codes "same" → (rows : List Row) → list_all (λ a. not a.required || is_given a.id rows) sub.rules ≡ true → is_given (codes "OTHER") rows ≡ true

gives_file : (name : Text) (rows : List Row) → GivesFile name rows → name ≢ codes "opcodes" → is_given (codes "FILE") rows ≡ true
gives_file name rows gives other = go (bytes_eq name (codes "opcodes")) refl gives
  where
    go : (b : Bool) → bytes_eq name (codes "opcodes") ≡ b → MatchBool b ⊤ (is_given (codes "FILE") rows ≡ true) → is_given (codes "FILE") rows ≡ true
    go true e g = absurd (other ((bytes_eq-Decides name (codes "opcodes")).0 e))
    go false e g = g

unnegated : (b x : Bool) → ((b && false) || x) ≡ true → x ≡ true
unnegated true x e = e
unnegated false x e = e

all_given : (s : Shape) (rows : List Row) → is_valid s rows false ≡ true → list_all (λ a. not a.required || is_given a.id rows) s.rules ≡ true
all_given s rows e =
    let shown = both (not s.arg_required_else_help || list_any (λ r. explicit_source r.source) rows) _ e in
    let entered = both (not s.subcommand_required || false) _ shown.1 in
    let free = both (list_all (λ a. a.is_free) s.rules) _ entered.1 in
    unnegated s.subcommand_negates_reqs _ free.1

is_some_not : {A : Type 0} {o : Option A} → (t : A) × (o ≡ Some t) → o ≡ None → ⊥
is_some_not h e = let no : None ≡ Some h.0 = sym e ∙ h.1 in absurd cc

-- all words that a command takes whose subcommands are ours name a task
names_task : (a : App) (words : List Text) → (built a).top.subcommand_required ≡ true
    → ((name : Text) → Each (λ sub. answers_to name (label_of sub) ≡ true → no_help (built a).top name ≡ true → IsOurs sub) (built a).subs)
    → takes a words ≡ true → FitsOptions (subcommand_of a words) → NamesTask (subcommand_of a words)
names_task a words needed ours taken fits =
    let e = enters (built a) (argument_words a words) needed (both (is_simple a) _ taken).1 in
    let o = found_each (λ sub. no_help (built a).top e.name ≡ true → IsOurs sub) (λ s. answers_to e.name (label_of s)) (built a).subs e.sub e.found
    (ours e.name) e.called in
    let rows = rows_after e.sub.rules [] e.rest in
    let all = level_keeps Fine e.sub [] e.rest false (each_keeps e.sub.args_override_self e.sub.rules o.suits)
    (each_default e.sub.rules o.suits) refl e.passes in
    let given = all_given e.sub rows (level_is_valid e.sub [] e.rest false e.passes) in
    let window = window_read rows all in
    record {
      name = e.sub.name;
      rows = rows;
      used = enters_rows (built a) _ e;
      command = o.command;
      file_is = λ other. is_some_not (given_first (codes "FILE") rows all (gives_file e.sub.name rows (o.file rows given) other));
      list_is = λ is. is_some_not (given_first (codes "LIST") rows all (o.list is rows given));
      other_is = λ is. is_some_not (given_first (codes "OTHER") rows all (o.other is rows given));
      window = window.0;
      window_is = window.1;
      fits = fits;
    }

file_suits : Suits (with_index 1 (filled file_rule))
file_suits = record { no_count = refl; gives = refl; window = λ e. absurd cc }

list_suits : Suits (with_index 1 (filled list_rule))
list_suits = record { no_count = refl; gives = refl; window = λ e. absurd cc }

other_suits : Suits (with_index 2 (filled other_rule))
other_suits = record { no_count = refl; gives = refl; window = λ e. absurd cc }

last_suits : Suits (with_index 2 (filled files_rule))
last_suits = record { no_count = refl; gives = refl; window = λ e. absurd cc }

many_suits : Suits (filled many_rule)
many_suits = record { no_count = refl; gives = refl; window = λ e. absurd cc }

unframed_suits : Suits (filled unframed_rule)
unframed_suits = record { no_count = refl; gives = refl; window = λ e. absurd cc }

json_suits : Suits (filled json_rule)
json_suits = record { no_count = refl; gives = refl; window = λ e. absurd cc }

whole_suits : Suits (filled whole_rule)
whole_suits = record { no_count = refl; gives = refl; window = λ e. absurd cc }

first_suits : Suits (filled first_rule)
first_suits = record { no_count = refl; gives = refl; window = λ e. absurd cc }

memo_suits : Suits (filled memo_rule)
memo_suits = record { no_count = refl; gives = refl; window = λ e. absurd cc }

full_suits : Suits (filled full_rule)
full_suits = record { no_count = refl; gives = refl; window = λ e. absurd cc }

skip_suits : Suits (filled skip_rule)
skip_suits = record { no_count = refl; gives = refl; window = λ e. absurd cc }

window_suits : Suits (filled window_rule)
window_suits = record { no_count = refl; gives = refl; window = λ e. (refl, refl, refl) }

save_suits : Suits (filled save_rule)
save_suits = record { no_count = refl; gives = refl; window = λ e. absurd cc }

extensions_suits : Suits (filled extensions_rule)
extensions_suits = record { no_count = refl; gives = refl; window = λ e. absurd cc }

persistent_suits : Suits (filled persistent_rule)
persistent_suits = record { no_count = refl; gives = refl; window = λ e. absurd cc }

buffers_suits : Suits (filled buffers_rule)
buffers_suits = record { no_count = refl; gives = refl; window = λ e. absurd cc }

help_suits : Suits (filled help_rule)
help_suits = record { no_count = refl; gives = refl; window = λ e. absurd cc }

or_false : (b : Bool) → (b || false) ≡ true → b ≡ true
or_false true e = refl
or_false false e = e

-- `help` is none of them
help_is_none : (name : Text) → (bytes_eq (codes "help") name || false) ≡ true → (not (bytes_eq name (codes "help")) || false) ≡ true → ⊥
help_is_none name t called =
    let same : codes "help" ≡ name = (bytes_eq-Decides (codes "help") name).0 (or_false _ t) in
    let again : bytes_eq name (codes "help") ≡ true = (bytes_eq-Decides name (codes "help")).1 (sym same) in
    let bad : false ≡ true = sym (ap (λ (b : Bool). not b || false) again) ∙ called in
    absurd cc

ours : (name : Text) → Each (λ sub. answers_to name (label_of sub) ≡ true → no_help (built program).top name ≡ true → IsOurs sub) (built program).subs
ours name = (
  (λ t called. record {
    command = (word.List, refl);
    suits = (file_suits, (many_suits, (unframed_suits, (json_suits, (whole_suits, (help_suits, tt))))));
    file = λ rows e. (both _ _ e).0;
    list = unlike (codes "list") (codes "gate") refl;
    other = unlike (codes "list") (codes "same") refl;
  }),
  (
    (λ t called. record {
      command = (word.Objects, refl);
      suits = (file_suits, (many_suits, (unframed_suits, (json_suits, (help_suits, tt)))));
      file = λ rows e. (both _ _ e).0;
      list = unlike (codes "objects") (codes "gate") refl;
      other = unlike (codes "objects") (codes "same") refl;
    }),
    (
      (λ t called. record {
        command = (word.Calls, refl);
        suits = (file_suits, (many_suits, (first_suits, (memo_suits, (full_suits, (skip_suits, (json_suits, (help_suits, tt))))))));
        file = λ rows e. (both _ _ e).0;
        list = unlike (codes "calls") (codes "gate") refl;
        other = unlike (codes "calls") (codes "same") refl;
      }),
      (
        (λ t called. record {
          command = (word.Debug, refl);
          suits = (file_suits, (many_suits, (unframed_suits, (window_suits, (save_suits, (json_suits, (help_suits, tt)))))));
          file = λ rows e. (both _ _ e).0;
          list = unlike (codes "debug") (codes "gate") refl;
          other = unlike (codes "debug") (codes "same") refl;
        }),
        (
          (λ t called. record {
            command = (word.Form, refl);
            suits = (file_suits, (many_suits, (json_suits, (help_suits, tt))));
            file = λ rows e. (both _ _ e).0;
            list = unlike (codes "form") (codes "gate") refl;
            other = unlike (codes "form") (codes "same") refl;
          }),
          (
            (λ t called. record {
              command = (word.Gate, refl);
              suits = (list_suits, (last_suits, (json_suits, (help_suits, tt))));
              file = λ rows e. (both _ _ (both _ _ e).1).0;
              list = λ is rows e. (both _ _ e).0;
              other = unlike (codes "gate") (codes "same") refl;
            }),
            (
              (λ t called. record {
                command = (word.Reach, refl);
                suits = (file_suits, (extensions_suits, (persistent_suits, (buffers_suits, (json_suits, (help_suits, tt))))));
                file = λ rows e. (both _ _ e).0;
                list = unlike (codes "reach") (codes "gate") refl;
                other = unlike (codes "reach") (codes "same") refl;
              }),
              (
                (λ t called. record {
                  command = (word.Members, refl);
                  suits = (file_suits, (json_suits, (help_suits, tt)));
                  file = λ rows e. (both _ _ e).0;
                  list = unlike (codes "members") (codes "gate") refl;
                  other = unlike (codes "members") (codes "same") refl;
                }),
                (
                  (λ t called. record {
                    command = (word.Assemble, refl);
                    suits = (file_suits, (help_suits, tt));
                    file = λ rows e. (both _ _ e).0;
                    list = unlike (codes "assemble") (codes "gate") refl;
                    other = unlike (codes "assemble") (codes "same") refl;
                  }),
                  (
                    (λ t called. record {
                      command = (word.Same, refl);
                      suits = (file_suits, (many_suits, (other_suits, (json_suits, (help_suits, tt)))));
                      file = λ rows e. (both _ _ e).0;
                      list = unlike (codes "same") (codes "gate") refl;
                      other = λ is rows e. (both _ _ (both _ _ e).1).0;
                    }),
                    (
                      (λ t called. record {
                        command = (word.Source, refl);
                        suits = (file_suits, (many_suits, (unframed_suits, (help_suits, tt))));
                        file = λ rows e. (both _ _ e).0;
                        list = unlike (codes "source") (codes "gate") refl;
                        other = unlike (codes "source") (codes "same") refl;
                      }),
                      (
                        (λ t called. record {
                          command = (word.Opcodes, refl);
                          suits = (json_suits, (help_suits, tt));
                          file = λ rows e. tt;
                          list = unlike (codes "opcodes") (codes "gate") refl;
                          other = unlike (codes "opcodes") (codes "same") refl;
                        }),
                        ((λ t called. absurd (help_is_none name t called)), tt),
                      ),
                    ),
                  ),
                ),
              ),
            ),
          ),
        ),
      ),
    ),
  ),
)

-- all words that clap takes name a task where the options of `calls` fit
pub taken_name : (words : List Text) → takes program words ≡ true → FitsOptions (subcommand_of program words) → NamesTask (subcommand_of program words)
taken_name words = names_task program words refl ours
