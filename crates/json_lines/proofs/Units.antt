-- A string is read back, the lexer passes over it, and its characters print.
use Rattle.std.proofs.Common.{◌≡◌, ℕ, ◌+◌, ◌-◌, ◌*◌, ◌/◌, ◌%◌, ◌<◌, ◌≤◌, Bool, true, false, cond, ◌&&◌, List, [], ◌∷◌, ◌++◌, Some, inl, inr, refl, sym, ap, ◌∙◌, subst, arith, append_assoc}
use Rattle.std.specs.Prelude.{nat_lt, nat_le}
use Rattle.std.specs.Char.{digit_char, digit_value}
use Rattle.std.specs.List.{list_all}
use Rattle.std.proofs.lemmas.Bool.{cases_eq, cases_lt, ne_eqb, lt-ltb, le-ltb, le-leb, lt-leb, ltb-true, ltb-false, and_left, and_right, and_from, and_parts, cond_both, agree_below_at}
use Rattle.std.proofs.lemmas.List.Folds.{list_all-append}
use Rattle.std.proofs.lemmas.Str.{digit_value-digit_char, encode_ascii}
use lib.Utf8.{scalar, scalars, scalar_cases, encode, encodes}
use Rattle.json.specs.Text.{content, plain, prepend, code_unit, short_escape, is_high_surrogate, is_low_surrogate, surrogate_pair}
use Rattle.json.specs.Word.{is_operator, is_space}
use Rattle.json.specs.Lex.{Lexeme, Mode, lex, lex_byte, between, in_string, operator, space, other}
use Rattle.pickle_io.specs.Text.{◌⧺◌}
use Rattle.pickle_io.specs.Device.{each}
use Rattle.pickle_io.proofs.Devices.{each-nil, each-cons}
use Rattle.json_lines.specs.Json.{unit_text, pair_text, char_text}
use Rattle.json_lines.specs.Readable.{is_printed}

-- ---- digits

digit_above : (d : ℕ) → 48 ≤ digit_char d
digit_above d = cond_both (nat_lt d 10) (48 + d) (87 + d) (λ (x : ℕ). 48 ≤ x) (λ e. omega arith) (λ e. omega arith)

no_backslash : (d : ℕ) → digit_char d ≡ 92 → ⊥
no_backslash d =
    cond_both (nat_lt d 10) (48 + d) (87 + d) (λ (x : ℕ). x ≡ 92 → ⊥) (λ e h. omega (arith, h, ltb-true d 10 e)) (λ e h. omega (arith, h, ltb-false d 10 e))

stays_inside : (o s : Bool) (x : ℕ) (r : List ℕ) (k : Mode → List Lexeme) → lex_byte in_string (cond o operator (cond s space other)) x r k ≡ k in_string
stays_inside true s x r k = refl
stays_inside false true x r k = refl
stays_inside false false x r k = refl

inside : (x : ℕ) (r : List ℕ) → (x ≡ 34 → ⊥) → (x ≡ 92 → ⊥) → lex in_string (x ∷ r) ≡ lex in_string r
unfolding lex
inside x r q b = rw (ne_eqb x 34 q, ne_eqb x 92 b) (stays_inside (is_operator x) (is_space x) x r (λ m. lex m r))

digit_inside : (d : ℕ) (r : List ℕ) → lex in_string (digit_char d ∷ r) ≡ lex in_string r
digit_inside d r = inside (digit_char d) r (λ e. omega (arith, e, digit_above d)) (no_backslash d)

code_by : (a b c d va vb vc vd : ℕ) → digit_value a ≡ va → digit_value b ≡ vb → digit_value c ≡ vc → digit_value d ≡ vd → va < 16 → vb < 16 → vc < 16 → vd < 16
    → code_unit a b c d ≡ Some (va * 4096 + vb * 256 + vc * 16 + vd)
unfolding code_unit
code_by a b c d va vb vc vd ea eb ec ed la lb lc ld = rw (ea, eb, ec, ed, lt-ltb va 16 la, lt-ltb vb 16 lb, lt-ltb vc 16 lc, lt-ltb vd 16 ld) refl

code_is : (u : ℕ) → u < 65536 → code_unit (digit_char (u / 4096)) (digit_char (u / 256 % 16)) (digit_char (u / 16 % 16)) (digit_char (u % 16)) ≡ Some u
code_is u h =
    let a : u / 4096 < 16 = omega (arith, h) in
    let b : u / 256 % 16 < 16 = omega arith in
    let c : u / 16 % 16 < 16 = omega arith in
    let d : u % 16 < 16 = omega arith in
    code_by (digit_char (u / 4096)) (digit_char (u / 256 % 16)) (digit_char (u / 16 % 16)) (digit_char (u % 16)) (u / 4096) (u / 256 % 16) (u / 16 % 16) (u % 16)
    (digit_value-digit_char (u / 4096) (omega arith)) (digit_value-digit_char (u / 256 % 16) (omega arith)) (digit_value-digit_char (u / 16 % 16) (omega arith)) (digit_value-digit_char (u % 16) (omega arith))
    a b c d ∙ ap Some (omega (arith, h))

-- ---- units

-- the four digits of a unit are passed
unit_lexed : (u : ℕ) (r : List ℕ) → lex in_string (unit_text u ++ r) ≡ lex in_string r
unfolding lex unit_text
unit_lexed u r =
    digit_inside (u / 4096) (digit_char (u / 256 % 16) ∷ digit_char (u / 16 % 16) ∷ digit_char (u % 16) ∷ r)
    ∙ digit_inside (u / 256 % 16) (digit_char (u / 16 % 16) ∷ digit_char (u % 16) ∷ r)
    ∙ digit_inside (u / 16 % 16) (digit_char (u % 16) ∷ r) ∙ digit_inside (u % 16) r

no_high : (u : ℕ) → scalar u ≡ true → is_high_surrogate u ≡ false
no_high u s = elim (scalar_cases u s) [
  | inl low ↦ and_left (nat_le 0xd800 u) (nat_lt u 0xdc00) (lt-leb 0xd800 u low)
  | inr up ↦ and_right (nat_le 0xd800 u) (nat_lt u 0xdc00) (le-ltb u 0xdc00 (omega (arith, up.0)))
]

no_low : (u : ℕ) → scalar u ≡ true → is_low_surrogate u ≡ false
no_low u s = elim (scalar_cases u s) [
  | inl low ↦ and_left (nat_le 0xdc00 u) (nat_lt u 0xe000) (lt-leb 0xdc00 u (omega (arith, low)))
  | inr up ↦ and_right (nat_le 0xdc00 u) (nat_lt u 0xe000) (le-ltb u 0xe000 up.0)
]

unit_read : (u : ℕ) (r : List ℕ) → u < 65536 → scalar u ≡ true → content plain (unit_text u ++ r) ≡ prepend (encode u) (content plain r)
unfolding content unit_text
unit_read u r h s = rw (code_is u h, no_high u s, no_low u s) refl

pair_read : (high low : ℕ) (r : List ℕ) → high < 65536 → low < 65536 → is_high_surrogate high ≡ true → is_low_surrogate low ≡ true
    → content plain (unit_text high ++ (unit_text low ++ r)) ≡ prepend (encode (surrogate_pair high low)) (content plain r)
unfolding content unit_text
pair_read high low r h l is_high is_low = rw (code_is high h, is_high, code_is low l, is_low) refl

-- ---- texts that print

abbrev pub Prints : List ℕ → Type 0
Prints t = list_all is_printed t ≡ true

pub both_print : (xs ys : List ℕ) → Prints xs → Prints ys → Prints (xs ++ ys)
both_print xs ys p q = list_all-append is_printed xs ys ∙ and_from _ _ p q

digit_prints : (d : ℕ) → d < 16 → is_printed (digit_char d) ≡ true
digit_prints d h = agree_below_at (λ (x : ℕ). is_printed (digit_char x)) (λ (x : ℕ). true) 16 d refl h

unit_prints : (u : ℕ) → u < 65536 → Prints (unit_text u)
unfolding unit_text
unit_prints u h =
    and_from _ _ (digit_prints (u / 4096) (omega (arith, h))) (and_from _ _ (digit_prints (u / 256 % 16) (omega arith))
    (and_from _ _ (digit_prints (u / 16 % 16) (omega arith)) (and_from _ _ (digit_prints (u % 16) (omega arith)) refl)))

-- ---- characters

-- what both readers make of a character as it stands in a string, before any text; and that it prints
record Passes (c : ℕ) : Type 0 where
  read : (r : List ℕ) → content plain (char_text c ++ r) ≡ prepend (encode c) (content plain r)
  lexed : (r : List ℕ) → lex in_string (char_text c ++ r) ≡ lex in_string r
  printed : Prints (char_text c)

quote_passes : Passes 34
unfolding char_text content lex short_escape encode
quote_passes = record { read = λ r. refl; lexed = λ r. refl; printed = refl }

backslash_passes : Passes 92
unfolding char_text content lex short_escape encode
backslash_passes = record { read = λ r. refl; lexed = λ r. refl; printed = refl }

plain_read : (c : ℕ) (r : List ℕ) → (c ≡ 34 → ⊥) → (c ≡ 92 → ⊥) → 32 ≤ c → content plain (c ∷ r) ≡ prepend (c ∷ []) (content plain r)
unfolding content
plain_read c r q b low = rw (ne_eqb c 34 q, ne_eqb c 92 b, le-ltb c 32 low) refl

plain_passes : (c : ℕ) → (c ≡ 34 → ⊥) → (c ≡ 92 → ⊥) → 32 ≤ c → c ≤ 126 → Passes c
unfolding char_text
plain_passes c q b low high =
    let same : char_text c ≡ c ∷ [] = rw (ne_eqb c 34 q, ne_eqb c 92 b, le-leb 32 c low, le-leb c 126 high) refl in
    record {
      read = λ r. ap (λ (t : List ℕ). content plain (t ++ r)) same ∙ plain_read c r q b low ∙ ap (λ (t : List ℕ). prepend t (content plain r)) (sym (encode_ascii c (omega (arith, high))));
      lexed = λ r. ap (λ (t : List ℕ). lex in_string (t ++ r)) same ∙ inside c r q b;
      printed = ap (list_all is_printed) same ∙ and_from _ _ (and_from _ _ (le-leb 32 c low) (le-leb c 126 high)) refl;
    }

-- neither of these
abbrev IsApart : ℕ → Type 0
IsApart c = (nat_le 32 c && nat_le c 126) ≡ false

unit_passes : (c : ℕ) → scalar c ≡ true → (c ≡ 34 → ⊥) → (c ≡ 92 → ⊥) → IsApart c → c < 65536 → Passes c
unfolding char_text
unit_passes c s q b apart below =
    let same : char_text c ≡ unit_text c = rw (ne_eqb c 34 q, ne_eqb c 92 b, apart, lt-ltb c 65536 below) refl in
    record {
      read = λ r. ap (λ (t : List ℕ). content plain (t ++ r)) same ∙ unit_read c r below s;
      lexed = λ r. ap (λ (t : List ℕ). lex in_string (t ++ r)) same ∙ unit_lexed c r;
      printed = ap (list_all is_printed) same ∙ unit_prints c below;
    }

far_passes : (c : ℕ) → scalar c ≡ true → (c ≡ 34 → ⊥) → (c ≡ 92 → ⊥) → IsApart c → 65536 ≤ c → Passes c
unfolding char_text pair_text ◌⧺◌
far_passes c s q b apart beyond =
    let high : ℕ = 0xd800 + (c - 0x10000) / 1024 in
    let low : ℕ = 0xdc00 + (c - 0x10000) % 1024 in
    let bound : c < 1114112 = elim (scalar_cases c s) [ inl few ↦ omega (arith, few) | inr more ↦ more.1 ] in
    let same : char_text c ≡ unit_text high ++ unit_text low = rw (ne_eqb c 34 q, ne_eqb c 92 b, apart, le-ltb c 65536 beyond) refl in
    let joined : (r : List ℕ) → char_text c ++ r ≡ unit_text high ++ (unit_text low ++ r) = λ r. ap (λ (t : List ℕ). t ++ r) same ∙ append_assoc (unit_text high) (unit_text low) r in
    let is_high : is_high_surrogate high ≡ true = and_from _ _ (le-leb 0xd800 high (omega arith)) (lt-ltb high 0xdc00 (omega (arith, bound))) in
    let is_low : is_low_surrogate low ≡ true = and_from _ _ (le-leb 0xdc00 low (omega arith)) (lt-ltb low 0xe000 (omega arith)) in
    let whole : surrogate_pair high low ≡ c = omega (arith, beyond) in
    record {
      read = λ r. ap (content plain) (joined r) ∙ pair_read high low r (omega (arith, bound)) (omega arith) is_high is_low ∙ ap (λ (n : ℕ). prepend (encode n) (content plain r)) whole;
      lexed = λ r. ap (lex in_string) (joined r) ∙ unit_lexed high (unit_text low ++ r) ∙ unit_lexed low r;
      printed = ap (list_all is_printed) same ∙ both_print (unit_text high) (unit_text low) (unit_prints high (omega (arith, bound))) (unit_prints low (omega arith));
    }

other_passes : (c : ℕ) → scalar c ≡ true → (c ≡ 34 → ⊥) → (c ≡ 92 → ⊥) → IsApart c → Passes c
other_passes c s q b apart = elim (cases_lt c 65536) [
  | inl below ↦ unit_passes c s q b apart below
  | inr beyond ↦ far_passes c s q b apart beyond
]

not_either : (c : ℕ) → scalar c ≡ true → (c ≡ 34 → ⊥) → (c ≡ 92 → ⊥) → Passes c
not_either c s q b = elim (cases_lt c 32) [
  | inl control ↦ other_passes c s q b (and_left (nat_le 32 c) (nat_le c 126) (lt-leb 32 c control))
  | inr low ↦ elim (cases_lt c 127) [
    | inl high ↦ plain_passes c q b low (omega (arith, high))
    | inr far ↦ other_passes c s q b (and_right (nat_le 32 c) (nat_le c 126) (lt-leb c 126 (omega (arith, far))))
  ]
]

passes : (c : ℕ) → scalar c ≡ true → Passes c
passes c s = elim (cases_eq c 34) [
  | inl e ↦ subst Passes (sym e) quote_passes
  | inr q ↦ elim (cases_eq c 92) [
    | inl e ↦ subst Passes (sym e) backslash_passes
    | inr b ↦ not_either c s q b
  ]
]

-- ---- strings

string_end : (r : List ℕ) → (content plain (34 ∷ r) ≡ Some []) × (lex in_string (34 ∷ r) ≡ lex between r)
unfolding content lex
string_end r = (refl, refl)

pub content-chars : (cs r : List ℕ) → scalars cs ≡ true → content plain (each char_text cs ++ 34 ∷ r) ≡ Some (encodes cs)
content-chars [] r h = ap (λ (t : List ℕ). content plain (t ++ 34 ∷ r)) (each-nil char_text) ∙ (string_end r).0
content-chars (c ∷ cs) r h =
    let p = and_parts (scalar c) (scalars cs) h in
    ap (λ (t : List ℕ). content plain (t ++ 34 ∷ r)) (each-cons char_text c cs) ∙ ap (content plain) (append_assoc (char_text c) (each char_text cs) (34 ∷ r))
    ∙ (passes c p.0).read (each char_text cs ++ 34 ∷ r) ∙ ap (prepend (encode c)) (content-chars cs r p.1)

pub lex-chars : (cs r : List ℕ) → scalars cs ≡ true → lex in_string (each char_text cs ++ 34 ∷ r) ≡ lex between r
lex-chars [] r h = ap (λ (t : List ℕ). lex in_string (t ++ 34 ∷ r)) (each-nil char_text) ∙ (string_end r).1
lex-chars (c ∷ cs) r h =
    let p = and_parts (scalar c) (scalars cs) h in
    ap (λ (t : List ℕ). lex in_string (t ++ 34 ∷ r)) (each-cons char_text c cs) ∙ ap (lex in_string) (append_assoc (char_text c) (each char_text cs) (34 ∷ r))
    ∙ (passes c p.0).lexed (each char_text cs ++ 34 ∷ r) ∙ lex-chars cs r p.1

pub prints-chars : (cs : List ℕ) → scalars cs ≡ true → Prints (each char_text cs)
prints-chars [] h = ap (list_all is_printed) (each-nil char_text)
prints-chars (c ∷ cs) h =
    let p = and_parts (scalar c) (scalars cs) h in
    ap (list_all is_printed) (each-cons char_text c cs) ∙ both_print (char_text c) (each char_text cs) (passes c p.0).printed (prints-chars cs p.1)
