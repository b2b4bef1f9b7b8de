-- What stands for a character between quotes: it is visible ASCII, and read back.
use Rattle.std.proofs.Common.{◌≡◌, ℕ, ◌+◌, ◌-◌, ◌*◌, ◌/◌, ◌%◌, ◌<◌, ◌≤◌, Bool, true, false, ◌&&◌, ◌||◌, List, [], ◌∷◌, ◌++◌, Option, Some, inl, inr, refl, sym, ap, ◌∙◌, subst, append_assoc, arith}
use Rattle.std.specs.Prelude.{nat_lt, nat_le, ◌==◌, if◌then◌else◌, ◌⊎◌}
use Rattle.std.specs.Char.{digit_char, digit_value}
use Rattle.std.specs.List.{list_all}
use Rattle.std.proofs.lemmas.Bool.{cases_eq, cases_lt, ne_eqb, eq-eqb, lt-ltb, le-ltb, le-leb, lt-leb, ltb-true, ltb-false, and_left, and_right, and_from, cond_both}
use Rattle.std.proofs.lemmas.Str.{digit_value-digit_char}
use Rattle.pickle_io.specs.Text.{◌⧺◌}
use Rattle.python_literals.specs.Signs.{two_digits, byte_escape, short_escape, long_escape, hex_escape, ascii_text}
use Rattle.python_literals.specs.Grammar.{Mode, Plain, Escape, Digits, Step, End, Wrong, Goes, Gives, plain_step, escape_step, digits_step, in_front, by_step, read_on}

-- ---- digits

pub digit_visible : (d : ℕ) → d < 16 → (32 ≤ digit_char d) × (digit_char d ≤ 126)
digit_visible d h =
    cond_both (nat_lt d 10) (48 + d) (87 + d) (λ (x : ℕ). (32 ≤ x) × (x ≤ 126)) (λ e. (omega arith, omega (arith, ltb-true d 10 e))) (λ e. (omega arith, omega (arith, h)))

digit_read : (wide : Bool) (q left n d : ℕ) (r : List ℕ) → d < 16
    → read_on wide q (Digits left n) (digit_char d ∷ r) ≡ by_step (digits_step left (16 * n + d)) r (λ m. read_on wide q m r)
unfolding read_on
digit_read wide q left n d r h = rw (digit_value-digit_char d (omega (arith, h)), lt-ltb d 16 h) refl

more_read : (wide : Bool) (q left n d : ℕ) (r : List ℕ) → d < 16 → (left == 1) ≡ false
    → read_on wide q (Digits left n) (digit_char d ∷ r) ≡ read_on wide q (Digits (left - 1) (16 * n + d)) r
more_read wide q left n d r h e =
    digit_read wide q left n d r h
    ∙ ap (λ (b : Bool). by_step (if b then (if nat_le (16 * n + d) 1114111 then Gives (16 * n + d) else Wrong) else Goes (Digits (left - 1) (16 * n + d))) r (λ m. read_on wide q m r)) e

last_read : (wide : Bool) (q n d : ℕ) (r : List ℕ) → d < 16 → 16 * n + d ≤ 1114111
    → read_on wide q (Digits 1 n) (digit_char d ∷ r) ≡ in_front (16 * n + d) (read_on wide q Plain r)
last_read wide q n d r h k =
    digit_read wide q 1 n d r h
    ∙ ap (λ (b : Bool). by_step (if b then Gives (16 * n + d) else Wrong) r (λ m. read_on wide q m r)) (le-leb (16 * n + d) 1114111 k)

pair_more : (wide : Bool) (q left n m : ℕ) (r : List ℕ) → (left == 1) ≡ false → (left - 1 == 1) ≡ false
    → read_on wide q (Digits left n) (two_digits m ++ r) ≡ read_on wide q (Digits (left - 1 - 1) (256 * n + m % 256)) r
unfolding two_digits
pair_more wide q left n m r e f =
    let all : 16 * (16 * n + m / 16 % 16) + m % 16 ≡ 256 * n + m % 256 = omega arith in
    more_read wide q left n (m / 16 % 16) (digit_char (m % 16) ∷ r) (omega arith) e
    ∙ more_read wide q (left - 1) (16 * n + m / 16 % 16) (m % 16) r (omega arith) f
    ∙ ap (λ (k : ℕ). read_on wide q (Digits (left - 1 - 1) k) r) all

pair_last : (wide : Bool) (q n m : ℕ) (r : List ℕ) → 256 * n + m % 256 ≤ 1114111
    → read_on wide q (Digits 2 n) (two_digits m ++ r) ≡ in_front (256 * n + m % 256) (read_on wide q Plain r)
unfolding two_digits
pair_last wide q n m r h =
    let all : 16 * (16 * n + m / 16 % 16) + m % 16 ≡ 256 * n + m % 256 = omega arith in
    more_read wide q 2 n (m / 16 % 16) (digit_char (m % 16) ∷ r) (omega arith) refl
    ∙ last_read wide q (16 * n + m / 16 % 16) (m % 16) r (omega arith) (omega (arith, h))
    ∙ ap (λ (k : ℕ). in_front k (read_on wide q Plain r)) all

-- ---- escapes

-- behind a backslash
after_backslash : (wide : Bool) (q : ℕ) (r : List ℕ) → (92 == q) ≡ false → read_on wide q Plain (92 ∷ r) ≡ read_on wide q Escape r
unfolding read_on
after_backslash wide q r e = rw e refl

letter_read : (wide : Bool) (q c v : ℕ) (r : List ℕ) → escape_step wide c ≡ Gives v → read_on wide q Escape (c ∷ r) ≡ in_front v (read_on wide q Plain r)
unfolding read_on
letter_read wide q c v r e = ap (λ (s : Step). by_step s r (λ m. read_on wide q m r)) e

marked_read : (wide : Bool) (q c left : ℕ) (r : List ℕ) → escape_step wide c ≡ Goes (Digits left 0) → read_on wide q Escape (c ∷ r) ≡ read_on wide q (Digits left 0) r
unfolding read_on
marked_read wide q c left r e = ap (λ (s : Step). by_step s r (λ m. read_on wide q m r)) e

byte_read : (wide : Bool) (q c : ℕ) (r : List ℕ) → (92 == q) ≡ false → c < 256 → read_on wide q Plain (byte_escape c ++ r) ≡ in_front c (read_on wide q Plain r)
unfolding byte_escape ◌⧺◌
byte_read wide q c r e h =
    let same : 256 * 0 + c % 256 ≡ c = omega (arith, h) in
    after_backslash wide q (120 ∷ (two_digits c ++ r)) e ∙ marked_read wide q 120 2 (two_digits c ++ r) refl
    ∙ pair_last wide q 0 c r (omega (arith, h)) ∙ ap (λ (k : ℕ). in_front k (read_on wide q Plain r)) same

short_read : (q c : ℕ) (r : List ℕ) → (92 == q) ≡ false → c < 65536 → read_on true q Plain (short_escape c ++ r) ≡ in_front c (read_on true q Plain r)
unfolding short_escape ◌⧺◌
short_read q c r e h =
    let same : 256 * (256 * 0 + c / 256 % 256) + c % 256 ≡ c = omega (arith, h) in
    ap (read_on true q Plain) (append_four (92 ∷ 117 ∷ []) (two_digits (c / 256)) (two_digits c) r)
    ∙ after_backslash true q (117 ∷ (two_digits (c / 256) ++ (two_digits c ++ r))) e ∙ marked_read true q 117 4 (two_digits (c / 256) ++ (two_digits c ++ r)) refl
    ∙ pair_more true q 4 0 (c / 256) (two_digits c ++ r) refl refl
    ∙ pair_last true q (256 * 0 + c / 256 % 256) c r (omega (arith, h)) ∙ ap (λ (k : ℕ). in_front k (read_on true q Plain r)) same
  where
    append_four : (a b c r : List ℕ) → ((a ++ b) ++ c) ++ r ≡ a ++ (b ++ (c ++ r))
    append_four a b c r = simp append_assoc

long_read : (q c : ℕ) (r : List ℕ) → (92 == q) ≡ false → c ≤ 1114111 → read_on true q Plain (long_escape c ++ r) ≡ in_front c (read_on true q Plain r)
unfolding long_escape ◌⧺◌
long_read q c r e h =
    let n : ℕ = 256 * 0 + c / 16777216 % 256 in
    let m : ℕ = 256 * n + c / 65536 % 256 in
    let k : ℕ = 256 * m + c / 256 % 256 in
    let same : 256 * k + c % 256 ≡ c = omega (arith, h) in
    let rest : List ℕ = two_digits (c / 65536) ++ (two_digits (c / 256) ++ (two_digits c ++ r)) in
    ap (read_on true q Plain) (append_six (92 ∷ 85 ∷ []) (two_digits (c / 16777216)) (two_digits (c / 65536)) (two_digits (c / 256)) (two_digits c) r)
    ∙ after_backslash true q (85 ∷ (two_digits (c / 16777216) ++ rest)) e ∙ marked_read true q 85 8 (two_digits (c / 16777216) ++ rest) refl
    ∙ pair_more true q 8 0 (c / 16777216) rest refl refl
    ∙ pair_more true q 6 n (c / 65536) (two_digits (c / 256) ++ (two_digits c ++ r)) refl refl
    ∙ pair_more true q 4 m (c / 256) (two_digits c ++ r) refl refl
    ∙ pair_last true q k c r (omega (arith, h, same)) ∙ ap (λ (x : ℕ). in_front x (read_on true q Plain r)) same
  where
    append_six : (a b c d e r : List ℕ) → ((((a ++ b) ++ c) ++ d) ++ e) ++ r ≡ a ++ (b ++ (c ++ (d ++ (e ++ r))))
    append_six a b c d e r = simp append_assoc

-- which characters a kind of literal may have
abbrev pub IsAllowed : Bool → ℕ → Type 0
IsAllowed true c = c ≤ 1114111
IsAllowed false c = c < 256

hex_read : (wide : Bool) (q c : ℕ) (r : List ℕ) → (92 == q) ≡ false → IsAllowed wide c → read_on wide q Plain (hex_escape c ++ r) ≡ in_front c (read_on wide q Plain r)
unfolding hex_escape
hex_read false q c r e h = rw (lt-ltb c 256 h) (byte_read false q c r e h)
hex_read true q c r e h = elim (cases_lt c 256) [
  | inl few ↦ rw (lt-ltb c 256 few) (byte_read true q c r e few)
  | inr more ↦ elim (cases_lt c 65536) [
    | inl some ↦ rw (le-ltb c 256 more, lt-ltb c 65536 some) (short_read q c r e some)
    | inr many ↦ rw (le-ltb c 256 more, le-ltb c 65536 many) (long_read q c r e h)
  ]
]

-- ---- characters

-- the quotes around a literal, and the one that has a backslash before it
pub record AreQuotes (q e : ℕ) : Type 0 where
  pub around : (q ≡ 39) ⊎ (q ≡ 34)
  pub escaped : (e ≡ 39) ⊎ (e ≡ 34)

pub no_backslash : (q e : ℕ) → AreQuotes q e → (92 == q) ≡ false
no_backslash q e a = elim a.around [ inl h ↦ rw h refl | inr h ↦ rw h refl ]

quote_step : (wide : Bool) (q e : ℕ) → AreQuotes q e → escape_step wide e ≡ Gives e
quote_step wide q e a = elim a.escaped [ inl h ↦ rw h refl | inr h ↦ rw h refl ]

or_true : (x : Bool) → (x || true) ≡ true
or_true true = refl
or_true false = refl

or_false : (x y : Bool) → x ≡ false → y ≡ false → (x || y) ≡ false
or_false x y e f = rw (e, f) refl

-- a character that stands for itself
pub plain_read : (wide : Bool) (q c : ℕ) (r : List ℕ) → (c ≡ q → ⊥) → (c ≡ 92 → ⊥) → (c ≡ 10 → ⊥) → (c ≡ 13 → ⊥) → (wide || nat_lt c 128) ≡ true
    → read_on wide q Plain (c ∷ r) ≡ in_front c (read_on wide q Plain r)
unfolding read_on
plain_read wide q c r n b l k w = rw (ne_eqb c q n, ne_eqb c 92 b, ne_eqb c 10 l, ne_eqb c 13 k, w) refl

-- what a character of no more than ASCII is
abbrev Reads : Bool → ℕ → ℕ → ℕ → Type 0
Reads wide q e c = (r : List ℕ) → read_on wide q Plain (ascii_text e c ++ r) ≡ in_front c (read_on wide q Plain r)

by_letter : (wide : Bool) (q c l : ℕ) (r : List ℕ) → (92 == q) ≡ false → escape_step wide l ≡ Gives c → read_on wide q Plain (92 ∷ l ∷ r) ≡ in_front c (read_on wide q Plain r)
by_letter wide q c l r e s = after_backslash wide q (l ∷ r) e ∙ letter_read wide q l c r s

record Other (e c : ℕ) : Type 0 where
  quote : c ≡ e → ⊥
  sign : c ≡ 92 → ⊥
  tab : c ≡ 9 → ⊥
  line : c ≡ 10 → ⊥
  back : c ≡ 13 → ⊥

other_is : (e c : ℕ) → Other e c → ascii_text e c ≡ (if nat_le 32 c && nat_le c 126 then c ∷ [] else hex_escape c)
unfolding ascii_text
other_is e c o = rw (ne_eqb c e o.quote, ne_eqb c 92 o.sign, ne_eqb c 9 o.tab, ne_eqb c 10 o.line, ne_eqb c 13 o.back) refl

other_hidden : (wide : Bool) (q e c : ℕ) → AreQuotes q e → IsAllowed wide c → Other e c → (nat_le 32 c && nat_le c 126) ≡ false → Reads wide q e c
other_hidden wide q e c a h o f r =
    ap (λ (t : List ℕ). read_on wide q Plain (t ++ r)) (other_is e c o ∙ ap (λ (b : Bool). if b then c ∷ [] else hex_escape c) f)
    ∙ hex_read wide q c r (no_backslash q e a) h

other_shown : (wide : Bool) (q e c : ℕ) → (c ≡ q → c ≡ e) → Other e c → 32 ≤ c → c ≤ 126 → Reads wide q e c
other_shown wide q e c same o low high r =
    ap (λ (t : List ℕ). read_on wide q Plain (t ++ r))
    (other_is e c o ∙ ap (λ (b : Bool). if b then c ∷ [] else hex_escape c) (and_from (nat_le 32 c) (nat_le c 126) (le-leb 32 c low) (le-leb c 126 high)))
    ∙ plain_read wide q c r (λ h. o.quote (same h)) o.sign o.line o.back (ap (λ (b : Bool). wide || b) (lt-ltb c 128 (omega (arith, high))) ∙ or_true wide)

other_reads : (wide : Bool) (q e c : ℕ) → AreQuotes q e → IsAllowed wide c → (c ≡ q → c ≡ e) → Other e c → Reads wide q e c
other_reads wide q e c a h same o = elim (cases_lt c 32) [
  | inl control ↦ other_hidden wide q e c a h o (and_left (nat_le 32 c) (nat_le c 126) (lt-leb 32 c control))
  | inr low ↦ elim (cases_lt c 127) [
    | inl high ↦ other_shown wide q e c same o low (omega (arith, high))
    | inr far ↦ other_hidden wide q e c a h o (and_right (nat_le 32 c) (nat_le c 126) (lt-leb c 126 (omega (arith, far))))
  ]
]

quote_reads : (wide : Bool) (q e c : ℕ) → AreQuotes q e → c ≡ e → Reads wide q e c
unfolding ascii_text
quote_reads wide q e c a h r = rw (eq-eqb c e h) (by_letter wide q c e r (no_backslash q e a) (quote_step wide q e a ∙ ap Gives (sym h)))

pub ascii_reads : (wide : Bool) (q e c : ℕ) → AreQuotes q e → IsAllowed wide c → (c ≡ q → c ≡ e) → Reads wide q e c
unfolding ascii_text
ascii_reads wide q e c a h same = elim (cases_eq c e) [
  | inl is ↦ quote_reads wide q e c a is
  | inr quote ↦ elim (cases_eq c 92) [
    | inl is ↦ λ r. rw (ne_eqb c e quote, eq-eqb c 92 is) (by_letter wide q c 92 r (no_backslash q e a) (ap Gives (sym is)))
    | inr sign ↦ elim (cases_eq c 9) [
      | inl is ↦ λ r. rw (ne_eqb c e quote, ne_eqb c 92 sign, eq-eqb c 9 is) (by_letter wide q c 116 r (no_backslash q e a) (ap Gives (sym is)))
      | inr tab ↦ elim (cases_eq c 10) [
        | inl is ↦ λ r. rw (ne_eqb c e quote, ne_eqb c 92 sign, ne_eqb c 9 tab, eq-eqb c 10 is) (by_letter wide q c 110 r (no_backslash q e a) (ap Gives (sym is)))
        | inr line ↦ elim (cases_eq c 13) [
          | inl is ↦ λ r. rw (ne_eqb c e quote, ne_eqb c 92 sign, ne_eqb c 9 tab, ne_eqb c 10 line, eq-eqb c 13 is) (by_letter wide q c 114 r (no_backslash q e a) (ap Gives (sym is)))
          | inr back ↦ other_reads wide q e c a h same (record { quote = quote; sign = sign; tab = tab; line = line; back = back })
        ]
      ]
    ]
  ]
]
