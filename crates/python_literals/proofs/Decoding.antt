-- The characters of a text that a loader reads have its bytes.
use Rattle.std.proofs.Common.{◌≡◌, ℕ, zero, suc, ◌+◌, ◌-◌, ◌*◌, ◌/◌, ◌%◌, ◌<◌, ◌≤◌, Bool, true, false, ◌&&◌, not, List, [], ◌∷◌, ◌++◌, length, take, drop, Option, Some, None, inl, inr, refl, sym, ap, ap₂, ◌∙◌, arith}
use Rattle.std.specs.Prelude.{nat_lt, nat_le, ◌==◌, if◌then◌else◌, ⊤}
use Rattle.std.specs.List.{list_all}
use Rattle.std.specs.Str.{chars, chars_after, continuation_len, lead_bits, encode_utf8_all}
use Rattle.std.specs.Char.{encode_utf8}
use Rattle.std.proofs.lemmas.Bool.{cases_eq, cases_lt, cases_Bool, ne_eqb, eq-eqb, lt-ltb, le-ltb, le-leb, leb-true, ltb-true, and_parts, cond_both, eqb-true, eqb-false}
use lib.Utf8.{encode, encodes}
use Rattle.pickle_names.specs.declared.coding.Coding.{Coding}
use Rattle.pickle_names.specs.declared.coding.Coding.TheVariants as coding
use Rattle.pickle_names.specs.declared.coding.Piece.{Piece}
use Rattle.pickle_names.specs.declared.coding.Piece.TheVariants as piece
use Rattle.pickle_names.specs.Coding.{within, tail_count, second_low, second_high, is_second, is_tail, are_tails, goes_with, utf8_front, front_of}
use Rattle.pickle_names.specs.Value.{Decoded, decode, decode_all, after_front, front_size}
use Rattle.python_literals.specs.Laws.{IsText}

-- the characters are those of Unicode, surrogates among them, and have the bytes
abbrev pub AreSmall : List ℕ → Type 0
AreSmall [] = ⊤
AreSmall (c ∷ cs) = (c ≤ 1114111) × AreSmall cs

pub record IsSpelled (bytes : List ℕ) : Type 0 where
  pub small : AreSmall (chars bytes)
  pub same : encode_utf8_all (chars bytes) ≡ bytes

-- ---- one character

zero_left : (c : ℕ) (rest : List ℕ) → chars_after 0 c rest ≡ c ∷ chars rest
unfolding chars
zero_left c [] = refl
zero_left c (b ∷ rest) = refl

-- a character in front of a text that is spelled
in_front_of : (bytes rest front : List ℕ) (c : ℕ) → chars bytes ≡ c ∷ chars rest → c ≤ 1114111 → encode c ≡ front → bytes ≡ front ++ rest → IsSpelled rest → IsSpelled bytes
in_front_of bytes rest front c is h e parts s = record {
  small = rw is (h, s.small);
  same = ap encodes is ∙ ap₂ (λ (x y : List ℕ). x ++ y) e s.same ∙ sym parts;
}

one_byte : (b : ℕ) (rest : List ℕ) → b < 128 → IsSpelled rest → IsSpelled (b ∷ rest)
unfolding chars encode
one_byte b rest h s =
    let is : chars (b ∷ rest) ≡ b ∷ chars rest = rw (lt-ltb b 128 h) (zero_left b rest) in
    let e : encode b ≡ b ∷ [] = rw (lt-ltb b 128 h) refl in
    in_front_of (b ∷ rest) rest (b ∷ []) b is (omega (arith, h)) e refl s

two_bytes : (b c : ℕ) (rest : List ℕ) → 194 ≤ b → b < 224 → 128 ≤ c → c ≤ 191 → IsSpelled rest → IsSpelled (b ∷ c ∷ rest)
unfolding chars encode
two_bytes b c rest low high l h s =
    let n : ℕ = (b - 192) * 64 + (c - 128) in
    let is : chars (b ∷ c ∷ rest) ≡ n ∷ chars rest = rw (le-ltb b 128 (omega (arith, low)), lt-ltb b 224 high) (zero_left n rest) in
    let first : 192 + n / 64 ≡ b = omega (arith, low, high, l, h) in
    let second : 128 + n % 64 ≡ c = omega (arith, low, high, l, h) in
    let e : encode n ≡ b ∷ c ∷ [] =
    rw (le-ltb n 128 (omega (arith, low, l)), lt-ltb n 2048 (omega (arith, high, h))) (ap₂ (λ (x y : ℕ). x ∷ y ∷ []) first second) in
    in_front_of (b ∷ c ∷ rest) rest (b ∷ c ∷ []) n is (omega (arith, high, h)) e refl s

cons3 : {a b c x y z : ℕ} → a ≡ x → b ≡ y → c ≡ z → a ∷ b ∷ c ∷ [] ≡ x ∷ y ∷ z ∷ []
cons3 p q r = cc

cons4 : {a b c d x y z w : ℕ} → a ≡ x → b ≡ y → c ≡ z → d ≡ w → a ∷ b ∷ c ∷ d ∷ [] ≡ x ∷ y ∷ z ∷ w ∷ []
cons4 p q r s = cc

three_bytes : (b c d : ℕ) (rest : List ℕ) → 224 ≤ b → b < 240 → 128 ≤ c → c ≤ 191 → (b ≡ 224 → 160 ≤ c) → 128 ≤ d → d ≤ 191 → IsSpelled rest → IsSpelled (b ∷ c ∷ d ∷ rest)
unfolding chars encode
three_bytes b c d rest low high l h least m k s =
    let n : ℕ = ((b - 224) * 64 + (c - 128)) * 64 + (d - 128) in
    let is : chars (b ∷ c ∷ d ∷ rest) ≡ n ∷ chars rest =
    rw (le-ltb b 128 (omega (arith, low)), le-ltb b 224 low, lt-ltb b 240 high) (zero_left n rest) in
    let large : 2048 ≤ n = elim (cases_eq b 224) [ inl z ↦ omega (arith, z, least z, m) | inr z ↦ omega (arith, z, low, l, m) ] in
    let first : 224 + n / 4096 ≡ b = omega (arith, low, high, l, h, m, k) in
    let second : 128 + n / 64 % 64 ≡ c = omega (arith, low, high, l, h, m, k) in
    let third : 128 + n % 64 ≡ d = omega (arith, low, high, l, h, m, k) in
    let e : encode n ≡ b ∷ c ∷ d ∷ [] =
    rw (le-ltb n 128 (omega (arith, large)), le-ltb n 2048 large, lt-ltb n 65536 (omega (arith, high, h, k))) (cons3 first second third) in
    in_front_of (b ∷ c ∷ d ∷ rest) rest (b ∷ c ∷ d ∷ []) n is (omega (arith, high, h, k)) e refl s

four_bytes : (b c d f : ℕ) (rest : List ℕ) → 240 ≤ b → b ≤ 244 → 128 ≤ c → c ≤ 191 → (b ≡ 240 → 144 ≤ c) → (b ≡ 244 → c ≤ 143) → 128 ≤ d → d ≤ 191 → 128 ≤ f → f ≤ 191
    → IsSpelled rest → IsSpelled (b ∷ c ∷ d ∷ f ∷ rest)
unfolding chars encode
four_bytes b c d f rest low high l h least most m k i j s =
    let n : ℕ = (((b - 240) * 64 + (c - 128)) * 64 + (d - 128)) * 64 + (f - 128) in
    let is : chars (b ∷ c ∷ d ∷ f ∷ rest) ≡ n ∷ chars rest =
    rw (le-ltb b 128 (omega (arith, low)), le-ltb b 224 (omega (arith, low)), le-ltb b 240 low) (zero_left n rest) in
    let large : 65536 ≤ n = elim (cases_eq b 240) [ inl z ↦ omega (arith, z, least z, m, i) | inr z ↦ omega (arith, z, low, l, m, i) ] in
    let small : n ≤ 1114111 = elim (cases_eq b 244) [ inl z ↦ omega (arith, z, most z, k, j) | inr z ↦ omega (arith, z, high, h, k, j) ] in
    let first : 240 + n / 262144 ≡ b = omega (arith, low, high, l, h, m, k, i, j) in
    let second : 128 + n / 4096 % 64 ≡ c = omega (arith, low, high, l, h, m, k, i, j) in
    let third : 128 + n / 64 % 64 ≡ d = omega (arith, low, high, l, h, m, k, i, j) in
    let fourth : 128 + n % 64 ≡ f = omega (arith, low, high, l, h, m, k, i, j) in
    let e : encode n ≡ b ∷ c ∷ d ∷ f ∷ [] =
    rw (le-ltb n 128 (omega (arith, large)), le-ltb n 2048 (omega (arith, large)), le-ltb n 65536 large) (cons4 first second third fourth) in
    in_front_of (b ∷ c ∷ d ∷ f ∷ rest) rest (b ∷ c ∷ d ∷ f ∷ []) n is small e refl s

-- ---- what the test of the bytes after the first says

record Second (b c : ℕ) : Type 0 where
  low : 128 ≤ c
  high : c ≤ 191
  three : b ≡ 224 → 160 ≤ c
  four : b ≡ 240 → 144 ≤ c
  most : b ≡ 244 → c ≤ 143

within_is : (low high b : ℕ) → within low high b ≡ true → (low ≤ b) × (b ≤ high)
within_is low high b h = let p = and_parts (nat_le low b) (nat_le b high) h in (leb-true low b p.0, leb-true b high p.1)

low_bounds : (b : ℕ) → (128 ≤ second_low b) × (b ≡ 224 → 160 ≤ second_low b) × (b ≡ 240 → 144 ≤ second_low b)
low_bounds b = elim (cases_eq b 224) [
  | inl e ↦ rw (eq-eqb b 224 e) (omega arith, λ h. omega arith, λ h. omega arith)
  | inr n ↦ elim (cases_eq b 240) [
    | inl e ↦ rw (ne_eqb b 224 n, eq-eqb b 240 e) (omega arith, λ h. absurd (n h), λ h. omega arith)
    | inr m ↦ rw (ne_eqb b 224 n, ne_eqb b 240 m) (omega arith, λ h. absurd (n h), λ h. absurd (m h))
  ]
]

high_by : (x : Bool) (b : ℕ) → (x && not true) ≡ false
high_by true b = refl
high_by false b = refl

high_bounds : (b : ℕ) → (second_high true b ≤ 191) × (b ≡ 244 → second_high true b ≤ 143)
high_bounds b = elim (cases_eq b 244) [
  | inl e ↦ rw (high_by (b == 237) b, eq-eqb b 244 e) (omega arith, λ h. omega arith)
  | inr n ↦ rw (high_by (b == 237) b, ne_eqb b 244 n) (omega arith, λ h. absurd (n h))
]

second_is : (b c : ℕ) → is_second true b c ≡ true → Second b c
second_is b c h =
    let w = within_is (second_low b) (second_high true b) c h in
    let l = low_bounds b in
    let m = high_bounds b in
    record {
      low = omega (arith, w.0, l.0);
      high = omega (arith, w.1, m.0);
      three = λ e. omega (arith, w.0, l.1 e);
      four = λ e. omega (arith, w.0, l.2 e);
      most = λ e. omega (arith, w.1, m.1 e);
    }

-- ---- a text

-- what is left of a text is spelled
abbrev Later : ℕ → List ℕ → Type 0
Later n bytes = length bytes ≤ n → (decode coding.AnyUtf8 n bytes).good ≡ true → IsSpelled bytes

tails_one : (rest : List ℕ) → are_tails 1 rest ≡ true → (d : ℕ) × (more : List ℕ) × (rest ≡ d ∷ more) × (128 ≤ d) × (d ≤ 191)
tails_one [] h = absurd cc
tails_one (d ∷ more) h =
    let p = and_parts (nat_le 1 (length (d ∷ more))) (is_tail d && true) h in
    let q = and_parts (is_tail d) true p.1 in
    let w = within_is 128 191 d q.0 in
    (d, more, refl, w.0, w.1)

tails_two : (rest : List ℕ) → are_tails 2 rest ≡ true → (d : ℕ) × (f : ℕ) × (more : List ℕ) × (rest ≡ d ∷ f ∷ more) × (128 ≤ d) × (d ≤ 191) × (128 ≤ f) × (f ≤ 191)
tails_two [] h = absurd cc
tails_two (d ∷ []) h = absurd cc
tails_two (d ∷ f ∷ more) h =
    let p = and_parts (nat_le 2 (length (d ∷ f ∷ more))) (is_tail d && (is_tail f && true)) h in
    let q = and_parts (is_tail d) (is_tail f && true) p.1 in
    let r = and_parts (is_tail f) true q.1 in
    let v = within_is 128 191 d q.0 in
    let w = within_is 128 191 f r.0 in
    (d, f, more, refl, v.0, v.1, w.0, w.1)

-- a character of more than one byte, by how many come after the first
long_by : (n b : ℕ) (rest : List ℕ) → 194 ≤ b → b ≤ 244 → goes_with true b rest ≡ true
    → ((left : List ℕ) → Later n left) → length rest ≤ n → (decode coding.AnyUtf8 n (drop (tail_count b + 1) (b ∷ rest))).good ≡ true → IsSpelled (b ∷ rest)
long_by n b [] low high w ind len g = absurd cc
long_by n b (c ∷ rest) low high w ind len g =
    let p = and_parts (is_second true b c) (are_tails (tail_count b - 1) rest) w in
    let s = second_is b c p.0 in
    elim (cases_lt b 224) [
      | inl two ↦
          let count : tail_count b ≡ 1 = rw (lt-ltb b 224 two) refl in
          two_bytes b c rest low two s.low s.high (ind rest (omega (arith, len)) (rw count at g))
      | inr more ↦ elim (cases_lt b 240) [
        | inl three ↦
            let count : tail_count b ≡ 2 = rw (le-ltb b 224 more, lt-ltb b 240 three) refl in
            let t = tails_one rest (rw count at p.1) in
            let e : c ∷ rest ≡ c ∷ t.0 ∷ t.1 = ap (λ (l : List ℕ). c ∷ l) t.2 in
            rw e (three_bytes b c t.0 t.1 more three s.low s.high s.three t.3 t.4 (ind t.1 (omega (arith, len, ap length t.2)) (rw (count, t.2) at g)))
        | inr four ↦
            let count : tail_count b ≡ 3 = rw (le-ltb b 224 more, le-ltb b 240 four) refl in
            let t = tails_two rest (rw count at p.1) in
            let e : c ∷ rest ≡ c ∷ t.0 ∷ t.1 ∷ t.2 = ap (λ (l : List ℕ). c ∷ l) t.3 in
            rw e (four_bytes b c t.0 t.1 t.2 four high s.low s.high s.four s.most t.4 t.5 t.6 t.7 (ind t.2 (omega (arith, len, ap length t.3)) (rw (count, t.3) at g)))
      ]
    ]

-- by what is in front
front_by : (n b : ℕ) (rest : List ℕ) (x : Bool) (y : Bool) → nat_lt b 128 ≡ x → (within 194 244 b && goes_with true b rest) ≡ y
    → ((left : List ℕ) → Later n left) → length rest ≤ n → (decode coding.AnyUtf8 (suc n) (b ∷ rest)).good ≡ true → IsSpelled (b ∷ rest)
unfolding front_of utf8_front
front_by n b rest true y e f ind len g =
    one_byte b rest (ltb-true b 128 e) (ind rest len (rw e at g))
front_by n b rest false true e f ind len g =
    let p = and_parts (within 194 244 b) (goes_with true b rest) f in
    let w = within_is 194 244 b p.0 in
    long_by n b rest w.0 w.1 p.1 ind len (rw (e, f) at g)
front_by n b rest false false e f ind len g = let no : false ≡ true = rw (e, f) at g in absurd cc

later : (n : ℕ) (bytes : List ℕ) → Later n bytes
unfolding chars
later zero [] len g = record { small = tt; same = refl }
later zero (b ∷ rest) len g = absurd (omega (arith, len))
later (suc n) [] len g = record { small = tt; same = refl }
later (suc n) (b ∷ rest) len g =
    front_by n b rest (nat_lt b 128) (within 194 244 b && goes_with true b rest) refl refl (λ left. later n left) (omega (arith, len)) g

pub text_spelled : (text : List ℕ) → IsText text → IsSpelled text
text_spelled text h = later (length text) text (omega arith) h
