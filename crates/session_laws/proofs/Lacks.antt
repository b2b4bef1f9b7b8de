-- Texts that lack a byte: a newline, or what ends a column.
use Rattle.std.proofs.Common.{◌≡◌, ◌≢◌, ℕ, ℤ, pos, negsuc, zero, suc, ◌+◌, ◌-◌, ◌==◌, ◌&&◌, Bool, true, false, ltb-true, ◌<◌, List, [], ◌∷◌, ◌++◌, refl, sym, ap, ◌∙◌, rules, arith}
use Rattle.std.specs.Prelude.{not, nat_lt, nat_le, codes, decimal, replicate, length, if◌then◌else◌, slice_index, ◌/◌, ◌%◌}
use Rattle.std.specs.Fmt.{signed_decimal, digits, digits_onto, digit_glyph}
use Rattle.std.specs.List.{flat_map}
use Rattle.hex.specs.Hex.{encode_with, lower_digits}
use Rattle.pickle_io.specs.Text.{◌⧺◌, hexadecimal, escaped, quoted_byte, quoted_bytes, quoted}
use Rattle.pickle_io.specs.Device.{each}
use Rattle.pickle_text.specs.Column.{right_aligned, left_aligned}

-- no byte of a text is this one
abbrev pub lacks : ℕ → List ℕ → Bool
lacks b [] = true
lacks b (x ∷ xs) = not (x == b) && lacks b xs

pub both_hold : (a b : Bool) → a ≡ true → b ≡ true → (a && b) ≡ true
both_hold true true p q = refl
both_hold true false p q = absurd cc
both_hold false b p q = absurd cc

pub first_holds : (a b : Bool) → (a && b) ≡ true → a ≡ true
first_holds true b e = refl
first_holds false b e = absurd cc

pub second_holds : (a b : Bool) → (a && b) ≡ true → b ≡ true
second_holds true b e = e
second_holds false b e = absurd cc

pub differ : (a b : ℕ) → a ≢ b → not (a == b) ≡ true
differ a b h = go (a == b) refl
  where
    go : (x : Bool) → (a == b) ≡ x → not x ≡ true
    go false e = refl
    go true e = let same : a ≡ b = search rules in absurd (h same)

-- ---- one text after another

pub lacks_append : (b : ℕ) (xs ys : List ℕ) → lacks b xs ≡ true → lacks b ys ≡ true → lacks b (xs ++ ys) ≡ true
lacks_append b [] ys p q = q
lacks_append b (x ∷ xs) ys p q =
    both_hold (not (x == b)) (lacks b (xs ++ ys)) (first_holds (not (x == b)) (lacks b xs) p) (lacks_append b xs ys (second_holds (not (x == b)) (lacks b xs) p) q)

pub lacks_join : (b : ℕ) (xs ys : List ℕ) → lacks b xs ≡ true → lacks b ys ≡ true → lacks b (xs ⧺ ys) ≡ true
unfolding ◌⧺◌
lacks_join b xs ys p q = lacks_append b xs ys p q

pub lacks_each : {X : Type 0} (b : ℕ) (text : X → List ℕ) (xs : List X) → ((x : X) → lacks b (text x) ≡ true) → lacks b (each text xs) ≡ true
unfolding each
lacks_each b text [] h = refl
lacks_each b text (x ∷ xs) h = lacks_append b (text x) (flat_map text xs) (h x) (lacks_each b text xs h)

pub lacks_blanks : (b n : ℕ) → not (32 == b) ≡ true → lacks b (replicate n 32) ≡ true
lacks_blanks b zero h = refl
lacks_blanks b (suc n) h = both_hold (not (32 == b)) (lacks b (replicate n 32)) h (lacks_blanks b n h)

pub lacks_right : (b width : ℕ) (text : List ℕ) → not (32 == b) ≡ true → lacks b text ≡ true → lacks b (right_aligned width text) ≡ true
unfolding right_aligned
lacks_right b width text h p = lacks_join b (replicate (width - length text) 32) text (lacks_blanks b (width - length text) h) p

pub lacks_left : (b width : ℕ) (text : List ℕ) → not (32 == b) ≡ true → lacks b text ≡ true → lacks b (left_aligned width text) ≡ true
unfolding left_aligned
lacks_left b width text h p = lacks_join b text (replicate (width - length text) 32) p (lacks_blanks b (width - length text) h)

-- ---- numbers

-- a byte that is no decimal digit, below the letters
pub record IsNoDigit (b : ℕ) : Type 0 where
  pub no_digit : (d : ℕ) → digit_glyph false d ≢ b

glyph : (b d : ℕ) → IsNoDigit b → not (digit_glyph false d == b) ≡ true
glyph b d h = differ (digit_glyph false d) b (h.no_digit d)

either : {A : Type 0} (P : A → Type 0) (x : Bool) (a b : A) → P a → P b → P (if x then a else b)
either P true a b p q = p
either P false a b p q = q

onto : (b k base n : ℕ) (acc : List ℕ) → IsNoDigit b → lacks b acc ≡ true → lacks b (digits_onto k base false n acc) ≡ true
onto b zero base n acc h p = p
onto b (suc k) base n acc h p =
    let more : lacks b (digit_glyph false (n % base) ∷ acc) ≡ true = both_hold (not (digit_glyph false (n % base) == b)) (lacks b acc) (glyph b (n % base) h) p in
    either (λ (t : List ℕ). lacks b t ≡ true) (n / base == 0) (digit_glyph false (n % base) ∷ acc) (digits_onto k base false (n / base) (digit_glyph false (n % base) ∷ acc))
    more (onto b k base (n / base) (digit_glyph false (n % base) ∷ acc) h more)

pub lacks_decimal : (b n : ℕ) → IsNoDigit b → lacks b (decimal n) ≡ true
unfolding digits
lacks_decimal b n h = onto b 64 10 n [] h refl

pub lacks_signed : (b : ℕ) (z : ℤ) → not (45 == b) ≡ true → IsNoDigit b → lacks b (signed_decimal z) ≡ true
lacks_signed b (pos n) m h = lacks_decimal b n h
lacks_signed b (negsuc n) m h = both_hold (not (45 == b)) (lacks b (decimal (suc n))) m (lacks_decimal b (suc n) h)

pub no_digit_by : (b d : ℕ) (x : Bool) → nat_lt d 10 ≡ x → ((n : ℕ) → 48 + n ≡ b → n < 10 → ⊥) → ((n : ℕ) → 87 + n ≡ b → ⊥) → (if x then 48 + d else (if false then 55 + d else 87 + d)) ≢ b
no_digit_by b d true e f g = λ q. f d q (ltb-true d 10 e)
no_digit_by b d false e f g = λ q. g d q

pub newline_no_digit : IsNoDigit 10
newline_no_digit = record { no_digit = λ d. no_digit_by 10 d (nat_lt d 10) refl (λ n q l. omega (arith, q)) (λ n q. omega (arith, q)) }

pub colon_no_digit : IsNoDigit 58
colon_no_digit = record { no_digit = λ d. no_digit_by 58 d (nat_lt d 10) refl (λ n q l. omega (arith, q, l)) (λ n q. omega (arith, q)) }

pub blank_no_digit : IsNoDigit 32
blank_no_digit = record { no_digit = λ d. no_digit_by 32 d (nat_lt d 10) refl (λ n q l. omega (arith, q)) (λ n q. omega (arith, q)) }

pub quote_no_digit : IsNoDigit 39
quote_no_digit = record { no_digit = λ d. no_digit_by 39 d (nat_lt d 10) refl (λ n q l. omega (arith, q)) (λ n q. omega (arith, q)) }

-- ---- hexadecimal and quotes: no newline

digit : (b : ℕ) (t : List ℕ) (n : ℕ) → not (0 == b) ≡ true → lacks b t ≡ true → not (slice_index t n == b) ≡ true
digit b [] n z p = z
digit b (x ∷ t) zero z p = first_holds (not (x == b)) (lacks b t) p
digit b (x ∷ t) (suc n) z p = digit b t n z (second_holds (not (x == b)) (lacks b t) p)

pub lacks_hexadecimal : (bytes : List ℕ) → lacks 10 (hexadecimal bytes) ≡ true
unfolding hexadecimal encode_with
lacks_hexadecimal [] = refl
lacks_hexadecimal (byte ∷ bytes) =
    both_hold (not (slice_index lower_digits (byte / 16) == 10)) _ (digit 10 lower_digits (byte / 16) refl refl)
    (both_hold (not (slice_index lower_digits (byte % 16) == 10)) _ (digit 10 lower_digits (byte % 16) refl refl) (lacks_hexadecimal bytes))

lacks_escaped : (byte : ℕ) → lacks 10 (escaped byte) ≡ true
unfolding escaped
lacks_escaped byte = lacks_join 10 (codes "\\x") (hexadecimal (byte ∷ [])) refl (lacks_hexadecimal (byte ∷ []))

visible : (byte : ℕ) (b : Bool) → (nat_le 32 byte && b) ≡ true → byte ≢ 10
visible byte b e = λ at.
    let no : (nat_le 32 10 && b) ≡ true = ap (λ (n : ℕ). nat_le 32 n && b) (sym at) ∙ e in
    absurd cc

quoted_by : (byte : ℕ) (b c d : Bool) → (nat_le 32 byte && nat_le byte 126) ≡ d → lacks 10 (if b then codes "\\\\" else if c then codes "\\'" else if d then byte ∷ [] else escaped byte) ≡ true
quoted_by byte true c d e = refl
quoted_by byte false true d e = refl
quoted_by byte false false true e = both_hold (not (byte == 10)) true (differ byte 10 (visible byte (nat_le byte 126) e)) refl
quoted_by byte false false false e = lacks_escaped byte

lacks_quoted_byte : (byte : ℕ) → lacks 10 (quoted_byte byte) ≡ true
unfolding quoted_byte
lacks_quoted_byte byte = quoted_by byte (byte == 92) (byte == 39) (nat_le 32 byte && nat_le byte 126) refl

lacks_quoted_bytes : (q : List ℕ) → lacks 10 (quoted_bytes q) ≡ true
unfolding quoted_bytes
lacks_quoted_bytes [] = refl
lacks_quoted_bytes (byte ∷ q) = lacks_append 10 (quoted_byte byte) (flat_map quoted_byte q) (lacks_quoted_byte byte) (lacks_quoted_bytes q)

pub lacks_quoted : (q : List ℕ) → lacks 10 (quoted q) ≡ true
unfolding quoted
lacks_quoted q = lacks_join 10 (codes "'" ⧺ quoted_bytes q) (codes "'") (lacks_join 10 (codes "'") (quoted_bytes q) refl (lacks_quoted_bytes q)) refl
