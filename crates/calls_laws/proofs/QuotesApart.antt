-- What is in quotes is read back.
use Rattle.std.proofs.Common.{◌≡◌, ℕ, suc, ◌<◌, ◌==◌, ◌&&◌, Bool, true, false, List, [], ◌∷◌, ◌++◌, Some, refl, sym, ap, ap₂, ◌∙◌, append_assoc, arith, rules}
use Rattle.std.specs.Prelude.{nat_le, codes, if◌then◌else◌, slice_index, drop, ◌/◌, ◌%◌}
use Rattle.std.specs.List.{flat_map}
use Rattle.hex.specs.Hex.{encode_with, lower_digits, hex_digit_value}
use Rattle.hex.proofs.HexLemmas.{IsDigits-lower_digits}
use Rattle.pickle_io.specs.Text.{◌⧺◌, hexadecimal, escaped, quoted_byte, quoted_bytes, quoted}
use Rattle.pickle_doc.specs.Document.{AreBytes}
use Rattle.calls_laws.specs.LineLaws.{QuotesReadBack}

-- ---- one byte

-- how a byte stands between quotes
data Stands (byte : ℕ) (text : List ℕ) : Type 0 where
  Backslash : byte ≡ 92 → text ≡ 92 ∷ 92 ∷ [] → Stands byte text
  Quote : byte ≡ 39 → text ≡ 92 ∷ 39 ∷ [] → Stands byte text
  Itself : (byte ≡ 92 → ⊥) → (byte ≡ 39 → ⊥) → text ≡ byte ∷ [] → Stands byte text
  Digits : text ≡ 92 ∷ 120 ∷ slice_index lower_digits (byte / 16) ∷ slice_index lower_digits (byte % 16) ∷ [] → Stands byte text

pub other : (a b : ℕ) → (a == b) ≡ false → a ≡ b → ⊥
other a b e same = let is : (b == b) ≡ false = ap (λ (n : ℕ). n == b) (sym same) ∙ e in absurd (search rules)

escaped_is : (byte : ℕ) → escaped byte ≡ 92 ∷ 120 ∷ slice_index lower_digits (byte / 16) ∷ slice_index lower_digits (byte % 16) ∷ []
unfolding escaped hexadecimal encode_with ◌⧺◌
escaped_is byte = refl

stands : (byte : ℕ) → Stands byte (quoted_byte byte)
unfolding quoted_byte
stands byte = go (byte == 92) (byte == 39) (nat_le 32 byte && nat_le byte 126) refl refl
  where
    go : (b c d : Bool) → (byte == 92) ≡ b → (byte == 39) ≡ c → Stands byte (if b then codes "\\\\" else if c then codes "\\'" else if d then byte ∷ [] else escaped byte)
    go true c d e f = Backslash (search rules) refl
    go false true d e f = Quote (search rules) refl
    go false false true e f = Itself (other byte 92 e) (other byte 39 f) refl
    go false false false e f = Digits (escaped_is byte)

digit_apart : (i j : ℕ) → i < 16 → j < 16 → slice_index lower_digits i ≡ slice_index lower_digits j → i ≡ j
digit_apart i j h k e =
    let same : Some i ≡ Some j = sym (IsDigits-lower_digits i h) ∙ ap hex_digit_value e ∙ IsDigits-lower_digits j k in cc

abbrev first : List ℕ → ℕ
first text = slice_index text 0

abbrev second : List ℕ → ℕ
second text = slice_index text 1

-- a byte and what is behind it
abbrev Both : ℕ → ℕ → List ℕ → List ℕ → Type 0
Both a b x y = (a ≡ b) × (x ≡ y)

digits_apart : (a b : ℕ) (x y : List ℕ) → a < 256 → b < 256
    → slice_index lower_digits (a / 16) ∷ slice_index lower_digits (a % 16) ∷ x ≡ slice_index lower_digits (b / 16) ∷ slice_index lower_digits (b % 16) ∷ y → Both a b x y
digits_apart a b x y h k e =
    let high : a / 16 ≡ b / 16 = digit_apart (a / 16) (b / 16) (omega (arith, h)) (omega (arith, k)) (ap first e) in
    let low : a % 16 ≡ b % 16 = digit_apart (a % 16) (b % 16) (omega arith) (omega arith) (ap second e) in
    (omega (arith, high, low), ap (drop 2) e)

-- two texts, each as its byte stands
abbrev Meet : List ℕ → List ℕ → List ℕ → List ℕ → Type 0
Meet u v x y = u ++ x ≡ v ++ y

meet : (s u t v x y : List ℕ) → s ≡ u → t ≡ v → s ++ x ≡ t ++ y → Meet u v x y
meet s u t v x y p q e = ap (λ (l : List ℕ). l ++ x) (sym p) ∙ e ∙ ap (λ (l : List ℕ). l ++ y) q

apart_by : (m n : ℕ) → m ≡ n → (m == n) ≡ false → ⊥
apart_by m n e test = other m n test e

byte_apart : (a b : ℕ) (s t x y : List ℕ) → a < 256 → b < 256 → Stands a s → Stands b t → s ++ x ≡ t ++ y → Both a b x y
byte_apart a b s t x y h k (Backslash p u) (Backslash q v) e = (p ∙ sym q, ap (drop 2) (meet s _ t _ x y u v e))
byte_apart a b s t x y h k (Backslash p u) (Quote q v) e = absurd (apart_by 92 39 (ap second (meet s _ t _ x y u v e)) refl)
byte_apart a b s t x y h k (Backslash p u) (Itself q r v) e = absurd (q (sym (ap first (meet s _ t _ x y u v e))))
byte_apart a b s t x y h k (Backslash p u) (Digits v) e = absurd (apart_by 92 120 (ap second (meet s _ t _ x y u v e)) refl)
byte_apart a b s t x y h k (Quote p u) (Backslash q v) e = absurd (apart_by 39 92 (ap second (meet s _ t _ x y u v e)) refl)
byte_apart a b s t x y h k (Quote p u) (Quote q v) e = (p ∙ sym q, ap (drop 2) (meet s _ t _ x y u v e))
byte_apart a b s t x y h k (Quote p u) (Itself q r v) e = absurd (q (sym (ap first (meet s _ t _ x y u v e))))
byte_apart a b s t x y h k (Quote p u) (Digits v) e = absurd (apart_by 39 120 (ap second (meet s _ t _ x y u v e)) refl)
byte_apart a b s t x y h k (Itself p o u) (Backslash q v) e = absurd (p (ap first (meet s _ t _ x y u v e)))
byte_apart a b s t x y h k (Itself p o u) (Quote q v) e = absurd (p (ap first (meet s _ t _ x y u v e)))
byte_apart a b s t x y h k (Itself p o u) (Itself q r v) e = (ap first (meet s _ t _ x y u v e), ap (drop 1) (meet s _ t _ x y u v e))
byte_apart a b s t x y h k (Itself p o u) (Digits v) e = absurd (p (ap first (meet s _ t _ x y u v e)))
byte_apart a b s t x y h k (Digits u) (Backslash q v) e = absurd (apart_by 120 92 (ap second (meet s _ t _ x y u v e)) refl)
byte_apart a b s t x y h k (Digits u) (Quote q v) e = absurd (apart_by 120 39 (ap second (meet s _ t _ x y u v e)) refl)
byte_apart a b s t x y h k (Digits u) (Itself q r v) e = absurd (q (sym (ap first (meet s _ t _ x y u v e))))
byte_apart a b s t x y h k (Digits u) (Digits v) e = digits_apart a b x y h k (ap (drop 2) (meet s _ t _ x y u v e))

-- no byte stands as the quote that ends a text
no_end : (b : ℕ) (t x y : List ℕ) → Stands b t → 39 ∷ x ≡ t ++ y → ⊥
no_end b t x y (Backslash q v) e = apart_by 39 92 (ap first (e ∙ ap (λ (l : List ℕ). l ++ y) v)) refl
no_end b t x y (Quote q v) e = apart_by 39 92 (ap first (e ∙ ap (λ (l : List ℕ). l ++ y) v)) refl
no_end b t x y (Itself q r v) e = r (sym (ap first (e ∙ ap (λ (l : List ℕ). l ++ y) v)))
no_end b t x y (Digits v) e = apart_by 39 92 (ap first (e ∙ ap (λ (l : List ℕ). l ++ y) v)) refl

-- ---- a text

bytes_step : (b : ℕ) (q x : List ℕ) → quoted_bytes (b ∷ q) ++ x ≡ quoted_byte b ++ (quoted_bytes q ++ x)
unfolding quoted_bytes
bytes_step b q x = append_assoc (quoted_byte b) (flat_map quoted_byte q) x

bytes_end : (x : List ℕ) → quoted_bytes [] ++ x ≡ x
unfolding quoted_bytes
bytes_end x = refl

bytes_apart : (p q x y : List ℕ) → AreBytes p → AreBytes q → quoted_bytes p ++ (39 ∷ x) ≡ quoted_bytes q ++ (39 ∷ y) → (p ≡ q) × (x ≡ y)
bytes_apart [] [] x y h k e = let w : 39 ∷ x ≡ 39 ∷ y = sym (bytes_end (39 ∷ x)) ∙ e ∙ bytes_end (39 ∷ y) in (refl, ap (drop 1) w)
bytes_apart [] (b ∷ q) x y h k e = absurd (no_end b (quoted_byte b) x (quoted_bytes q ++ (39 ∷ y)) (stands b) (sym (bytes_end (39 ∷ x)) ∙ e ∙ bytes_step b q (39 ∷ y)))
bytes_apart (a ∷ p) [] x y h k e = absurd (no_end a (quoted_byte a) y (quoted_bytes p ++ (39 ∷ x)) (stands a) (sym (bytes_end (39 ∷ y)) ∙ sym e ∙ bytes_step a p (39 ∷ x)))
bytes_apart (a ∷ p) (b ∷ q) x y h k e =
    let one = byte_apart a b (quoted_byte a) (quoted_byte b) (quoted_bytes p ++ (39 ∷ x)) (quoted_bytes q ++ (39 ∷ y)) (h 0) (k 0) (stands a) (stands b)
    (sym (bytes_step a p (39 ∷ x)) ∙ e ∙ bytes_step b q (39 ∷ y)) in
    let rest = bytes_apart p q x y (λ i. h (suc i)) (λ i. k (suc i)) one.1 in
    (ap₂ (λ (c : ℕ) (l : List ℕ). c ∷ l) one.0 rest.0, rest.1)

quoted_is : (q x : List ℕ) → quoted q ++ x ≡ 39 ∷ (quoted_bytes q ++ (39 ∷ x))
unfolding quoted ◌⧺◌
quoted_is q x = ap (λ (l : List ℕ). 39 ∷ l) (append_assoc (quoted_bytes q) (39 ∷ []) x)

pub quotes_read_back : QuotesReadBack
quotes_read_back p q x y h k e =
    let w : 39 ∷ (quoted_bytes p ++ (39 ∷ x)) ≡ 39 ∷ (quoted_bytes q ++ (39 ∷ y)) = sym (quoted_is p x) ∙ e ∙ quoted_is q y in
    bytes_apart p q x y h k (ap (drop 1) w)

-- ---- of any numbers

abbrev third : List ℕ → ℕ
third text = slice_index text 2

abbrev fourth : List ℕ → ℕ
fourth text = slice_index text 3

text_apart : (a b : ℕ) (s t x y : List ℕ) → Stands a s → Stands b t → s ++ x ≡ t ++ y → (s ≡ t) × (x ≡ y)
text_apart a b s t x y (Backslash p u) (Backslash q v) e = (u ∙ sym v, ap (drop 2) (meet s _ t _ x y u v e))
text_apart a b s t x y (Backslash p u) (Quote q v) e = absurd (apart_by 92 39 (ap second (meet s _ t _ x y u v e)) refl)
text_apart a b s t x y (Backslash p u) (Itself q r v) e = absurd (q (sym (ap first (meet s _ t _ x y u v e))))
text_apart a b s t x y (Backslash p u) (Digits v) e = absurd (apart_by 92 120 (ap second (meet s _ t _ x y u v e)) refl)
text_apart a b s t x y (Quote p u) (Backslash q v) e = absurd (apart_by 39 92 (ap second (meet s _ t _ x y u v e)) refl)
text_apart a b s t x y (Quote p u) (Quote q v) e = (u ∙ sym v, ap (drop 2) (meet s _ t _ x y u v e))
text_apart a b s t x y (Quote p u) (Itself q r v) e = absurd (q (sym (ap first (meet s _ t _ x y u v e))))
text_apart a b s t x y (Quote p u) (Digits v) e = absurd (apart_by 39 120 (ap second (meet s _ t _ x y u v e)) refl)
text_apart a b s t x y (Itself p o u) (Backslash q v) e = absurd (p (ap first (meet s _ t _ x y u v e)))
text_apart a b s t x y (Itself p o u) (Quote q v) e = absurd (p (ap first (meet s _ t _ x y u v e)))
text_apart a b s t x y (Itself p o u) (Itself q r v) e =
    let w : a ∷ x ≡ b ∷ y = meet s _ t _ x y u v e in
    (u ∙ ap (λ (n : ℕ). n ∷ []) (ap first w) ∙ sym v, ap (drop 1) w)
text_apart a b s t x y (Itself p o u) (Digits v) e = absurd (p (ap first (meet s _ t _ x y u v e)))
text_apart a b s t x y (Digits u) (Backslash q v) e = absurd (apart_by 120 92 (ap second (meet s _ t _ x y u v e)) refl)
text_apart a b s t x y (Digits u) (Quote q v) e = absurd (apart_by 120 39 (ap second (meet s _ t _ x y u v e)) refl)
text_apart a b s t x y (Digits u) (Itself q r v) e = absurd (q (sym (ap first (meet s _ t _ x y u v e))))
text_apart a b s t x y (Digits u) (Digits v) e =
    let w = meet s _ t _ x y u v e in
    (u ∙ ap₂ (λ (c d : ℕ). 92 ∷ 120 ∷ c ∷ d ∷ []) (ap third w) (ap fourth w) ∙ sym v, ap (drop 4) w)

bytes_are : (b : ℕ) (q : List ℕ) → quoted_bytes (b ∷ q) ≡ quoted_byte b ++ quoted_bytes q
unfolding quoted_bytes
bytes_are b q = refl

texts_apart : (p q x y : List ℕ) → quoted_bytes p ++ (39 ∷ x) ≡ quoted_bytes q ++ (39 ∷ y) → (quoted_bytes p ≡ quoted_bytes q) × (x ≡ y)
texts_apart [] [] x y e = let w : 39 ∷ x ≡ 39 ∷ y = sym (bytes_end (39 ∷ x)) ∙ e ∙ bytes_end (39 ∷ y) in (refl, ap (drop 1) w)
texts_apart [] (b ∷ q) x y e = absurd (no_end b (quoted_byte b) x (quoted_bytes q ++ (39 ∷ y)) (stands b) (sym (bytes_end (39 ∷ x)) ∙ e ∙ bytes_step b q (39 ∷ y)))
texts_apart (a ∷ p) [] x y e = absurd (no_end a (quoted_byte a) y (quoted_bytes p ++ (39 ∷ x)) (stands a) (sym (bytes_end (39 ∷ y)) ∙ sym e ∙ bytes_step a p (39 ∷ x)))
texts_apart (a ∷ p) (b ∷ q) x y e =
    let one = text_apart a b (quoted_byte a) (quoted_byte b) (quoted_bytes p ++ (39 ∷ x)) (quoted_bytes q ++ (39 ∷ y)) (stands a) (stands b) (sym (bytes_step a p (39 ∷ x)) ∙ e ∙ bytes_step b q (39 ∷ y)) in
    let rest = texts_apart p q x y one.1 in
    (bytes_are a p ∙ ap₂ (λ (c l : List ℕ). c ++ l) one.0 rest.0 ∙ sym (bytes_are b q), rest.1)

-- what is in quotes ends in one place
pub quotes_apart : (p q x y : List ℕ) → quoted p ++ x ≡ quoted q ++ y → (quoted p ≡ quoted q) × (x ≡ y)
unfolding quoted ◌⧺◌
quotes_apart p q x y e =
    let w : 39 ∷ (quoted_bytes p ++ (39 ∷ x)) ≡ 39 ∷ (quoted_bytes q ++ (39 ∷ y)) = sym (quoted_is p x) ∙ e ∙ quoted_is q y in
    let both = texts_apart p q x y (ap (drop 1) w) in
    (ap (λ (l : List ℕ). (codes "'" ++ l) ++ codes "'") both.0, both.1)
