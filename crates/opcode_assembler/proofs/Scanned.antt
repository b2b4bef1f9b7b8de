-- Texts in quotes are read back.
use Rattle.std.proofs.Common.{◌≡◌, ℕ, suc, ◌+◌, ◌*◌, ◌<◌, ◌==◌, ◌&&◌, Bool, true, false, List, [], ◌∷◌, ◌++◌, Option, Some, Ok, refl, sym, ap, ◌∙◌, append_assoc, arith}
use Rattle.std.specs.Prelude.{nat_le, codes, if◌then◌else◌, slice_index, ◌/◌, ◌%◌}
use Rattle.std.specs.List.{flat_map}
use Rattle.std.proofs.lemmas.Bool.{eqb-true}
use Rattle.hex.specs.Hex.{encode_with, lower_digits, hex_digit_value, IsBytes}
use Rattle.hex.proofs.HexLemmas.{IsDigits-lower_digits}
use Rattle.pickle_io.specs.Text.{◌⧺◌, hexadecimal, escaped, quoted_byte, quoted_bytes, quoted}
use Rattle.opcode_assembler.specs.declared.scan.Mode.{Mode}
use Rattle.opcode_assembler.specs.declared.scan.Mode.TheVariants as mode
use Rattle.opcode_assembler.specs.declared.scan.Step.TheVariants as step
use Rattle.opcode_assembler.specs.Quotes.{by_digit, step_of, in_front, by_step, scanned, unquoted}

-- ---- one byte

by_byte : (m : Mode) (byte : ℕ) (left : List ℕ) → scanned 39 m (byte ∷ left) ≡ by_step (step_of 39 m byte) left (λ n. scanned 39 n left)
unfolding scanned
by_byte m byte left = refl

itself : (byte : ℕ) (rest : List ℕ) → (byte == 39) ≡ false → (byte == 92) ≡ false → scanned 39 mode.Plain (byte ∷ rest) ≡ in_front (byte ∷ []) (scanned 39 mode.Plain rest)
unfolding scanned
itself byte rest h k = rw (h, k) refl

escaped_is : (byte : ℕ) → escaped byte ≡ 92 ∷ 120 ∷ slice_index lower_digits (byte / 16) ∷ slice_index lower_digits (byte % 16) ∷ []
unfolding escaped hexadecimal encode_with ◌⧺◌
escaped_is byte = refl

mark_of : (rest : List ℕ) → scanned 39 mode.Plain (92 ∷ 120 ∷ rest) ≡ scanned 39 mode.High rest
unfolding scanned
mark_of rest = refl

high_of : (a h : ℕ) (rest : List ℕ) → hex_digit_value a ≡ Some h → scanned 39 mode.High (a ∷ rest) ≡ scanned 39 (mode.Low a) rest
high_of a h rest e = by_byte mode.High a rest ∙ ap (λ (o : Option ℕ). by_step (by_digit o (λ high. step.Goes (mode.Low a))) rest (λ n. scanned 39 n rest)) e

low_of : (a b h l : ℕ) (rest : List ℕ) → hex_digit_value a ≡ Some h → hex_digit_value b ≡ Some l
    → scanned 39 (mode.Low a) (b ∷ rest) ≡ in_front ((16 * h + l) ∷ []) (scanned 39 mode.Plain rest)
low_of a b h l rest e f =
    by_byte (mode.Low a) b rest
    ∙ ap (λ (o : Option ℕ). by_step (by_digit o (λ high. by_digit (hex_digit_value b) (λ low. step.Byte (16 * high + low)))) rest (λ n. scanned 39 n rest)) e
    ∙ ap (λ (o : Option ℕ). by_step (by_digit o (λ low. step.Byte (16 * h + low))) rest (λ n. scanned 39 n rest)) f

digits_of : (byte : ℕ) (rest : List ℕ) → byte < 256 → scanned 39 mode.Plain (escaped byte ++ rest) ≡ in_front (byte ∷ []) (scanned 39 mode.Plain rest)
digits_of byte rest h =
    let a = slice_index lower_digits (byte / 16) in
    let b = slice_index lower_digits (byte % 16) in
    let e = IsDigits-lower_digits (byte / 16) (omega (arith, h)) in
    let f = IsDigits-lower_digits (byte % 16) (omega arith) in
    let whole : 16 * (byte / 16) + byte % 16 ≡ byte = omega arith in
    ap (λ (t : List ℕ). scanned 39 mode.Plain (t ++ rest)) (escaped_is byte) ∙ mark_of (a ∷ b ∷ rest) ∙ high_of a (byte / 16) (b ∷ rest) e
    ∙ low_of a b (byte / 16) (byte % 16) rest e f ∙ ap (λ (n : ℕ). in_front (n ∷ []) (scanned 39 mode.Plain rest)) whole

backslash : (rest : List ℕ) → scanned 39 mode.Plain (92 ∷ 92 ∷ rest) ≡ in_front (92 ∷ []) (scanned 39 mode.Plain rest)
unfolding scanned
backslash rest = refl

quote : (rest : List ℕ) → scanned 39 mode.Plain (92 ∷ 39 ∷ rest) ≡ in_front (39 ∷ []) (scanned 39 mode.Plain rest)
unfolding scanned
quote rest = refl

is_other : (a b : ℕ) → (a == b) ≡ true → a ≡ b
is_other a b e = eqb-true a b e

one_byte : (byte : ℕ) (rest : List ℕ) → byte < 256 → scanned 39 mode.Plain (quoted_byte byte ++ rest) ≡ in_front (byte ∷ []) (scanned 39 mode.Plain rest)
unfolding quoted_byte
one_byte byte rest h = go (byte == 92) (byte == 39) (nat_le 32 byte && nat_le byte 126) refl refl
  where
    go : (b c d : Bool) → (byte == 92) ≡ b → (byte == 39) ≡ c
        → scanned 39 mode.Plain ((if b then codes "\\\\" else if c then codes "\\'" else if d then byte ∷ [] else escaped byte) ++ rest) ≡ in_front (byte ∷ []) (scanned 39 mode.Plain rest)
    go true c d e f = backslash rest ∙ ap (λ (n : ℕ). in_front (n ∷ []) (scanned 39 mode.Plain rest)) (sym (is_other byte 92 e))
    go false true d e f = quote rest ∙ ap (λ (n : ℕ). in_front (n ∷ []) (scanned 39 mode.Plain rest)) (sym (is_other byte 39 f))
    go false false true e f = itself byte rest f e
    go false false false e f = digits_of byte rest h

-- ---- a text

bytes_step : (b : ℕ) (q x : List ℕ) → quoted_bytes (b ∷ q) ++ x ≡ quoted_byte b ++ (quoted_bytes q ++ x)
unfolding quoted_bytes
bytes_step b q x = append_assoc (quoted_byte b) (flat_map quoted_byte q) x

bytes_end : (x : List ℕ) → quoted_bytes [] ++ x ≡ x
unfolding quoted_bytes
bytes_end x = refl

ends : (x : List ℕ) → scanned 39 mode.Plain (39 ∷ x) ≡ Ok ([], x)
unfolding scanned
ends x = refl

scanned_is : (q x : List ℕ) → IsBytes q → scanned 39 mode.Plain (quoted_bytes q ++ (39 ∷ x)) ≡ Ok (q, x)
scanned_is [] x h = ap (scanned 39 mode.Plain) (bytes_end (39 ∷ x)) ∙ ends x
scanned_is (b ∷ q) x h =
    ap (scanned 39 mode.Plain) (bytes_step b q (39 ∷ x)) ∙ one_byte b (quoted_bytes q ++ (39 ∷ x)) (h 0)
    ∙ ap (in_front (b ∷ [])) (scanned_is q x (λ i. h (suc i)))

pub quoted_is : (q x : List ℕ) → quoted q ++ x ≡ 39 ∷ (quoted_bytes q ++ (39 ∷ x))
unfolding quoted ◌⧺◌
quoted_is q x = ap (λ (l : List ℕ). 39 ∷ l) (append_assoc (quoted_bytes q) (39 ∷ []) x)

pub unquoted_read : (q x : List ℕ) → IsBytes q → unquoted (quoted q ++ x) ≡ Ok (q, x)
unquoted_read q x h = ap unquoted (quoted_is q x) ∙ scanned_is q x h
