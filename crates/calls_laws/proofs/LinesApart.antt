-- What is in quotes stays within its line.
use Rattle.std.proofs.Common.{◌≡◌, ℕ, zero, suc, ◌==◌, ◌&&◌, Bool, true, false, List, [], ◌∷◌, ◌++◌, refl, sym, ap, ◌∙◌, rules}
use Rattle.std.specs.Prelude.{not, nat_le, codes, if◌then◌else◌, slice_index, ◌/◌, ◌%◌}
use Rattle.std.specs.List.{flat_map}
use Rattle.hex.specs.Hex.{encode_with, lower_digits}
use Rattle.pickle_io.specs.Text.{◌⧺◌, hexadecimal, escaped, quoted_byte, quoted_bytes, quoted}
use Rattle.calls_laws.specs.LineLaws.{is_within_line, QuotesStay}

pub both_hold : (a b : Bool) → a ≡ true → b ≡ true → (a && b) ≡ true
both_hold true true p q = refl
both_hold true false p q = absurd cc
both_hold false b p q = absurd cc

pub first_of : (a b : Bool) → (a && b) ≡ true → a ≡ true
first_of true b e = refl
first_of false b e = absurd cc

pub rest_of : (a b : Bool) → (a && b) ≡ true → b ≡ true
rest_of true b e = e
rest_of false b e = absurd cc

pub joined : (a b : List ℕ) → is_within_line a ≡ true → is_within_line b ≡ true → is_within_line (a ++ b) ≡ true
joined [] b p q = q
joined (x ∷ a) b p q = both_hold (not (x == 10)) (is_within_line (a ++ b)) (first_of (not (x == 10)) (is_within_line a) p) (joined a b (rest_of (not (x == 10)) (is_within_line a) p) q)

-- a digit is no newline
digit : (t : List ℕ) (n : ℕ) → is_within_line t ≡ true → not (slice_index t n == 10) ≡ true
digit [] n p = refl
digit (x ∷ t) zero p = first_of (not (x == 10)) (is_within_line t) p
digit (x ∷ t) (suc n) p = digit t n (rest_of (not (x == 10)) (is_within_line t) p)

pub digits : (byte : ℕ) → is_within_line (hexadecimal (byte ∷ [])) ≡ true
unfolding hexadecimal encode_with
digits byte =
    both_hold (not (slice_index lower_digits (byte / 16) == 10)) _ (digit lower_digits (byte / 16) refl)
    (both_hold (not (slice_index lower_digits (byte % 16) == 10)) true (digit lower_digits (byte % 16) refl) refl)

pub escape : (byte : ℕ) → is_within_line (escaped byte) ≡ true
unfolding escaped ◌⧺◌
escape byte = joined (codes "\\x") (hexadecimal (byte ∷ [])) refl (digits byte)

visible : (byte : ℕ) (b : Bool) → (nat_le 32 byte && b) ≡ true → not (byte == 10) ≡ true
visible byte b e = go (byte == 10) refl
  where
    go : (x : Bool) → (byte == 10) ≡ x → not x ≡ true
    go false f = refl
    go true f =
        let at : byte ≡ 10 = search rules in
        let no : (nat_le 32 10 && b) ≡ true = ap (λ (n : ℕ). nat_le 32 n && b) (sym at) ∙ e in
        absurd cc

plain : (byte : ℕ) (b c d : Bool) → nat_le 32 byte && nat_le byte 126 ≡ d → is_within_line (if b then codes "\\\\" else if c then codes "\\'" else if d then byte ∷ [] else escaped byte) ≡ true
plain byte true c d e = refl
plain byte false true d e = refl
plain byte false false true e = both_hold (not (byte == 10)) true (visible byte (nat_le byte 126) e) refl
plain byte false false false e = escape byte

byte_stays : (byte : ℕ) → is_within_line (quoted_byte byte) ≡ true
unfolding quoted_byte
byte_stays byte = plain byte (byte == 92) (byte == 39) (nat_le 32 byte && nat_le byte 126) refl

bytes_stay : (q : List ℕ) → is_within_line (quoted_bytes q) ≡ true
unfolding quoted_bytes
bytes_stay [] = refl
bytes_stay (byte ∷ q) = joined (quoted_byte byte) (flat_map quoted_byte q) (byte_stays byte) (bytes_stay q)

pub quotes_stay : QuotesStay
unfolding quoted ◌⧺◌
quotes_stay q = joined (codes "'" ++ quoted_bytes q) (codes "'") (joined (codes "'") (quoted_bytes q) refl (bytes_stay q)) refl
