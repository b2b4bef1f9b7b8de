-- Strings of characters that stand for themselves.
use Rattle.std.proofs.Common.{◌≡◌, ℕ, suc, ◌/◌, ◌%◌, ◌<◌, true, ◌&&◌, List, [], ◌∷◌, ◌++◌, get_or, refl, ap, ap₂, ◌∙◌, arith}
use Rattle.std.specs.Prelude.{not, nat_le, ◌==◌, codes, slice_index}
use Rattle.std.specs.List.{list_all}
use Rattle.std.specs.Str.{chars, IsAscii}
use Rattle.std.proofs.lemmas.Bool.{and_parts, and_from, not-true, leb-true, agree_below_at}
use Rattle.std.proofs.lemmas.Str.{chars-IsAscii}
use Rattle.std.proofs.lemmas.Str.Ascii.{IsAscii-nil, IsAscii-cons}
use Rattle.hex.specs.Hex.{encode_with, lower_digits}
use Rattle.pickle_io.specs.Text.{◌⧺◌, hexadecimal}
use Rattle.pickle_io.specs.Device.{Told, Wrote, each}
use Rattle.pickle_io.proofs.Devices.{each-nil, each-cons}
use Rattle.json_lines.specs.Json.{is_plain, char_text, chars_text, string_text, value_text}
use Rattle.json_lines.specs.Line.{hex}

plain_byte : (b : ℕ) → is_plain b ≡ true → char_text b ≡ b ∷ []
unfolding char_text
plain_byte b h =
    let p = and_parts (nat_le 32 b && nat_le b 126) (not (b == 34) && not (b == 92)) h in
    let q = and_parts (not (b == 34)) (not (b == 92)) p.1 in
    rw (not-true (b == 34) q.0, not-true (b == 92) q.1, p.0) refl

plain_small : (b : ℕ) → is_plain b ≡ true → b < 128
plain_small b h =
    let p = and_parts (nat_le 32 b && nat_le b 126) (not (b == 34) && not (b == 92)) h in
    let r = and_parts (nat_le 32 b) (nat_le b 126) p.0 in
    omega (arith, leb-true b 126 r.1)

pub plain_ascii : (bs : List ℕ) → list_all is_plain bs ≡ true → IsAscii bs
plain_ascii [] h = IsAscii-nil
plain_ascii (b ∷ bs) h =
    let p = and_parts (is_plain b) (list_all is_plain bs) h in
    IsAscii-cons b bs (plain_small b p.0) (plain_ascii bs p.1)

plain_each : (bs : List ℕ) → list_all is_plain bs ≡ true → each char_text bs ≡ bs
plain_each [] h = each-nil char_text
plain_each (b ∷ bs) h =
    let p = and_parts (is_plain b) (list_all is_plain bs) h in
    each-cons char_text b bs ∙ ap₂ (λ (x y : List ℕ). x ++ y) (plain_byte b p.0) (plain_each bs p.1)

pub chars_is_each : (cs : List ℕ) → chars_text cs ≡ each char_text cs
unfolding chars_text
chars_is_each cs = refl

pub plain_chars : (bs : List ℕ) → list_all is_plain bs ≡ true → chars_text (chars bs) ≡ bs
unfolding chars_text
plain_chars bs h = ap (each char_text) (chars-IsAscii bs (plain_ascii bs h)) ∙ plain_each bs h

pub plain_text : (a b : Told) (bs : List ℕ) → list_all is_plain bs ≡ true → Wrote a b bs → Wrote a b (chars_text (chars bs))
plain_text a b bs h w = rw (plain_chars bs h) w

-- a string of them
pub plain_string : (bs : List ℕ) → list_all is_plain bs ≡ true → string_text bs ≡ codes "\"" ⧺ bs ⧺ codes "\""
unfolding string_text
plain_string bs h = ap (λ (x : List ℕ). codes "\"" ⧺ x ⧺ codes "\"") (plain_chars bs h)

-- ---- hexadecimal

digit_plain : (d : ℕ) → d < 16 → is_plain (slice_index lower_digits d) ≡ true
digit_plain d h = agree_below_at (λ (x : ℕ). is_plain (slice_index lower_digits x)) (λ (x : ℕ). true) 16 d refl h

encoded_plain : (bytes : List ℕ) → ((i : ℕ) → get_or bytes i 0 < 256) → list_all is_plain (encode_with lower_digits bytes) ≡ true
unfolding encode_with
encoded_plain [] h = refl
encoded_plain (b ∷ bytes) h =
    let small : b < 256 = h 0 in
    and_from _ _ (digit_plain (b / 16) (omega arith)) (and_from _ _ (digit_plain (b % 16) (omega arith)) (encoded_plain bytes (λ (i : ℕ). h (suc i))))

pub hex_plain : (bytes : List ℕ) → ((i : ℕ) → get_or bytes i 0 < 256) → list_all is_plain (hexadecimal bytes) ≡ true
unfolding hexadecimal
hex_plain bytes h = encoded_plain bytes h

-- hexadecimal as a string
pub hex_text : (bytes : List ℕ) → ((i : ℕ) → get_or bytes i 0 < 256) → value_text (hex bytes) ≡ codes "\"" ⧺ hexadecimal bytes ⧺ codes "\""
unfolding hex
hex_text bytes h = plain_string (hexadecimal bytes) (hex_plain bytes h)
