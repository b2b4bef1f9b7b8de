-- What the writers of fields write can be read back.
use Rattle.std.proofs.Common.{◌≡◌, ℕ, ℤ, pos, negsuc, zero, suc, ◌/◌, ◌%◌, ◌==◌, ◌^◌, ◌<◌, ◌≤◌, Bool, true, false, List, [], ◌∷◌, decimal, refl, arith}
use Rattle.std.specs.Prelude.{codes, nat_lt, if◌then◌else◌, unsigned_abs}
use Rattle.std.specs.Fmt.{signed_decimal, digits, digits_onto, digit_glyph}
use Rattle.std.specs.List.{list_all}
use Rattle.std.specs.Str.{IsUtf8, is_utf8}
use Rattle.std.proofs.lemmas.Bool.{ltb-true, and_from, agree_below_at}
use Rattle.std.proofs.lemmas.Str.{IsUtf8-from_ascii, IsUtf8-from_is_utf8}
use lib.Signed.{mag}
use Rattle.hex.specs.Hex.{lower_digits}
use Rattle.hex.proofs.HexLemmas.{IsAscii-encode_with}
use Rattle.json.specs.Json.{Json, number, string, max_depth}
use Rattle.json.specs.Tree.{depth, members_depth}
use Rattle.json.proofs.Printed.Decimals.{IsNumber-decimal, IsNumber-signed_decimal}
use Rattle.pickle_io.specs.Text.{◌⧺◌, hexadecimal}
use Rattle.pickle_io.specs.Device.{Told, Wrote}
use Rattle.pickle_io.proofs.Devices.{Wrote-then}
use Rattle.json_lines.specs.Json.{is_plain, value_text}
use Rattle.json_lines.specs.Line.{Field, field, ◌⊕◌, members_of, whole, integer, hex, bytes_field, line_object}
use Rattle.json_lines.specs.Readable.{HasTexts, MembersHaveTexts, ArePlain, PlainLinesReadBack, FieldsArePlain}
use Rattle.json_lines.proofs.Strings.{plain_ascii, plain_string}
use Rattle.json_lines.proofs.Trees.{lines_read_back}

-- ---- digits

glyph : (d : ℕ) → d < 10 → is_plain (digit_glyph false d) ≡ true
glyph d h = agree_below_at (λ (x : ℕ). is_plain (digit_glyph false x)) (λ (x : ℕ). true) 10 d refl h

either : {A : Type 0} (P : A → Type 0) (x : Bool) (a b : A) → P a → P b → P (if x then a else b)
either P true a b p q = p
either P false a b p q = q

onto : (k n : ℕ) (acc : List ℕ) → list_all is_plain acc ≡ true → list_all is_plain (digits_onto k 10 false n acc) ≡ true
onto zero n acc p = p
onto (suc k) n acc p =
    let more : list_all is_plain (digit_glyph false (n % 10) ∷ acc) ≡ true = and_from _ _ (glyph (n % 10) (omega arith)) p in
    either (λ (t : List ℕ). list_all is_plain t ≡ true) (n / 10 == 0) (digit_glyph false (n % 10) ∷ acc) (digits_onto k 10 false (n / 10) (digit_glyph false (n % 10) ∷ acc))
    more (onto k (n / 10) (digit_glyph false (n % 10) ∷ acc) more)

pub decimal_plain : (n : ℕ) → list_all is_plain (decimal n) ≡ true
unfolding digits
decimal_plain n = onto 64 n [] refl

signed_plain : (z : ℤ) → list_all is_plain (signed_decimal z) ≡ true
signed_plain (pos n) = decimal_plain n
signed_plain (negsuc n) = and_from _ _ refl (decimal_plain (suc n))

-- a number as a text of its digits
pub Wrote-digits : (a b : Told) (n : ℕ) → Wrote a b (codes "\"" ⧺ decimal n ⧺ codes "\"") → Wrote a b (value_text (string (decimal n)))
Wrote-digits a b n w = rw (plain_string (decimal n) (decimal_plain n)) w

pub ruleset digits_steps = (Wrote-digits, Wrote-then)

plain_utf8 : (s : List ℕ) → list_all is_plain s ≡ true → IsUtf8 s
plain_utf8 s h = IsUtf8-from_ascii s (plain_ascii s h)

-- ---- values

-- a value that is no array and no object
record Flat (v : Json) : Type 0 where
  texts : HasTexts v
  flat : depth v ≡ 0

whole_by : (b : Bool) (n : ℕ) → nat_lt n 9007199254740992 ≡ b → Flat (if b then number (decimal n) else string (decimal n))
whole_by true n e = record { texts = IsNumber-decimal n (omega (arith, ltb-true n 9007199254740992 e)); flat = refl }
whole_by false n e = record { texts = plain_utf8 (decimal n) (decimal_plain n); flat = refl }

whole_flat : (n : ℕ) → Flat (whole n)
unfolding whole
whole_flat n = whole_by (nat_lt n 9007199254740992) n refl

small : (z : ℤ) → unsigned_abs z < 9007199254740992 → mag z < 2 ^ 63
small (pos n) h = omega (arith, h)
small (negsuc n) h = omega (arith, h)

integer_by : (b : Bool) (z : ℤ) → nat_lt (unsigned_abs z) 9007199254740992 ≡ b → Flat (if b then number (signed_decimal z) else string (signed_decimal z))
integer_by true z e = record { texts = IsNumber-signed_decimal z (small z (ltb-true (unsigned_abs z) 9007199254740992 e)); flat = refl }
integer_by false z e = record { texts = plain_utf8 (signed_decimal z) (signed_plain z); flat = refl }

integer_flat : (z : ℤ) → Flat (integer z)
unfolding integer
integer_flat z = integer_by (nat_lt (unsigned_abs z) 9007199254740992) z refl

hex_flat : (bytes : List ℕ) → Flat (hex bytes)
unfolding hex hexadecimal
hex_flat bytes = record { texts = IsUtf8-from_ascii (hexadecimal bytes) (IsAscii-encode_with lower_digits bytes (plain_ascii lower_digits refl)); flat = refl }

-- ---- fields

alone : (name : List ℕ) (v : Json) → IsUtf8 name → Flat v → ArePlain (field name v)
unfolding field
alone name v h f = (record { name = h; value = f.texts; flat = f.flat }, tt)

bytes_by : (b : Bool) (name hex_name bytes : List ℕ) → is_utf8 bytes ≡ b → IsUtf8 name → IsUtf8 hex_name → ArePlain (if b then field name (string bytes) else field hex_name (hex bytes))
bytes_by true name hex_name bytes e h k = alone name (string bytes) h (record { texts = IsUtf8-from_is_utf8 bytes e; flat = refl })
bytes_by false name hex_name bytes e h k = alone hex_name (hex bytes) k (hex_flat bytes)

bytes_plain : (name hex_name bytes : List ℕ) → IsUtf8 name → IsUtf8 hex_name → ArePlain (bytes_field name hex_name bytes)
unfolding bytes_field
bytes_plain name hex_name bytes h k = bytes_by (is_utf8 bytes) name hex_name bytes refl h k

joined : (xs ys : List Field) → ArePlain xs → ArePlain ys → ArePlain (xs ⊕ ys)
unfolding ◌⊕◌
joined [] ys p q = q
joined (x ∷ xs) ys p q = (p.0, joined xs ys p.1 q)

pub fields_are_plain : FieldsArePlain
fields_are_plain = record {
  wholes = λ name n h. alone name (whole n) h (whole_flat n);
  integers = λ name z h. alone name (integer z) h (integer_flat z);
  texts = λ name text h k. alone name (string text) h (record { texts = k; flat = refl });
  hexadecimal = λ name bytes h. alone name (hex bytes) h (hex_flat bytes);
  bytes = bytes_plain;
  joined = joined;
}

-- ---- lines

pub plain_texts : (fs : List Field) → ArePlain fs → MembersHaveTexts (members_of fs)
plain_texts [] p = tt
plain_texts (f ∷ fs) p = (p.0.name, (p.0.value, plain_texts fs p.1))

pub plain_depth : (fs : List Field) → ArePlain fs → members_depth (members_of fs) ≡ 0
plain_depth [] p = refl
plain_depth (f ∷ fs) p = omega (arith, p.0.flat, plain_depth fs p.1)

shallow : (kind : List ℕ) (fs : List Field) → ArePlain fs → depth (line_object kind fs) ≤ max_depth
unfolding field ◌⊕◌
shallow kind fs p = omega (arith, plain_depth fs p)

pub plain_lines_read_back : PlainLinesReadBack
plain_lines_read_back kind fs h p = lines_read_back kind fs h (plain_texts fs p) (shallow kind fs p)
