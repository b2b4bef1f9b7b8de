-- What stands for itself between quotes.
use Rattle.std.proofs.Common.{◌≡◌, ℕ, ◌<◌, ◌≤◌, Bool, true, false, ◌&&◌, List, [], ◌∷◌, ◌++◌, Result, refl, ap, ap₂, ◌∙◌, arith}
use Rattle.std.specs.Prelude.{not, nat_le, ◌==◌}
use Rattle.std.specs.List.{list_all}
use Rattle.std.specs.Str.{chars, IsAscii}
use Rattle.std.proofs.lemmas.Bool.{and_parts, not-true, leb-true, lt-leb, ne_eqb}
use Rattle.std.proofs.lemmas.Str.{chars-IsAscii}
use Rattle.std.proofs.lemmas.Str.Ascii.{IsAscii-nil, IsAscii-cons}
use lib.Utf8.{low_scalar}
use Rattle.pickle_io.specs.Device.{Told, Writes, each}
use Rattle.pickle_io.proofs.Devices.{each-nil, each-cons}
use Rattle.python_literals.specs.Signs.{is_plain, is_shown, ascii_text, char_text, sign_text}

-- what a plain byte is
record Plain (q b : ℕ) : Type 0 where
  low : 32 ≤ b
  high : b ≤ 126
  prints : (nat_le 32 b && nat_le b 126) ≡ true
  other : (b == q) ≡ false
  sign : (b == 92) ≡ false

plain_is : (q b : ℕ) → is_plain q b ≡ true → Plain q b
plain_is q b h =
    let p = and_parts (nat_le 32 b && nat_le b 126) (not (b == q) && not (b == 92)) h in
    let r = and_parts (nat_le 32 b) (nat_le b 126) p.0 in
    let n = and_parts (not (b == q)) (not (b == 92)) p.1 in
    record { low = leb-true 32 b r.0; high = leb-true b 126 r.1; prints = p.0; other = not-true (b == q) n.0; sign = not-true (b == 92) n.1 }

pub ascii_plain : (q b : ℕ) → is_plain q b ≡ true → ascii_text q b ≡ b ∷ []
unfolding ascii_text
ascii_plain q b h =
    let p = plain_is q b h in
    rw (p.other, p.sign, ne_eqb b 9 (λ e. omega (arith, e, p.low)), ne_eqb b 10 (λ e. omega (arith, e, p.low)), ne_eqb b 13 (λ e. omega (arith, e, p.low)), p.prints) refl

not_shown : (b : ℕ) → b ≤ 126 → is_shown b ≡ false
unfolding is_shown
not_shown b h = rw (lt-leb 128 b (omega (arith, h))) refl

pub sign_plain : (q b : ℕ) → is_plain q b ≡ true → sign_text q b ≡ b ∷ []
unfolding sign_text char_text
sign_plain q b h =
    let p = plain_is q b h in
    rw (low_scalar b (omega (arith, p.high)), not_shown b p.high) (ascii_plain q b h)

plain_list : (f : ℕ → List ℕ) (q : ℕ) → ((b : ℕ) → is_plain q b ≡ true → f b ≡ b ∷ []) → (bs : List ℕ) → list_all (is_plain q) bs ≡ true → each f bs ≡ bs
plain_list f q one [] h = each-nil f
plain_list f q one (b ∷ bs) h =
    let p = and_parts (is_plain q b) (list_all (is_plain q) bs) h in
    each-cons f b bs ∙ ap₂ (λ (x y : List ℕ). x ++ y) (one b p.0) (plain_list f q one bs p.1)

plain_ascii : (q : ℕ) (bs : List ℕ) → list_all (is_plain q) bs ≡ true → IsAscii bs
plain_ascii q [] h = IsAscii-nil
plain_ascii q (b ∷ bs) h =
    let p = and_parts (is_plain q b) (list_all (is_plain q) bs) h in
    IsAscii-cons b bs (omega (arith, (plain_is q b p.0).high)) (plain_ascii q bs p.1)

plain_chars : (q : ℕ) (bs : List ℕ) → list_all (is_plain q) bs ≡ true → each (sign_text q) (chars bs) ≡ bs
plain_chars q bs h = ap (each (sign_text q)) (chars-IsAscii bs (plain_ascii q bs h)) ∙ plain_list (sign_text q) q (sign_plain q) bs h

pub plain_text : {A E : Type 0} (a b : Told) (r : Result A E) (q : ℕ) (text : List ℕ) → list_all (is_plain q) text ≡ true → Writes a b r text
    → Writes a b r (each (sign_text q) (chars text))
plain_text a b r q text h w = rw (plain_chars q text h) w

pub plain_bytes : {A E : Type 0} (a b : Told) (r : Result A E) (q : ℕ) (bytes : List ℕ) → list_all (is_plain q) bytes ≡ true → Writes a b r bytes
    → Writes a b r (each (ascii_text q) bytes)
plain_bytes a b r q bytes h w = rw (plain_list (ascii_text q) q (ascii_plain q) bytes h) w
