-- What a text of an argument begins with.
use Rattle.std.proofs.Common.{◌≡◌, ℕ, ◌<◌, ◌==◌, true, false, List, [], ◌∷◌, ◌++◌, length, None, refl, sym, ap, subst, ◌∙◌, arith}
use Rattle.std.specs.Prelude.{codes}
use Rattle.std.specs.List.{list_all}
use Rattle.std.specs.Option.{option_map_or}
use Rattle.std.proofs.lemmas.Bool.{and_parts, ne_eqb}
use Rattle.pickle_io.specs.Text.{◌⧺◌, quoted, quoted_bytes}
use Rattle.pickle_ops.specs.declared.opcode.Opcode.{Opcode}
use Rattle.pickle_ops.specs.Shape.{is_digit}
use Rattle.opcode_assembler.specs.Words.{is_blank, is_letter, trimmed, behind}
use Rattle.opcode_assembler.specs.Numbers.{hex_first}
use Rattle.opcode_assembler.specs.Arguments.{spelled_first, argument_first}
use Rattle.assembler_laws.proofs.Spans.{trimmed_is, dark_byte}
use Rattle.assembler_laws.proofs.Decimals.{digit_letter}

-- a byte that is no blank and no h
pub record Head (t : List ℕ) : Type 0 where
  pub first : ℕ
  pub more : List ℕ
  pub is : t ≡ first ∷ more
  pub letter : is_letter first ≡ true
  pub other : (first == 104) ≡ false

-- a text does not begin as another that has another first byte
pub no_front : (c d : ℕ) (front text : List ℕ) → (d == c) ≡ false → behind (c ∷ front) (d ∷ text) ≡ None
no_front c d front text e = rw e refl

-- what comes behind blanks
pub at_head : (gap t rest : List ℕ) → list_all is_blank gap ≡ true → Head t → trimmed (gap ++ (t ++ rest)) ≡ t ++ rest
at_head gap t rest g h =
    let same : t ++ rest ≡ h.first ∷ (h.more ++ rest) = ap (λ (x : List ℕ). x ++ rest) h.is in
    ap (λ (x : List ℕ). trimmed (gap ++ x)) same
    ∙ trimmed_is gap (h.first ∷ (h.more ++ rest)) (record { all = g; stops = dark_byte h.first (h.more ++ rest) h.letter }) ∙ sym same

pub no_hex : (gap t rest : List ℕ) → list_all is_blank gap ≡ true → Head t → behind (codes "hex:") (trimmed (gap ++ (t ++ rest))) ≡ None
no_hex gap t rest g h =
    ap (behind (codes "hex:")) (at_head gap t rest g h ∙ ap (λ (x : List ℕ). x ++ rest) h.is) ∙ no_front 104 h.first (101 ∷ 120 ∷ 58 ∷ []) (h.more ++ rest) h.other

-- so the argument is spelled
pub spelled_there : (o : Opcode) (gap t rest : List ℕ) → list_all is_blank gap ≡ true → Head t → argument_first o (gap ++ (t ++ rest)) ≡ spelled_first o (gap ++ (t ++ rest))
spelled_there o gap t rest g h = ap (λ x. option_map_or hex_first x (spelled_first o (gap ++ (t ++ rest)))) (no_hex gap t rest g h)

-- what is behind a text does not change what it begins with
pub then_head : (a b : List ℕ) → Head a → Head (a ⧺ b)
unfolding ◌⧺◌
then_head a b h = record { first = h.first; more = h.more ++ b; is = ap (λ (x : List ℕ). x ++ b) h.is; letter = h.letter; other = h.other }

-- ---- digits

-- a digit is none of the other bytes
pub digit_other : (c byte : ℕ) → is_digit byte ≡ true → is_digit c ≡ false → (byte == c) ≡ false
digit_other c byte h k = ne_eqb byte c (λ e. let t : is_digit c ≡ true = subst (λ (n : ℕ). is_digit n ≡ true) e h in absurd cc)

pub record DigitFirst (w : List ℕ) : Type 0 where
  pub first : ℕ
  pub more : List ℕ
  pub is : w ≡ first ∷ more
  pub digit : is_digit first ≡ true

pub digit_first : (w : List ℕ) → list_all is_digit w ≡ true → 0 < length w → DigitFirst w
digit_first [] h l = absurd (omega (arith, l))
digit_first (x ∷ w) h l = record { first = x; more = w; is = refl; digit = (and_parts (is_digit x) (list_all is_digit w) h).0 }

pub digits_head : (w : List ℕ) → list_all is_digit w ≡ true → 0 < length w → Head w
digits_head w h l =
    let d = digit_first w h l in
    record { first = d.first; more = d.more; is = d.is; letter = digit_letter d.first d.digit; other = digit_other 104 d.first d.digit refl }

-- a text of digits does not begin with a byte that is none
pub digits_apart : (c : ℕ) (front w rest : List ℕ) → list_all is_digit w ≡ true → 0 < length w → is_digit c ≡ false → behind (c ∷ front) (w ++ rest) ≡ None
digits_apart c front w rest h l k =
    let d = digit_first w h l in
    ap (λ (x : List ℕ). behind (c ∷ front) (x ++ rest)) d.is ∙ no_front c d.first front (d.more ++ rest) (digit_other c d.first d.digit k)

-- ---- quotes

pub quoted_head : (q : List ℕ) → Head (quoted q)
unfolding quoted ◌⧺◌
quoted_head q = record { first = 39; more = quoted_bytes q ++ 39 ∷ []; is = refl; letter = refl; other = refl }
