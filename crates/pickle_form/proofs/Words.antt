-- Words: such a text is a plain name, however it is read.
use Rattle.std.proofs.Common.{◌≡◌, subst, ◌^◌, ℕ, zero, suc, ◌+◌, ◌-◌, ◌<◌, ◌≤◌, Bool, true, false, ◌&&◌, T, eqb, List, [], ◌∷◌, length, drop, get_or, Option, Some, None, refl, sym, ap, ◌∙◌, inl, inr, arith, eq-zero-or-pos}
use Rattle.std.specs.Prelude.{◌==◌, ◌||◌, not, nat_lt, if◌then◌else◌}
use Rattle.std.specs.List.{fold}
use Rattle.std.specs.List.{list_all}
use Rattle.std.proofs.lemmas.List.{at_drop_more}
use lib.Ieee.Fits.{and_l, and_r}
use Rattle.pickle_ops.specs.Shape.{is_digit, text_of, value_of, is_decimal, value_fault}
use Rattle.pickle_ops.specs.declared.form.Form.{Form}
use Rattle.pickle_ops.specs.declared.form.Form.TheVariants as form
use Rattle.pickle_ops.specs.declared.fault.FrontFault.TheVariants as fault
use Rattle.pickle_names.specs.declared.coding.Coding.{Coding}
use Rattle.pickle_names.specs.declared.coding.Coding.TheVariants as coding
use Rattle.pickle_names.specs.declared.coding.Piece.{Piece}
use Rattle.pickle_names.specs.declared.coding.Piece.TheVariants as piece
use Rattle.pickle_names.specs.Coding.{front_of, utf8_front}
use Rattle.pickle_names.specs.Value.{decode, after_front, front_size}
use Rattle.pickle_form.specs.declared.name.NamePart.{NamePart}
use Rattle.pickle_form.specs.declared.name.NamePart.TheVariants as part
use Rattle.pickle_form.specs.declared.name.TheConstants.{WORD}
use Rattle.pickle_form.specs.declared.role.Role.TheVariants as role
use Rattle.pickle_form.specs.Name.{is_letter, at_begin, at_within, after_byte, may_end, is_text, is_name}
use Rattle.pickle_form.specs.declared.escape.Part.TheVariants as escape
use Rattle.pickle_form.specs.declared.escape.RawText.{RawText}
use Rattle.pickle_form.specs.Escape.{raw_begin, raw_part, raw_after, ends_plain, is_raw_text}
use Rattle.pickle_form.specs.Held.{text_role}
use Rattle.pickle_form.specs.Numeral.{is_natural}
use Rattle.pickle_form.specs.Inside.{is_word_byte, is_word, is_no_slash, has_no_zero_in_front}

-- ---- the table

abbrev same : Bool → Bool → Bool
same true b = b
same false b = not b

abbrev agrees : ℕ → Bool
agrees b = same (eqb (get_or WORD b 0) 49) (is_word_byte b)

abbrev all_agree : ℕ → Bool
all_agree zero = true
all_agree (suc b) = agrees b && all_agree b

agrees_below : (n b : ℕ) → T (all_agree n) → b < n → T (agrees b)
agrees_below zero b t h = absurd (omega arith)
agrees_below (suc n) b t h =
    elim (eq-zero-or-pos (n - b)) [
      | inl z ↦ let e : b ≡ n = omega arith in rw e (and_l _ (all_agree n) t)
      | inr g ↦ agrees_below n b (and_r _ (all_agree n) t) (omega arith)
    ]

one : (x y : Bool) → T (same x y) → x ≡ y
one true true t = refl
one true false t = absurd t
one false true t = absurd t
one false false t = refl

pub in_table : (b : ℕ) → b < 256 → eqb (get_or WORD b 0) 49 ≡ is_word_byte b
in_table b low = one (eqb (get_or WORD b 0) 49) (is_word_byte b) (agrees_below 256 b tt low)

-- ---- words

both : (x y : Bool) → (x && y) ≡ true → (x ≡ true) × (y ≡ true)
both true true h = (refl, refl)
both true false h = absurd cc
both false y h = absurd cc

within_word : (b : ℕ) → is_word_byte b ≡ true → at_within b ≡ part.Within
within_word b h = ap (λ (x : Bool). if x then part.Within else if b == 46 then part.Begin else part.Wrong) (both (nat_lt b 128) (is_letter b || is_digit b) h).1

rest_of_word : (text : List ℕ) → list_all is_word_byte text ≡ true → fold after_byte part.Within text ≡ part.Within
rest_of_word [] h = refl
rest_of_word (b ∷ text) h =
    let two = both (is_word_byte b) (list_all is_word_byte text) h in
    ap (λ (p : NamePart). fold after_byte p text) (within_word b two.0) ∙ rest_of_word text two.1

letter_by : (letter digit : Bool) → (letter || digit) ≡ true → not digit ≡ true → letter ≡ true
letter_by true digit h n = refl
letter_by false true h n = absurd cc
letter_by false false h n = absurd cc

begins_word : (b : ℕ) → is_word_byte b ≡ true → not (is_digit b) ≡ true → at_begin b ≡ part.Within
begins_word b h n =
    ap (λ (x : Bool). if x then part.Within else if b == 60 then part.Angle else part.Wrong)
    (letter_by (is_letter b) (is_digit b) (both (nat_lt b 128) (is_letter b || is_digit b) h).1 n)

-- in UTF-8 a byte of ASCII is a character
front_utf8 : (b : ℕ) (rest : List ℕ) → nat_lt b 128 ≡ true → front_of coding.Utf8 b rest ≡ Some (piece.Spelled 1)
unfolding front_of utf8_front
front_utf8 b rest e = rw e refl

front_any : (b : ℕ) (rest : List ℕ) → nat_lt b 128 ≡ true → front_of coding.AnyUtf8 b rest ≡ Some (piece.Spelled 1)
unfolding front_of utf8_front
front_any b rest e = rw e refl

word_reads : (c : Coding) → ((b : ℕ) (rest : List ℕ) → nat_lt b 128 ≡ true → front_of c b rest ≡ Some (piece.Spelled 1)) → (text : List ℕ) → list_all is_word_byte text ≡ true → is_text c text ≡ true
word_reads c front [] h = refl
word_reads c front (b ∷ text) h =
    let two = both (is_word_byte b) (list_all is_word_byte text) h in
    let low : nat_lt b 128 ≡ true = (both (nat_lt b 128) (is_letter b || is_digit b) two.0).0 in
    ap (λ (p : Option Piece). (after_front p (b ∷ text) (decode c (length text) (drop (front_size p) (b ∷ text)))).good) (front b text low) ∙ word_reads c front text two.1

bytes_of_word : (text : List ℕ) → is_word text ≡ true → list_all is_word_byte text ≡ true
bytes_of_word [] h = absurd cc
bytes_of_word (b ∷ text) h = (both (not (is_digit b)) (list_all is_word_byte (b ∷ text)) h).1

word_ends : (text : List ℕ) → is_word text ≡ true → fold after_byte part.Begin text ≡ part.Within
word_ends [] h = absurd cc
word_ends (b ∷ text) h =
    let two = both (not (is_digit b)) (list_all is_word_byte (b ∷ text)) h in
    let more = both (is_word_byte b) (list_all is_word_byte text) two.1 in
    ap (λ (p : NamePart). fold after_byte p text) (begins_word b more.0 two.0) ∙ rest_of_word text more.1

pub word_is_name : (text : List ℕ) → is_word text ≡ true → is_name text ≡ true
word_is_name text h = ap (λ (p : NamePart). may_end p && is_text coding.Utf8 text) (word_ends text h) ∙ word_reads coding.Utf8 front_utf8 text (bytes_of_word text h)

pub word_role : (text : List ℕ) → is_word text ≡ true → Some role.Name ≡ (if is_text coding.AnyUtf8 text then Some (text_role text) else None)
word_role text h = rw (word_reads coding.AnyUtf8 front_any text (bytes_of_word text h), word_is_name text h) refl

-- ---- lines of UNICODE without escapes

plain_stays : (slash : Bool) → not slash ≡ true → (if slash then raw_part escape.Slash else raw_begin) ≡ raw_begin
plain_stays false h = refl
plain_stays true h = absurd cc

raw_stays : (text : List ℕ) → list_all is_no_slash text ≡ true → fold raw_after raw_begin text ≡ raw_begin
raw_stays [] h = refl
raw_stays (b ∷ text) h =
    let two = both (is_no_slash b) (list_all is_no_slash text) h in
    ap (λ (s : RawText). fold raw_after s text) (plain_stays (b == 92) two.0) ∙ raw_stays text two.1

pub no_slash_is_raw : (text : List ℕ) → list_all is_no_slash text ≡ true → true ≡ is_raw_text text
no_slash_is_raw text h = sym (ap (λ (s : RawText). ends_plain s.part) (raw_stays text h))

-- ---- what is in no name stays in none

wrong_stays : (text : List ℕ) → fold after_byte part.Wrong text ≡ part.Wrong
wrong_stays [] = refl
wrong_stays (b ∷ text) = wrong_stays text

pub wrong_at : (text whole : List ℕ) (i : ℕ) (p : NamePart) → i < length text → after_byte p (get_or text i 0) ≡ part.Wrong → fold after_byte p (drop i text) ≡ fold after_byte part.Begin whole → part.Wrong ≡ fold after_byte part.Begin whole
wrong_at text whole i p h e w =
    sym (wrong_stays (drop (i + 1) text)) ∙ sym (ap (λ (q : NamePart). fold after_byte q (drop (i + 1) text)) e) ∙ sym (at_drop_more (fold after_byte p) text i 0 h) ∙ w

-- ---- digits

-- one byte, or no zero in front: then digits are a number as picklers write it
none_if : (b : Bool) → (if b then None else Some fault.BadArgument) ≡ None → b ≡ true
none_if true e = refl
none_if false e = absurd cc

first_of_two : (a b : Bool) → (a && b) ≡ true → a ≡ true
first_of_two true b e = refl
first_of_two false b e = absurd cc

second_of_two : (a b : Bool) → (a && b) ≡ true → b ≡ true
second_of_two true b e = e
second_of_two false b e = absurd cc

and_true : (b : Bool) → (b && true) ≡ b
and_true true = refl
and_true false = refl

natural_if : (text : List ℕ) → is_decimal text ≡ true → is_natural text ≡ has_no_zero_in_front text
natural_if text d =
    let two = first_of_two (nat_lt 0 (length text) && list_all is_digit text) (nat_lt (value_of text) (2 ^ 64)) d in
    let some = first_of_two (nat_lt 0 (length text)) (list_all is_digit text) two in
    let digits = second_of_two (nat_lt 0 (length text)) (list_all is_digit text) two in
    rw (some, digits) (and_true (has_no_zero_in_front text))

pub natural_decimal : (f : Form) (arg : List ℕ) → f ≡ form.Decimal → value_fault f arg ≡ None → has_no_zero_in_front (text_of arg) ≡ is_natural (text_of arg)
natural_decimal f arg e fine =
    let good : value_fault form.Decimal arg ≡ None = subst (λ (g : Form). value_fault g arg ≡ None) e fine in
    sym (natural_if (text_of arg) (none_if (is_decimal (text_of arg)) good))
