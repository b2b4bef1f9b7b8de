-- Bytes in hexadecimal digits are read back.
use Rattle.std.proofs.Common.{◌≡◌, ℕ, zero, suc, ◌<◌, true, List, [], ◌∷◌, ◌++◌, length, Ok, refl, ap, ◌∙◌, arith}
use Rattle.std.specs.Prelude.{codes, slice_index, ◌/◌, ◌%◌}
use Rattle.std.specs.List.{list_all, prefix_len}
use Rattle.std.specs.Option.{option_map_or}
use Rattle.std.proofs.lemmas.Bool.{and_parts, and_from}
use Rattle.hex.specs.Hex.{encode_with, lower_digits, decode_of, IsBytes}
use Rattle.hex.proofs.HexLemmas.{decode_of-encode_lower, length-encode_with}
use Rattle.pickle_io.specs.Text.{◌⧺◌, hexadecimal}
use Rattle.pickle_ops.specs.Text.{float_text}
use Rattle.opcode_assembler.specs.Words.{is_blank, is_letter, after_word, behind}
use Rattle.opcode_assembler.specs.Numbers.{decoded, hex_first}
use Rattle.opcode_assembler.specs.Arguments.{nearest_first, float_first}
use Rattle.assembler_laws.proofs.Spans.{Spans, word_is, after_is, gap_before}
use Rattle.assembler_laws.proofs.Fronts.{Head, at_head}

one_of : (t : List ℕ) (n : ℕ) → list_all is_letter t ≡ true → is_letter (slice_index t n) ≡ true
one_of [] n h = refl
one_of (x ∷ t) zero h = (and_parts (is_letter x) (list_all is_letter t) h).0
one_of (x ∷ t) (suc n) h = one_of t n (and_parts (is_letter x) (list_all is_letter t) h).1

letters_with : (t bytes : List ℕ) → list_all is_letter t ≡ true → list_all is_letter (encode_with t bytes) ≡ true
unfolding encode_with
letters_with t [] h = refl
letters_with t (b ∷ bytes) h =
    and_from _ _ (one_of t (b / 16) h) (and_from _ _ (one_of t (b % 16) h) (letters_with t bytes h))

pub letters : (bytes : List ℕ) → list_all is_letter (hexadecimal bytes) ≡ true
unfolding hexadecimal
letters bytes = letters_with lower_digits bytes refl

pub some_letters : (bytes : List ℕ) → 0 < length bytes → 0 < length (hexadecimal bytes)
unfolding hexadecimal
some_letters bytes h = omega (arith, h, length-encode_with lower_digits bytes)

decoded_is : (bytes : List ℕ) → IsBytes bytes → decode_of (hexadecimal bytes) ≡ Ok bytes
unfolding hexadecimal
decoded_is bytes h = decode_of-encode_lower bytes h

-- a word of digits, and what comes after it
pub hex_read : (bytes rest : List ℕ) → IsBytes bytes → 0 < length bytes → prefix_len is_letter rest ≡ 0 → hex_first (hexadecimal bytes ++ rest) ≡ Ok (bytes, rest)
hex_read bytes rest h l e =
    let text = hexadecimal bytes ++ rest in
    let gap = gap_before [] (hexadecimal bytes) rest refl (letters bytes) (some_letters bytes l) in
    let span : Spans is_letter (hexadecimal bytes) rest = record { all = letters bytes; stops = e } in
    ap (λ (w : List ℕ). decoded (decode_of w) (after_word text)) (word_is [] (hexadecimal bytes) rest gap span)
    ∙ ap (λ (x : List ℕ). decoded (decode_of (hexadecimal bytes)) x) (after_is [] (hexadecimal bytes) rest gap span)
    ∙ ap (λ r. decoded r rest) (decoded_is bytes h)

float_is : (bytes rest : List ℕ) → float_text bytes ++ rest ≡ 102 ∷ 56 ∷ 58 ∷ (hexadecimal bytes ++ rest)
unfolding float_text ◌⧺◌
float_is bytes rest = refl

pub float_head : (bytes : List ℕ) → Head (float_text bytes)
unfolding float_text ◌⧺◌
float_head bytes = record { first = 102; more = 56 ∷ 58 ∷ hexadecimal bytes; is = refl; letter = refl; other = refl }

pub float_read : (gap bytes rest : List ℕ) → list_all is_blank gap ≡ true → IsBytes bytes → 0 < length bytes → prefix_len is_letter rest ≡ 0
    → float_first (gap ++ (float_text bytes ++ rest)) ≡ Ok (bytes, rest)
float_read gap bytes rest g h l e =
    ap (λ (x : List ℕ). option_map_or hex_first (behind (codes "f8:") x) (nearest_first (gap ++ (float_text bytes ++ rest)))) (at_head gap (float_text bytes) rest g (float_head bytes) ∙ float_is bytes rest)
    ∙ hex_read bytes rest h l e
