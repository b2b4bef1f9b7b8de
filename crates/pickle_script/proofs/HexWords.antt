-- Words of hexadecimal digits.
use Rattle.std.proofs.Common.{◌≡◌, ℕ, ◌%◌, ◌==◌, true, false, List, [], length, None, Result, Ok, Err, refl, sym, ap, ◌∙◌}
use Rattle.std.specs.List.{list_all}
use Rattle.std.proofs.lemmas.Bool.{and_parts, and_from, eqb-true}
use Rattle.std.proofs.lemmas.List.Sums.{AllPass-from_list_all, list_all-from_AllPass}
use Rattle.hex.specs.Hex.{decode_of, decode_pairs, is_hex_digit}
use Rattle.hex.specs.declared.error.FromHexError.{FromHexError}
use Rattle.hex.proofs.HexLemmas.{decode_of-ok, decode_of-digits}
use Rattle.pickle_script.specs.Inside.Words.{is_hex}
use Rattle.pickle_script.specs.Grammar.{found_bytes, bytes_of_word}

-- digits have bytes
pub hex-bytes : (w : List ℕ) → true ≡ is_hex w → (bytes : List ℕ) × (decode_of w ≡ Ok bytes)
hex-bytes w h =
    let both = and_parts (length w % 2 == 0) (list_all is_hex_digit w) (sym h) in
    decode_of-digits w (eqb-true (length w % 2) 0 both.0) (AllPass-from_list_all is_hex_digit w both.1)

-- what has bytes is digits
pub bytes-hex : (w bytes : List ℕ) → decode_of w ≡ Ok bytes → is_hex w ≡ true
bytes-hex w bytes e =
    let ok = decode_of-ok w bytes e in
    and_from (length w % 2 == 0) (list_all is_hex_digit w) (ap (λ (n : ℕ). n == 0) ok.0) (list_all-from_AllPass is_hex_digit w ok.1)

-- other words have none
pub no_hex : (w : List ℕ) → false ≡ is_hex w → bytes_of_word w ≡ None
no_hex w h = go (decode_of w) refl
  where
    go : (r : Result (List ℕ) FromHexError) → decode_of w ≡ r → found_bytes r ≡ None
    go (Ok bytes) e = let t = bytes-hex w bytes e in let x : false ≡ true = h ∙ t in absurd cc
    go (Err e) h = refl

pub none-decodes : decode_of [] ≡ Ok []
unfolding decode_pairs
none-decodes = refl
