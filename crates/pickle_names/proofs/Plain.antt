-- Bytes that stand for themselves.
use Rattle.std.proofs.Common.{◌≡◌, ℕ, zero, suc, ◌-◌, Bool, true, false, List, [], ◌∷◌, length, drop, Option, Some, None, refl, sym, ap, subst, ◌∙◌, arith}
use Rattle.std.proofs.lemmas.List.{length-drop, take-append-drop, take_all, take_min}
use Rattle.std.specs.Prelude.{◌==◌, take, ◌&&◌, not, nat_lt, nat_le, if◌then◌else◌}
use Rattle.std.specs.List.{list_all}
use Rattle.pickle_names.specs.declared.coding.Coding.{Coding}
use Rattle.pickle_names.specs.declared.coding.Coding.TheVariants as coding
use Rattle.pickle_names.specs.declared.coding.Piece.{Piece}
use Rattle.pickle_names.specs.declared.coding.Piece.TheVariants as piece
use Rattle.pickle_names.specs.Coding.{is_plain, utf8_front, front_of}
use Rattle.pickle_names.specs.Value.{Decoded, after, after_front, front_size, decode, if_short, short_value}
use Rattle.pickle_names.specs.Reading.{Says, IsReading}

plain_by : (c : Coding) (b : ℕ) (rest : List ℕ) (low escapes : Bool) → nat_lt b 128 ≡ low → (b == 92) ≡ escapes → (low && not escapes) ≡ true
    → Some (piece.Spelled 1) ≡ front_of c b rest
unfolding front_of utf8_front
plain_by c b rest false escapes e f h = absurd cc
plain_by c b rest true true e f h = absurd cc
plain_by coding.Ascii b rest true false e f h = rw e refl
plain_by coding.Utf8 b rest true false e f h = rw e refl
plain_by coding.AnyUtf8 b rest true false e f h = rw e refl
plain_by coding.RawEscape b rest true false e f h = rw (f, e) refl
plain_by coding.StringEscape b rest true false e f h = rw (f, e) refl

-- however a text is read
pub plain_front : (c : Coding) (b : ℕ) (rest : List ℕ) → is_plain b ≡ true → Some (piece.Spelled 1) ≡ front_of c b rest
plain_front c b rest h = plain_by c b rest (nat_lt b 128) (b == 92) refl refl h

both : (x y : Bool) → (x && y) ≡ true → (x ≡ true) × (y ≡ true)
both true true h = (refl, refl)
both true false h = absurd cc
both false y h = absurd cc

-- such bytes at the front are characters, and what they are
plain_first : (c : Coding) (n : ℕ) (bytes : List ℕ) → list_all is_plain (take n bytes) ≡ true → decode c n bytes ≡ record { value = take n bytes; rest = drop n bytes; good = true }
plain_first c zero bytes h = refl
plain_first c (suc n) [] h = refl
plain_first c (suc n) (b ∷ rest) h =
    let parts = both (is_plain b) (list_all is_plain (take n rest)) h in
    ap (λ (p : Option Piece). after_front p (b ∷ rest) (decode c n (drop (front_size p) (b ∷ rest)))) (sym (plain_front c b rest parts.0))
    ∙ ap (after (b ∷ [])) (plain_first c n rest parts.1)

pub plain_reading : (c : Coding) (most : ℕ) (bytes : List ℕ) → list_all is_plain (take most bytes) ≡ true
    → IsReading c most bytes (record { left = length bytes - most; good = true; plain = true })
plain_reading c most bytes h =
    subst (λ (d : Decoded). Says bytes d (record { left = length bytes - most; good = true; plain = true })) (sym (plain_first c most bytes h))
    (record { left = sym (length-drop most bytes); good = refl; plain = λ _. sym (take-append-drop most bytes) })

pub ruleset front_steps = (take_min)

pub plain_short : (c : Coding) (bytes : List ℕ) → (nat_le (length bytes) 32 && list_all is_plain bytes) ≡ true → short_value c bytes ≡ Some bytes
unfolding short_value
plain_short c bytes h =
    let parts = both (nat_le (length bytes) 32) (list_all is_plain bytes) h in
    ap if_short (plain_first c (length bytes) bytes (ap (list_all is_plain) (take_all (length bytes) bytes (omega arith)) ∙ parts.1))
    ∙ ap (λ (v : List ℕ). if_short (record { value = v; rest = drop (length bytes) bytes; good = true })) (take_all (length bytes) bytes (omega arith)) ∙ ap (λ (b : Bool). if b then Some bytes else None) parts.0
