-- Words of a list stand for no import: each import has a point, and what has no point and no two stars side by side stands for no text with one.
use Rattle.std.proofs.Common.{◌≡◌, ℕ, ◌<◌, Bool, true, false, List, [], ◌∷◌, ◌++◌, take, drop, codes, bytes_eq, refl, sym, ap, subst, ◌∙◌, ◌⊎◌, inl, inr, take-append-drop, eqb-true, leb-true, ne_eqb, arith}
use Rattle.std.proofs.lemmas.Slice.Eq.{bytes_eq-Decides}
use Rattle.std.proofs.lemmas.Bool.{and_parts, and_left, and_right, or_parts, or_from, or_right, or_cases}
use Rattle.std.specs.Prelude.{◌==◌, ◌&&◌, ◌||◌, not, nat_le, if◌then◌else◌}
use Rattle.std.specs.List.{list_all, list_any}
use Rattle.pickle_names.specs.Renamed.{Import}
use Rattle.pickle_allow.specs.Allow.{some_rest, byte_then, is_nothing, is_star, is_point, begins_with_star, under_star, fits}
use Rattle.pickle_allow.specs.Source.{dotted}
use Rattle.pickle_allow.specs.Grammar.{is_digit, has_two_stars, is_code, is_extension, is_word}

same_bytes : (xs ys : List ℕ) → bytes_eq xs ys ≡ true → xs ≡ ys
same_bytes xs ys h = (bytes_eq-Decides xs ys).0 h

-- ---- flat patterns

-- behind a star
star_never : (pattern : List ℕ) → begins_with_star pattern ≡ false → ((text : List ℕ) → list_any is_point text ≡ true → fits pattern text ≡ false)
    → (text : List ℕ) → list_any is_point text ≡ true → some_rest (under_star pattern) (fits pattern) text ≡ false
star_never pattern one never [] h = absurd cc
star_never pattern one never (c ∷ text) h = or_from (fits pattern (c ∷ text)) (under_star pattern c && some_rest (under_star pattern) (fits pattern) text) (never (c ∷ text) h) (go (is_point c) refl (star_never pattern one never text))
  where
    go : (t : Bool) → is_point c ≡ t → (list_any is_point text ≡ true → some_rest (under_star pattern) (fits pattern) text ≡ false) → (under_star pattern c && some_rest (under_star pattern) (fits pattern) text) ≡ false
    go true e more = and_left (under_star pattern c) (some_rest (under_star pattern) (fits pattern) text) (or_from (begins_with_star pattern) (not (is_point c)) one (ap not e))
    go false e more = and_right (under_star pattern c) (some_rest (under_star pattern) (fits pattern) text) (more (sym (ap (λ (b : Bool). b || list_any is_point text) e) ∙ h))

-- behind another byte that is no point
byte_never : (p : ℕ) (pattern : List ℕ) → is_point p ≡ false → ((text : List ℕ) → list_any is_point text ≡ true → fits pattern text ≡ false)
    → (text : List ℕ) → list_any is_point text ≡ true → byte_then p (fits pattern) text ≡ false
byte_never p pattern other never [] h = absurd cc
byte_never p pattern other never (c ∷ text) h = go (is_point c) refl
  where
    go : (t : Bool) → is_point c ≡ t → (p == c && fits pattern text) ≡ false
    go true e = and_left (p == c) (fits pattern text) (ap (λ (n : ℕ). p == n) (eqb-true c 46 e) ∙ other)
    go false e = and_right (p == c) (fits pattern text) (never text (sym (ap (λ (b : Bool). b || list_any is_point text) e) ∙ h))

flat_never : (pattern : List ℕ) → list_any is_point pattern ≡ false → has_two_stars pattern ≡ false → (text : List ℕ) → list_any is_point text ≡ true → fits pattern text ≡ false
flat_never [] none one [] h = absurd cc
flat_never [] none one (c ∷ text) h = refl
flat_never (p ∷ pattern) none one text h =
    let a = or_parts (is_point p) (list_any is_point pattern) none in
    let b = or_parts (is_star p && begins_with_star pattern) (has_two_stars pattern) one in
    go (is_star p) b.0 a.0 (flat_never pattern a.1 b.1)
  where
    go : (t : Bool) → (t && begins_with_star pattern) ≡ false → is_point p ≡ false → ((rest : List ℕ) → list_any is_point rest ≡ true → fits pattern rest ≡ false)
        → (if t then some_rest (under_star pattern) (fits pattern) text else byte_then p (fits pattern) text) ≡ false
    go true s n never = star_never pattern s never text h
    go false s n never = byte_never p pattern n never text h

-- ---- words are flat

record IsFlat (pattern : List ℕ) : Type 0 where
  no_point : list_any is_point pattern ≡ false
  one_star : has_two_stars pattern ≡ false

digit_other : (c d : ℕ) → nat_le 48 c ≡ true → d < 48 → (c == d) ≡ false
digit_other c d h l = let at = leb-true 48 c h in ne_eqb c d (λ e. omega arith)

digits_flat : (code : List ℕ) → list_all is_digit code ≡ true → IsFlat code
digits_flat [] h = record { no_point = refl; one_star = refl }
digits_flat (c ∷ code) h =
    let a = and_parts (is_digit c) (list_all is_digit code) h in
    let b = and_parts (nat_le 48 c) (nat_le c 57) a.0 in
    let f = digits_flat code a.1 in
    record {
      no_point = or_from (is_point c) (list_any is_point code) (digit_other c 46 b.0 (omega arith)) f.no_point;
      one_star = or_from (is_star c && begins_with_star code) (has_two_stars code) (and_left (is_star c) (begins_with_star code) (digit_other c 42 b.0 (omega arith))) f.one_star;
    }

code_flat : (code : List ℕ) → is_code code ≡ true → IsFlat code
code_flat code h = go (or_cases (bytes_eq code (codes "*")) (list_all is_digit code && not (is_nothing code)) h)
  where
    go : ((bytes_eq code (codes "*") ≡ true) ⊎ ((list_all is_digit code && not (is_nothing code)) ≡ true)) → IsFlat code
    go (inl e) = subst IsFlat (sym (same_bytes code (codes "*") e)) (record { no_point = refl; one_star = refl })
    go (inr e) = digits_flat code (and_parts (list_all is_digit code) (not (is_nothing code)) e).0

extension_flat : (bytes : List ℕ) → is_extension bytes ≡ true → IsFlat bytes
extension_flat bytes h =
    let a = and_parts (bytes_eq (take 4 bytes) (codes "ext ")) (is_code (drop 4 bytes)) h in
    let f = code_flat (drop 4 bytes) a.1 in
    let flat : IsFlat (codes "ext " ++ drop 4 bytes) = record { no_point = f.no_point; one_star = f.one_star } in
    subst IsFlat (ap (λ (front : List ℕ). front ++ drop 4 bytes) (sym (same_bytes (take 4 bytes) (codes "ext ") a.0)) ∙ take-append-drop 4 bytes) flat

word_flat : (bytes : List ℕ) → is_word bytes ≡ true → IsFlat bytes
word_flat bytes h = go (or_cases (bytes_eq bytes (codes "persistent") || bytes_eq bytes (codes "buffer")) (is_extension bytes) h)
  where
    last : ((bytes_eq bytes (codes "persistent") ≡ true) ⊎ (bytes_eq bytes (codes "buffer") ≡ true)) → IsFlat bytes
    last (inl e) = subst IsFlat (sym (same_bytes bytes (codes "persistent") e)) (record { no_point = refl; one_star = refl })
    last (inr e) = subst IsFlat (sym (same_bytes bytes (codes "buffer") e)) (record { no_point = refl; one_star = refl })

    go : (((bytes_eq bytes (codes "persistent") || bytes_eq bytes (codes "buffer")) ≡ true) ⊎ (is_extension bytes ≡ true)) → IsFlat bytes
    go (inl e) = last (or_cases (bytes_eq bytes (codes "persistent")) (bytes_eq bytes (codes "buffer")) e)
    go (inr e) = extension_flat bytes e

-- ---- imports have a point

dotted_pointed : (from name : List ℕ) → list_any is_point (from ++ 46 ∷ name) ≡ true
dotted_pointed [] name = refl
dotted_pointed (c ∷ from) name = or_right (is_point c) (list_any is_point (from ++ 46 ∷ name)) (dotted_pointed from name)

pub no_word : (word : List ℕ) → is_word word ≡ true → (i : Import) → fits word (dotted i) ≡ false
no_word word h i = let f = word_flat word h in flat_never word f.no_point f.one_star (dotted i) (dotted_pointed i.from i.name)
