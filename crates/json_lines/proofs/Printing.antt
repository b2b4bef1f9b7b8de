-- A line is characters of ASCII that print, and a newline behind them.
use Rattle.std.proofs.Common.{◌≡◌, inl, inr, ℕ, suc, ◌+◌, Bool, true, false, cond, ◌||◌, ◌==◌, List, [], ◌∷◌, ◌++◌, drop, Option, Some, None, option_and_then, refl, sym, ap, subst, ◌∙◌, arith}
use Rattle.std.specs.Prelude.{codes, nat_le, ⊤}
use Rattle.std.specs.List.{list_all, prefix_len}
use Rattle.std.specs.Char.{is_ascii_digit}
use Rattle.std.specs.Str.{chars, IsUtf8}
use Rattle.std.proofs.lemmas.Bool.{and_parts, and_from, or_cases, leb-true, le-leb, eqb-true}
use Rattle.std.proofs.lemmas.Str.{scalars-chars, IsUtf8-from_ascii}
use Rattle.json.specs.Json.{Json, null, boolean, number, string, array, object, Items, no_items, item, Members, no_members, member}
use Rattle.json.specs.Word.{head, after_digits, after_minus, after_sign, after_whole, after_fraction, after_exponent, after_number}
use Rattle.json.specs.Print.{IsNumber}
use Rattle.pickle_io.specs.Text.{◌⧺◌}
use Rattle.json_lines.specs.Json.{string_text, chars_text, value_text, items_text, more_items, members_text, more_members}
use Rattle.json_lines.specs.Line.{field, ◌⊕◌, line_object, line}
use Rattle.json_lines.specs.Readable.{is_printed, HasTexts, ItemsHaveTexts, MembersHaveTexts, LinesEndOnce}
use Rattle.json_lines.proofs.Strings.{plain_ascii, chars_is_each}
use Rattle.json_lines.proofs.Units.{Prints, both_print, prints-chars}

-- ---- numbers, by what each part of their grammar leaves of a text: where that prints, the text does

abbrev Leaves : List ℕ → Option (List ℕ) → Type 0
Leaves t None = ⊤
Leaves t (Some r) = Prints r → Prints t

-- a part behind another
more : (t u : List ℕ) (o : Option (List ℕ)) → (Prints u → Prints t) → Leaves u o → Leaves t o
more t u None f l = tt
more t u (Some r) f l = λ h. f (l h)

follows : (t : List ℕ) (o : Option (List ℕ)) (part : List ℕ → Option (List ℕ)) → Leaves t o → ((r : List ℕ) → Leaves r (part r)) → Leaves t (option_and_then part o)
follows t None part l g = tt
follows t (Some r) part l g = more t r (part r) l (g r)

-- one byte
one : (c : ℕ) (t : List ℕ) → is_printed c ≡ true → (head t == c) ≡ true → Prints (drop 1 t) → Prints t
one c [] p e h = refl
one c (x ∷ xs) p e h = and_from _ _ (subst (λ (y : ℕ). is_printed y ≡ true) (sym (eqb-true x c e)) p) h

either : (a b : ℕ) (t : List ℕ) → is_printed a ≡ true → is_printed b ≡ true → ((head t == a) || (head t == b)) ≡ true → Prints (drop 1 t) → Prints t
either a b t p q e h = elim (or_cases (head t == a) (head t == b) e) [
  | inl x ↦ one a t p x h
  | inr y ↦ one b t q y h
]

-- a byte that may be there
optional : (b : Bool) (t : List ℕ) → (b ≡ true → Prints (drop 1 t) → Prints t) → Prints (cond b (drop 1 t) t) → Prints t
optional true t f h = f refl h
optional false t f h = h

digit_prints : (x : ℕ) → is_ascii_digit x ≡ true → is_printed x ≡ true
digit_prints x h =
    let p = and_parts (nat_le 48 x) (nat_le x 57) h in
    and_from _ _ (le-leb 32 x (omega (arith, leb-true 48 x p.0))) (le-leb x 126 (omega (arith, leb-true x 57 p.1)))

counted : (d : Bool) (x n : ℕ) (xs : List ℕ) → (d ≡ true → is_printed x ≡ true) → (Prints (drop n xs) → Prints xs) → Prints (drop (cond d (1 + n) 0) (x ∷ xs)) → Prints (x ∷ xs)
counted false x n xs p f h = h
counted true x n xs p f h =
    let e : 1 + n ≡ suc n = omega arith in
    and_from _ _ (p refl) (f (subst (λ (k : ℕ). Prints (drop k (x ∷ xs))) e h))

digit_run : (t : List ℕ) → Prints (drop (prefix_len is_ascii_digit t) t) → Prints t
digit_run [] h = refl
digit_run (x ∷ xs) h = counted (is_ascii_digit x) x (prefix_len is_ascii_digit xs) xs (digit_prints x) (digit_run xs) h

none_or : (b : Bool) (t r : List ℕ) → (Prints r → Prints t) → Leaves t (cond b None (Some r))
none_or true t r f = tt
none_or false t r f = f

digits : (t : List ℕ) → Leaves t (after_digits t)
digits t = none_or (prefix_len is_ascii_digit t == 0) t (drop (prefix_len is_ascii_digit t) t) (digit_run t)

minus : (t : List ℕ) → Prints (after_minus t) → Prints t
minus t h = optional (head t == 45) t (one 45 t refl) h

sign : (t : List ℕ) → Prints (after_sign t) → Prints t
sign t h = optional ((head t == 45) || (head t == 43)) t (either 45 43 t refl refl) h

whole_by : (b : Bool) (t : List ℕ) → (b ≡ true → Prints (drop 1 t) → Prints t) → Leaves t (cond b (Some (drop 1 t)) (after_digits t))
whole_by true t f = f refl
whole_by false t f = digits t

fraction_by : (b : Bool) (t : List ℕ) → (b ≡ true → Prints (drop 1 t) → Prints t) → Leaves t (cond b (after_digits (drop 1 t)) (Some t))
fraction_by true t f = more t (drop 1 t) (after_digits (drop 1 t)) (f refl) (digits (drop 1 t))
fraction_by false t f = λ h. h

exponent_by : (b : Bool) (t : List ℕ) → (b ≡ true → Prints (drop 1 t) → Prints t) → Leaves t (cond b (after_digits (after_sign (drop 1 t))) (Some t))
exponent_by true t f = more t (after_sign (drop 1 t)) (after_digits (after_sign (drop 1 t))) (λ h. f refl (sign (drop 1 t) h)) (digits (after_sign (drop 1 t)))
exponent_by false t f = λ h. h

whole : (t : List ℕ) → Leaves t (after_whole t)
whole t = whole_by (head t == 48) t (one 48 t refl)

fraction : (t : List ℕ) → Leaves t (after_fraction t)
fraction t = fraction_by (head t == 46) t (one 46 t refl)

exponent : (t : List ℕ) → Leaves t (after_exponent t)
exponent t = exponent_by ((head t == 101) || (head t == 69)) t (either 101 69 t refl refl)

number_leaves : (t : List ℕ) → Leaves t (after_number t)
unfolding after_number
number_leaves t =
    let front : List ℕ = after_minus t in
    more t front _ (minus t) (follows front (option_and_then after_fraction (after_whole front)) after_exponent (follows front (after_whole front) after_fraction (whole front) fraction) exponent)

number_prints : (t : List ℕ) → IsNumber t → Prints t
number_prints t h =
    let left : Prints [] → Prints t = subst (λ (o : Option (List ℕ)). Leaves t o) h (number_leaves t) in
    left refl

-- ---- values

string_prints : (s : List ℕ) → IsUtf8 s → Prints (string_text s)
unfolding string_text ◌⧺◌
string_prints s u =
    let inner : Prints (chars_text (chars s)) = ap (list_all is_printed) (chars_is_each (chars s)) ∙ prints-chars (chars s) (scalars-chars s u) in
    both_print (codes "\"" ++ chars_text (chars s)) (codes "\"") (both_print (codes "\"") (chars_text (chars s)) refl inner) refl

named_prints : (name v : List ℕ) → Prints name → Prints v → Prints ((name ++ codes ":") ++ v)
named_prints name v p q = both_print (name ++ codes ":") v (both_print name (codes ":") p refl) q

mutual
  unfolding ◌⧺◌

  value_prints : (j : Json) → HasTexts j → Prints (value_text j)
  value_prints null h = refl
  value_prints (boolean true) h = refl
  value_prints (boolean false) h = refl
  value_prints (number s) h = number_prints s h
  value_prints (string s) h = string_prints s h
  value_prints (array js) h = both_print (codes "[" ++ items_text js) (codes "]") (both_print (codes "[") (items_text js) refl (items_print js h)) refl
  value_prints (object ms) h = both_print (codes "{" ++ members_text ms) (codes "}") (both_print (codes "{") (members_text ms) refl (members_print ms h)) refl

  items_print : (js : Items) → ItemsHaveTexts js → Prints (items_text js)
  items_print no_items h = refl
  items_print (item j js) h = both_print (value_text j) (more_items js) (value_prints j h.0) (more_items_print js h.1)

  more_items_print : (js : Items) → ItemsHaveTexts js → Prints (more_items js)
  more_items_print no_items h = refl
  more_items_print (item j js) h =
      both_print (codes "," ++ value_text j) (more_items js) (both_print (codes ",") (value_text j) refl (value_prints j h.0)) (more_items_print js h.1)

  members_print : (ms : Members) → MembersHaveTexts ms → Prints (members_text ms)
  members_print no_members h = refl
  members_print (member name j ms) h =
      both_print ((string_text name ++ codes ":") ++ value_text j) (more_members ms)
      (named_prints (string_text name) (value_text j) (string_prints name h.0) (value_prints j h.1.0)) (more_members_print ms h.1.1)

  more_members_print : (ms : Members) → MembersHaveTexts ms → Prints (more_members ms)
  more_members_print no_members h = refl
  more_members_print (member name j ms) h =
      both_print (((codes "," ++ string_text name) ++ codes ":") ++ value_text j) (more_members ms)
      (named_prints (codes "," ++ string_text name) (value_text j) (both_print (codes ",") (string_text name) refl (string_prints name h.0)) (value_prints j h.1.0)) (more_members_print ms h.1.1)

-- ---- lines

pub lines_end_once : LinesEndOnce
unfolding line field ◌⊕◌ ◌⧺◌
lines_end_once kind fs u h =
    record {
      front = value_text (line_object kind fs);
      prints = value_prints (line_object kind fs) (IsUtf8-from_ascii (codes "kind") (plain_ascii (codes "kind") refl), (u, h));
      ends = refl;
    }
