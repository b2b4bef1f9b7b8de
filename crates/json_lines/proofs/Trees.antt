-- The text of a value is that of its tokens, and so it is read back.
use Rattle.std.proofs.Common.{◌≡◌, ℕ, ◌≤◌, Bool, true, false, cond, ◌&&◌, List, [], ◌∷◌, ◌++◌, Some, option_and_then, refl, sym, ap, ◌∙◌, append_assoc, append-nil}
use Rattle.std.specs.Prelude.{codes}
use Rattle.std.proofs.lemmas.Str.{IsUtf8-from_ascii}
use Rattle.json.specs.Token.{Token}
use Rattle.json.specs.Json.{Json, null, boolean, number, string, array, object, Items, no_items, item, Members, no_members, member, value, if_last, max_depth, document}
use Rattle.json.specs.Tree.{json_tokens, items_tokens, members_tokens, depth}
use Rattle.json.proofs.Printed.Trees.{value-json_tokens}
use Rattle.pickle_io.specs.Text.{◌⧺◌}
use Rattle.json_lines.specs.Json.{string_text, value_text, items_text, more_items, members_text, more_members}
use Rattle.json_lines.specs.Line.{field, ◌⊕◌, line_object, line}
use Rattle.json_lines.specs.Readable.{HasTexts, ItemsHaveTexts, MembersHaveTexts, LinesReadBack}
use Rattle.json_lines.proofs.Strings.{plain_ascii}
use Rattle.json_lines.proofs.Tokens.{AreGood, spelled, tokens-spelled}

-- ---- the text of tokens

and_true : (c : Bool) → (c && true) ≡ c
and_true true = refl
and_true false = refl

-- a comma, where one is before
abbrev comma_if : Bool → List ℕ → List ℕ
comma_if c t = cond c (44 ∷ []) [] ++ t

four : (a b c d : List ℕ) → a ++ (b ++ (c ++ d)) ≡ ((a ++ b) ++ c) ++ d
four a b c d = sym (append_assoc (a ++ b) c d ∙ append_assoc a b (c ++ d))

mutual
  unfolding ◌⧺◌

  pub spelled_value : (j : Json) (c : Bool) (ts : List Token) → spelled c (json_tokens j ++ ts) ≡ comma_if c (value_text j ++ spelled true ts)
  spelled_value null c ts = ap (λ (b : Bool). comma_if b (value_text null ++ spelled true ts)) (and_true c)
  spelled_value (boolean true) c ts = ap (λ (b : Bool). comma_if b (value_text (boolean true) ++ spelled true ts)) (and_true c)
  spelled_value (boolean false) c ts = ap (λ (b : Bool). comma_if b (value_text (boolean false) ++ spelled true ts)) (and_true c)
  spelled_value (number s) c ts = ap (λ (b : Bool). comma_if b (s ++ spelled true ts)) (and_true c)
  spelled_value (string s) c ts = ap (λ (b : Bool). comma_if b (string_text s ++ spelled true ts)) (and_true c)
  spelled_value (array js) c ts =
      ap (λ (b : Bool). comma_if b (91 ∷ spelled false (items_tokens js ++ ts))) (and_true c)
      ∙ ap (λ (t : List ℕ). comma_if c (91 ∷ t)) (spelled_items js ts ∙ sym (append_assoc (items_text js) (93 ∷ []) (spelled true ts)))
  spelled_value (object ms) c ts =
      ap (λ (b : Bool). comma_if b (123 ∷ spelled false (members_tokens ms ++ ts))) (and_true c)
      ∙ ap (λ (t : List ℕ). comma_if c (123 ∷ t)) (spelled_members ms ts ∙ sym (append_assoc (members_text ms) (125 ∷ []) (spelled true ts)))

  spelled_items : (js : Items) (ts : List Token) → spelled false (items_tokens js ++ ts) ≡ items_text js ++ (93 ∷ spelled true ts)
  spelled_items no_items ts = refl
  spelled_items (item j js) ts =
      ap (spelled false) (append_assoc (json_tokens j) (items_tokens js) ts) ∙ spelled_value j false (items_tokens js ++ ts)
      ∙ ap (λ (t : List ℕ). value_text j ++ t) (spelled_more_items js ts) ∙ sym (append_assoc (value_text j) (more_items js) (93 ∷ spelled true ts))

  spelled_more_items : (js : Items) (ts : List Token) → spelled true (items_tokens js ++ ts) ≡ more_items js ++ (93 ∷ spelled true ts)
  spelled_more_items no_items ts = refl
  spelled_more_items (item j js) ts =
      ap (spelled true) (append_assoc (json_tokens j) (items_tokens js) ts) ∙ spelled_value j true (items_tokens js ++ ts)
      ∙ ap (λ (t : List ℕ). 44 ∷ (value_text j ++ t)) (spelled_more_items js ts)
      ∙ ap (λ (t : List ℕ). 44 ∷ t) (sym (append_assoc (value_text j) (more_items js) (93 ∷ spelled true ts)))

  spelled_members : (ms : Members) (ts : List Token) → spelled false (members_tokens ms ++ ts) ≡ members_text ms ++ (125 ∷ spelled true ts)
  spelled_members no_members ts = refl
  spelled_members (member name j ms) ts =
      let n : List ℕ = string_text name ++ 58 ∷ [] in
      ap (λ (us : List Token). n ++ spelled false us) (append_assoc (json_tokens j) (members_tokens ms) ts)
      ∙ ap (λ (t : List ℕ). n ++ t) (spelled_value j false (members_tokens ms ++ ts))
      ∙ ap (λ (t : List ℕ). n ++ (value_text j ++ t)) (spelled_more_members ms ts) ∙ four n (value_text j) (more_members ms) (125 ∷ spelled true ts)

  spelled_more_members : (ms : Members) (ts : List Token) → spelled true (members_tokens ms ++ ts) ≡ more_members ms ++ (125 ∷ spelled true ts)
  spelled_more_members no_members ts = refl
  spelled_more_members (member name j ms) ts =
      let n : List ℕ = 44 ∷ (string_text name ++ 58 ∷ []) in
      ap (λ (us : List Token). n ++ spelled false us) (append_assoc (json_tokens j) (members_tokens ms) ts)
      ∙ ap (λ (t : List ℕ). n ++ t) (spelled_value j false (members_tokens ms ++ ts))
      ∙ ap (λ (t : List ℕ). n ++ (value_text j ++ t)) (spelled_more_members ms ts) ∙ four n (value_text j) (more_members ms) (125 ∷ spelled true ts)

-- ---- good tokens

AreGood-append : (ts us : List Token) → AreGood ts → AreGood us → AreGood (ts ++ us)
AreGood-append [] us h k = k
AreGood-append (t ∷ ts) us h k = (h.0, AreGood-append ts us h.1 k)

mutual
  pub good_value : (j : Json) → HasTexts j → AreGood (json_tokens j)
  good_value null h = (tt, tt)
  good_value (boolean b) h = (tt, tt)
  good_value (number s) h = (h, tt)
  good_value (string s) h = (h, tt)
  good_value (array js) h = (tt, good_items js h)
  good_value (object ms) h = (tt, good_members ms h)

  good_items : (js : Items) → ItemsHaveTexts js → AreGood (items_tokens js)
  good_items no_items h = (tt, tt)
  good_items (item j js) h = AreGood-append (json_tokens j) (items_tokens js) (good_value j h.0) (good_items js h.1)

  good_members : (ms : Members) → MembersHaveTexts ms → AreGood (members_tokens ms)
  good_members no_members h = (tt, tt)
  good_members (member name j ms) h = (h.0, AreGood-append (json_tokens j) (members_tokens ms) (good_value j h.1.0) (good_members ms h.1.1))

-- ---- lines

read_back : (j : Json) → HasTexts j → depth j ≤ max_depth → document (value_text j ++ 10 ∷ []) ≡ Some j
read_back j texts shallow =
    let text : value_text j ++ 10 ∷ [] ≡ spelled false (json_tokens j) = sym (spelled_value j false []) ∙ ap (spelled false) (append-nil (json_tokens j)) in
    ap document text
    ∙ ap (option_and_then (λ p. if_last p.0 p.1))
    (ap (value max_depth) (tokens-spelled (json_tokens j) (good_value j texts) ∙ sym (append-nil (json_tokens j))) ∙ value-json_tokens j max_depth [] shallow)

pub lines_read_back : LinesReadBack
unfolding line field ◌⊕◌ ◌⧺◌
lines_read_back kind fs utf8 texts shallow = read_back (line_object kind fs) (IsUtf8-from_ascii (codes "kind") (plain_ascii (codes "kind") refl), (utf8, texts)) shallow
