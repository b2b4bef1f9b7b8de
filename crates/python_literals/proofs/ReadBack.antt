-- Literals of texts and of bytes are read back, and have no ends of lines.
use Rattle.std.proofs.Common.{◌≡◌, ℕ, suc, ◌+◌, ◌-◌, ◌*◌, ◌/◌, ◌%◌, ◌<◌, ◌≤◌, Bool, true, false, ◌&&◌, ◌||◌, not, List, [], ◌∷◌, ◌++◌, length, get_or, Option, Some, None, inl, inr, refl, sym, ap, ap₂, ◌∙◌, append_assoc, subst, arith}
use Rattle.std.specs.Prelude.{codes, nat_lt, nat_le, ◌==◌, if◌then◌else◌, ◌⊎◌}
use Rattle.std.specs.List.{list_any, list_all}
use Rattle.std.specs.Char.{digit_char, encode_utf8}
use Rattle.std.specs.Str.{chars, encode_utf8_all, IsUtf8, is_utf8, IsAscii}
use Rattle.std.proofs.lemmas.Bool.{cases_eq, cases_lt, cases_Bool, ne_eqb, eq-eqb, lt-ltb, le-ltb, le-leb, lt-leb, leb-true, and_parts, and_from, and_left, and_right, not-true, eqb-true, eqb-false}
use Rattle.std.proofs.lemmas.List.{append-nil}
use Rattle.std.proofs.lemmas.Str.{chars-encodes, chars-append, chars-IsAscii, IsUtf8-append, IsUtf8-from_ascii, IsUtf8-encode, IsAscii-append, is_utf8-from_IsUtf8}
use Rattle.std.proofs.lemmas.Str.Ascii.{IsAscii-nil, IsAscii-cons}
use lib.Utf8.{scalar, encode, encodes}
use Rattle.hex.specs.Hex.{IsBytes}
use Rattle.pickle_io.specs.Text.{◌⧺◌}
use Rattle.pickle_io.specs.Device.{each}
use Rattle.pickle_io.proofs.Devices.{each-nil, each-cons}
use Rattle.python_literals.specs.Signs.{two_digits, byte_escape, short_escape, long_escape, hex_escape, ascii_text, is_shown, char_text, sign_text}
use Rattle.python_literals.specs.Text.{has, quote_of, between, str_text, bytes_text, bytearray_text}
use Rattle.python_literals.specs.Grammar.{Mode, Plain, in_front, if_last, by_step, read_on, is_quote, quoted_value, prefixed_value, reads_str, reads_bytes}
use Rattle.python_literals.specs.Laws.{IsText, IsReadBack, StrReadBack, BytesReadBack, IsCall, BytearrayReadBack, ends_line, IsPartOfLine}
use Rattle.python_literals.proofs.Escapes.{AreQuotes, IsAllowed, ascii_reads, plain_read, digit_visible}
use Rattle.python_literals.proofs.Decoding.{AreSmall, IsSpelled, text_spelled}

-- ---- texts without control characters

abbrev calm : ℕ → Bool
calm b = nat_le 32 b

pub one_line : (bs : List ℕ) → list_all calm bs ≡ true → list_any ends_line bs ≡ false
one_line [] h = refl
one_line (b ∷ bs) h =
    let p = and_parts (calm b) (list_all calm bs) h in
    let low : 32 ≤ b = leb-true 32 b p.0 in
    rw (ne_eqb b 10 (λ e. omega (arith, e, low)), ne_eqb b 13 (λ e. omega (arith, e, low)), one_line bs p.1) refl

pub calm_append : (xs ys : List ℕ) → list_all calm xs ≡ true → list_all calm ys ≡ true → list_all calm (xs ++ ys) ≡ true
calm_append [] ys h k = k
calm_append (x ∷ xs) ys h k =
    let p = and_parts (calm x) (list_all calm xs) h in
    and_from (calm x) (list_all calm (xs ++ ys)) p.0 (calm_append xs ys p.1 k)

-- visible ASCII
pub record IsVisible (bs : List ℕ) : Type 0 where
  pub ascii : IsAscii bs
  pub calm : list_all calm bs ≡ true

pub visible_nil : IsVisible []
visible_nil = record { ascii = IsAscii-nil; calm = refl }

pub visible_cons : (b : ℕ) (bs : List ℕ) → 32 ≤ b → b ≤ 126 → IsVisible bs → IsVisible (b ∷ bs)
visible_cons b bs low high v = record {
  ascii = IsAscii-cons b bs (omega (arith, high)) v.ascii;
  calm = and_from (calm b) (list_all calm bs) (le-leb 32 b low) v.calm;
}

-- by a test of each
abbrev is_visible : ℕ → Bool
is_visible b = nat_le 32 b && nat_le b 126

pub visible_all : (bs : List ℕ) → list_all is_visible bs ≡ true → IsVisible bs
visible_all [] h = visible_nil
visible_all (b ∷ bs) h =
    let p = and_parts (is_visible b) (list_all is_visible bs) h in
    let q = and_parts (nat_le 32 b) (nat_le b 126) p.0 in
    visible_cons b bs (leb-true 32 b q.0) (leb-true b 126 q.1) (visible_all bs p.1)

pub visible_append : (xs ys : List ℕ) → IsVisible xs → IsVisible ys → IsVisible (xs ++ ys)
visible_append xs ys v w = record { ascii = IsAscii-append xs ys v.ascii w.ascii; calm = calm_append xs ys v.calm w.calm }

pub visible_join : (xs ys : List ℕ) → IsVisible xs → IsVisible ys → IsVisible (xs ⧺ ys)
unfolding ◌⧺◌
visible_join xs ys v w = visible_append xs ys v w

pub visible_line : (bs : List ℕ) → IsVisible bs → IsPartOfLine bs
visible_line bs v = record { utf8 = IsUtf8-from_ascii bs v.ascii; one = one_line bs v.calm }

visible_two : (a b : ℕ) → 32 ≤ a → a ≤ 126 → 32 ≤ b → b ≤ 126 → IsVisible (a ∷ b ∷ [])
visible_two a b k l m n = visible_cons a (b ∷ []) k l (visible_cons b [] m n visible_nil)

two_visible : (n : ℕ) → IsVisible (two_digits n)
unfolding two_digits
two_visible n =
    let a = digit_visible (n / 16 % 16) (omega arith) in
    let b = digit_visible (n % 16) (omega arith) in
    visible_two (digit_char (n / 16 % 16)) (digit_char (n % 16)) a.0 a.1 b.0 b.1

pub mark : (c : ℕ) → 32 ≤ c → c ≤ 126 → IsVisible (92 ∷ c ∷ [])
mark c low high = visible_two 92 c (omega arith) (omega arith) low high

hex_visible : (c : ℕ) → IsVisible (hex_escape c)
unfolding hex_escape byte_escape short_escape long_escape
hex_visible c = go (nat_lt c 256) (nat_lt c 65536)
  where
    go : (x y : Bool) → IsVisible (if x then codes "\\x" ⧺ two_digits c else if y then codes "\\u" ⧺ two_digits (c / 256) ⧺ two_digits c
        else codes "\\U" ⧺ two_digits (c / 16777216) ⧺ two_digits (c / 65536) ⧺ two_digits (c / 256) ⧺ two_digits c)
    go true y = visible_join (codes "\\x") (two_digits c) (mark 120 (omega arith) (omega arith)) (two_visible c)
    go false true =
        visible_join (codes "\\u" ⧺ two_digits (c / 256)) (two_digits c)
        (visible_join (codes "\\u") (two_digits (c / 256)) (mark 117 (omega arith) (omega arith)) (two_visible (c / 256))) (two_visible c)
    go false false =
        visible_join (codes "\\U" ⧺ two_digits (c / 16777216) ⧺ two_digits (c / 65536) ⧺ two_digits (c / 256)) (two_digits c)
        (visible_join (codes "\\U" ⧺ two_digits (c / 16777216) ⧺ two_digits (c / 65536)) (two_digits (c / 256))
        (visible_join (codes "\\U" ⧺ two_digits (c / 16777216)) (two_digits (c / 65536))
        (visible_join (codes "\\U") (two_digits (c / 16777216)) (mark 85 (omega arith) (omega arith)) (two_visible (c / 16777216)))
        (two_visible (c / 65536))) (two_visible (c / 256))) (two_visible c)

-- the quotes
quote_visible : (q : ℕ) → (q ≡ 39) ⊎ (q ≡ 34) → (32 ≤ q) × (q ≤ 126)
quote_visible q h = elim h [ inl e ↦ (omega (arith, e), omega (arith, e)) | inr e ↦ (omega (arith, e), omega (arith, e)) ]

ascii_visible : (q c : ℕ) → (q ≡ 39) ⊎ (q ≡ 34) → IsVisible (ascii_text q c)
unfolding ascii_text
ascii_visible q c h = go (c == q) (c == 92) (c == 9) (c == 10) (c == 13) (nat_le 32 c && nat_le c 126) refl
  where
    go : (a b d e f g : Bool) → (nat_le 32 c && nat_le c 126) ≡ g
        → IsVisible (if a then 92 ∷ q ∷ [] else if b then codes "\\\\" else if d then codes "\\t" else if e then codes "\\n" else if f then codes "\\r"
        else if g then c ∷ [] else hex_escape c)
    go true b d e f g is = let v = quote_visible q h in mark q v.0 v.1
    go false true d e f g is = mark 92 (omega arith) (omega arith)
    go false false true e f g is = mark 116 (omega arith) (omega arith)
    go false false false true f g is = mark 110 (omega arith) (omega arith)
    go false false false false true g is = mark 114 (omega arith) (omega arith)
    go false false false false false true is =
        let p = and_parts (nat_le 32 c) (nat_le c 126) is in
        visible_cons c [] (leb-true 32 c p.0) (leb-true c 126 p.1) visible_nil
    go false false false false false false is = hex_visible c

-- ---- characters that stand for themselves

-- what a character is between quotes
record Shown (q c : ℕ) : Type 0 where
  utf8 : IsUtf8 (sign_text q c)
  calm : list_all calm (sign_text q c) ≡ true
  read : c ≤ 1114111 → (r : List ℕ) → read_on true q Plain (chars (sign_text q c) ++ r) ≡ in_front c (read_on true q Plain r)

same_quotes : (q : ℕ) → (q ≡ 39) ⊎ (q ≡ 34) → AreQuotes q q
same_quotes q h = record { around = h; escaped = h }

ascii_shown : (q c : ℕ) → (q ≡ 39) ⊎ (q ≡ 34) → sign_text q c ≡ ascii_text q c → Shown q c
ascii_shown q c h e =
    let v = ascii_visible q c h in
    record {
      utf8 = rw e (IsUtf8-from_ascii (ascii_text q c) v.ascii);
      calm = rw e v.calm;
      read = λ k r. ap (λ (t : List ℕ). read_on true q Plain (chars t ++ r)) e ∙ ap (λ (t : List ℕ). read_on true q Plain (t ++ r)) (chars-IsAscii (ascii_text q c) v.ascii)
          ∙ ascii_reads true q q c (same_quotes q h) k (λ z. z) r;
    }

encode_calm : (c : ℕ) → 128 ≤ c → list_all calm (encode c) ≡ true
unfolding encode
encode_calm c h = go (nat_lt c 128) (nat_lt c 2048) (nat_lt c 65536) refl
  where
    le : (n : ℕ) → 32 ≤ n → calm n ≡ true
    le n k = le-leb 32 n k

    go : (x y z : Bool) → nat_lt c 128 ≡ x → list_all calm
        (if x then c ∷ [] else if y then (192 + c / 64) ∷ (128 + c % 64) ∷ [] else if z then (224 + c / 4096) ∷ (128 + c / 64 % 64) ∷ (128 + c % 64) ∷ []
        else (240 + c / 262144) ∷ (128 + c / 4096 % 64) ∷ (128 + c / 64 % 64) ∷ (128 + c % 64) ∷ []) ≡ true
    go true y z e = and_from _ _ (le c (omega (arith, h))) refl
    go false true z e = and_from _ _ (le (192 + c / 64) (omega arith)) (and_from _ _ (le (128 + c % 64) (omega arith)) refl)
    go false false true e =
        and_from _ _ (le (224 + c / 4096) (omega arith)) (and_from _ _ (le (128 + c / 64 % 64) (omega arith)) (and_from _ _ (le (128 + c % 64) (omega arith)) refl))
    go false false false e =
        and_from _ _ (le (240 + c / 262144) (omega arith)) (and_from _ _ (le (128 + c / 4096 % 64) (omega arith))
        (and_from _ _ (le (128 + c / 64 % 64) (omega arith)) (and_from _ _ (le (128 + c % 64) (omega arith)) refl)))

chars_one : (c : ℕ) → scalar c ≡ true → chars (encode c) ≡ c ∷ []
chars_one c s = ap chars (sym (append-nil (encode c))) ∙ chars-encodes (c ∷ []) (and_from (scalar c) true s refl)

far_from_quotes : (q c : ℕ) → (q ≡ 39) ⊎ (q ≡ 34) → 128 ≤ c → c ≡ q → ⊥
far_from_quotes q c h far e = elim h [ inl z ↦ omega (arith, far, e, z) | inr z ↦ omega (arith, far, e, z) ]

utf8_shown : (q c : ℕ) → (q ≡ 39) ⊎ (q ≡ 34) → scalar c ≡ true → 128 ≤ c → sign_text q c ≡ encode c → Shown q c
utf8_shown q c h s far e = record {
  utf8 = rw e (IsUtf8-encode c s);
  calm = rw e (encode_calm c far);
  read = λ k r. ap (λ (t : List ℕ). read_on true q Plain (chars t ++ r)) e ∙ ap (λ (t : List ℕ). read_on true q Plain (t ++ r)) (chars_one c s)
      ∙ plain_read true q c r (far_from_quotes q c h far) (λ z. omega (arith, far, z)) (λ z. omega (arith, far, z)) (λ z. omega (arith, far, z)) refl;
}

shown_far : (c : ℕ) → is_shown c ≡ true → 128 ≤ c
unfolding is_shown
shown_far c h = leb-true 128 c (and_parts (nat_le 128 c) _ h).0

shown : (q c : ℕ) → (q ≡ 39) ⊎ (q ≡ 34) → Shown q c
unfolding sign_text char_text
shown q c h = go (scalar c) (is_shown c) refl refl
  where
    go : (x y : Bool) → scalar c ≡ x → is_shown c ≡ y → Shown q c
    go true true e f = utf8_shown q c h e (shown_far c f) (rw (e, f) refl)
    go true false e f = ascii_shown q c h (rw (e, f) refl)
    go false y e f = ascii_shown q c h (rw e refl)

-- ---- texts

signs_utf8 : (q : ℕ) (cs : List ℕ) → (q ≡ 39) ⊎ (q ≡ 34) → IsUtf8 (each (sign_text q) cs)
signs_utf8 q [] h = rw (each-nil (sign_text q)) (IsUtf8-from_ascii [] IsAscii-nil)
signs_utf8 q (c ∷ cs) h = rw (each-cons (sign_text q) c cs) (IsUtf8-append (sign_text q c) (each (sign_text q) cs) (shown q c h).utf8 (signs_utf8 q cs h))

signs_calm : (q : ℕ) (cs : List ℕ) → (q ≡ 39) ⊎ (q ≡ 34) → list_all calm (each (sign_text q) cs) ≡ true
signs_calm q [] h = rw (each-nil (sign_text q)) refl
signs_calm q (c ∷ cs) h = rw (each-cons (sign_text q) c cs) (calm_append (sign_text q c) (each (sign_text q) cs) (shown q c h).calm (signs_calm q cs h))

quote_end : (wide : Bool) (q : ℕ) → read_on wide q Plain (q ∷ []) ≡ Some []
unfolding read_on
quote_end wide q = rw (eq-eqb q q refl) refl

signs_read : (q : ℕ) (cs : List ℕ) → (q ≡ 39) ⊎ (q ≡ 34) → AreSmall cs → read_on true q Plain (chars (each (sign_text q) cs) ++ q ∷ []) ≡ Some cs
unfolding chars
signs_read q [] h a = ap (λ (t : List ℕ). read_on true q Plain (chars t ++ q ∷ [])) (each-nil (sign_text q)) ∙ quote_end true q
signs_read q (c ∷ cs) h a =
    let s = shown q c h in
    ap (λ (t : List ℕ). read_on true q Plain (chars t ++ q ∷ [])) (each-cons (sign_text q) c cs)
    ∙ ap (λ (t : List ℕ). read_on true q Plain (t ++ q ∷ [])) (chars-append (sign_text q c) (each (sign_text q) cs) s.utf8)
    ∙ ap (read_on true q Plain) (append_assoc (chars (sign_text q c)) (chars (each (sign_text q) cs)) (q ∷ []))
    ∙ s.read a.0 (chars (each (sign_text q) cs) ++ q ∷ []) ∙ ap (in_front c) (signs_read q cs h a.1)

quote_one : (q : ℕ) → (q ≡ 39) ⊎ (q ≡ 34) → IsVisible (q ∷ [])
quote_one q h = let v = quote_visible q h in visible_cons q [] v.0 v.1 visible_nil

abbrev IsSign : ℕ → Type 0
IsSign q = (q ≡ 39) ⊎ (q ≡ 34)

-- the quotes of bytes
pub quote_either : (bytes : List ℕ) → (quote_of bytes ≡ 39) ⊎ (quote_of bytes ≡ 34)
unfolding quote_of
quote_either bytes = go (has 39 bytes && not (has 34 bytes))
  where
    go : (x : Bool) → IsSign (if x then 34 else 39)
    go true = inr refl
    go false = inl refl

str_utf8 : (q : ℕ) (cs : List ℕ) → (q ≡ 39) ⊎ (q ≡ 34) → IsUtf8 (between q (each (sign_text q) cs))
unfolding between ◌⧺◌
str_utf8 q cs h =
    let one = IsUtf8-from_ascii (q ∷ []) (quote_one q h).ascii in
    IsUtf8-append (q ∷ [] ++ each (sign_text q) cs) (q ∷ []) (IsUtf8-append (q ∷ []) (each (sign_text q) cs) one (signs_utf8 q cs h)) one

str_calm : (q : ℕ) (cs : List ℕ) → (q ≡ 39) ⊎ (q ≡ 34) → list_all calm (between q (each (sign_text q) cs)) ≡ true
unfolding between ◌⧺◌
str_calm q cs h =
    let one = (quote_one q h).calm in
    calm_append (q ∷ [] ++ each (sign_text q) cs) (q ∷ []) (calm_append (q ∷ []) (each (sign_text q) cs) one (signs_calm q cs h)) one

str_chars : (q : ℕ) (cs : List ℕ) → (q ≡ 39) ⊎ (q ≡ 34) → chars (between q (each (sign_text q) cs)) ≡ q ∷ (chars (each (sign_text q) cs) ++ q ∷ [])
unfolding between ◌⧺◌
str_chars q cs h =
    let one = quote_one q h in
    let u = IsUtf8-from_ascii (q ∷ []) one.ascii in
    let s = signs_utf8 q cs h in
    chars-append (q ∷ [] ++ each (sign_text q) cs) (q ∷ []) (IsUtf8-append (q ∷ []) (each (sign_text q) cs) u s)
    ∙ ap₂ (λ (x y : List ℕ). x ++ y) (chars-append (q ∷ []) (each (sign_text q) cs) u ∙ ap (λ (t : List ℕ). t ++ chars (each (sign_text q) cs)) (chars-IsAscii (q ∷ []) one.ascii))
    (chars-IsAscii (q ∷ []) one.ascii)

quote_is : (q : ℕ) → (q ≡ 39) ⊎ (q ≡ 34) → is_quote q ≡ true
quote_is q h = elim h [ inl e ↦ rw e refl | inr e ↦ rw e refl ]

pub texts_read_back : StrReadBack
unfolding str_text reads_str
texts_read_back text h =
    let q : ℕ = quote_of text in
    let either = quote_either text in
    let s = text_spelled text h in
    let cs : List ℕ = chars text in
    let lit : List ℕ = between q (each (sign_text q) cs) in
    let valid : is_utf8 lit ≡ true = is_utf8-from_IsUtf8 lit (str_utf8 q cs either) in
    let opened : quoted_value true (q ∷ (chars (each (sign_text q) cs) ++ q ∷ [])) ≡ read_on true q Plain (chars (each (sign_text q) cs) ++ q ∷ []) =
    ap (λ (b : Bool). if b then read_on true q Plain (chars (each (sign_text q) cs) ++ q ∷ []) else None) (quote_is q either) in
    record {
      read = ap (λ (b : Bool). if b then quoted_value true (chars lit) else None) valid ∙ ap (quoted_value true) (str_chars q cs either) ∙ opened ∙ signs_read q cs either s.small;
      same = s.same;
    }

pub text_lines : (text : List ℕ) → IsPartOfLine (str_text text)
unfolding str_text
text_lines text = record {
  utf8 = str_utf8 (quote_of text) (chars text) (quote_either text);
  one = one_line (between (quote_of text) (each (sign_text (quote_of text)) (chars text))) (str_calm (quote_of text) (chars text) (quote_either text));
}

-- ---- bytes

items_visible : (e : ℕ) (bytes : List ℕ) → (e ≡ 39) ⊎ (e ≡ 34) → IsVisible (each (ascii_text e) bytes)
items_visible e [] h = rw (each-nil (ascii_text e)) visible_nil
items_visible e (b ∷ bytes) h =
    rw (each-cons (ascii_text e) b bytes) (visible_append (ascii_text e b) (each (ascii_text e) bytes) (ascii_visible e b h) (items_visible e bytes h))

-- no byte is the quote around, but where it has a backslash before it
abbrev AreFree : ℕ → ℕ → List ℕ → Type 0
AreFree q e [] = Unit {0}
AreFree q e (b ∷ bytes) = (b ≡ q → b ≡ e) × AreFree q e bytes

items_read : (q e : ℕ) (bytes : List ℕ) → AreQuotes q e → IsBytes bytes → AreFree q e bytes → read_on false q Plain (each (ascii_text e) bytes ++ q ∷ []) ≡ Some bytes
items_read q e [] a h f = ap (λ (t : List ℕ). read_on false q Plain (t ++ q ∷ [])) (each-nil (ascii_text e)) ∙ quote_end false q
items_read q e (b ∷ bytes) a h f =
    ap (λ (t : List ℕ). read_on false q Plain (t ++ q ∷ [])) (each-cons (ascii_text e) b bytes)
    ∙ ap (read_on false q Plain) (append_assoc (ascii_text e b) (each (ascii_text e) bytes) (q ∷ []))
    ∙ ascii_reads false q e b a (h 0) f.0 (each (ascii_text e) bytes ++ q ∷ []) ∙ ap (in_front b) (items_read q e bytes a (λ i. h (suc i)) f.1)

between_read : (q e : ℕ) (bytes : List ℕ) → AreQuotes q e → IsBytes bytes → AreFree q e bytes → reads_bytes (codes "b" ⧺ between q (each (ascii_text e) bytes)) ≡ Some bytes
unfolding reads_bytes between ◌⧺◌
between_read q e bytes a h f =
    ap (λ (b : Bool). if b then read_on false q Plain (each (ascii_text e) bytes ++ q ∷ []) else None) (quote_is q a.around) ∙ items_read q e bytes a h f

all_free : (q : ℕ) (bytes : List ℕ) → AreFree q q bytes
all_free q [] = tt
all_free q (b ∷ bytes) = (λ e. e, all_free q bytes)

pub bytes_read_back : BytesReadBack
unfolding bytes_text
bytes_read_back bytes h =
    let q : ℕ = quote_of bytes in
    between_read q q bytes (same_quotes q (quote_either bytes)) h (all_free q bytes)

between_visible : (q e : ℕ) (bytes : List ℕ) → (q ≡ 39) ⊎ (q ≡ 34) → (e ≡ 39) ⊎ (e ≡ 34) → IsVisible (between q (each (ascii_text e) bytes))
unfolding between
between_visible q e bytes h k =
    let one = quote_one q h in
    visible_join (q ∷ [] ⧺ each (ascii_text e) bytes) (q ∷ []) (visible_join (q ∷ []) (each (ascii_text e) bytes) one (items_visible e bytes k)) one

pub bytes_lines : (bytes : List ℕ) → IsPartOfLine (bytes_text bytes)
unfolding bytes_text
bytes_lines bytes =
    let q : ℕ = quote_of bytes in
    visible_line (codes "b" ⧺ between q (each (ascii_text q) bytes))
    (visible_join (codes "b") (between q (each (ascii_text q) bytes)) (visible_all (codes "b") refl) (between_visible q q bytes (quote_either bytes) (quote_either bytes)))

-- ---- bytes that can be changed

no_byte : (c : ℕ) (bytes : List ℕ) → has c bytes ≡ false → (e : ℕ) → AreFree c e bytes
no_byte c [] h e = tt
no_byte c (b ∷ bytes) h e =
    let p = or_parts (b == c) (has c bytes) h in
    (λ z. absurd (eqb-false b c p.0 z), no_byte c bytes p.1 e)
  where
    or_parts : (x y : Bool) → (x || y) ≡ false → (x ≡ false) × (y ≡ false)
    or_parts true y h = absurd cc
    or_parts false y h = (refl, h)

free_of : (bytes : List ℕ) → AreFree (quote_of bytes) 39 bytes
unfolding quote_of
free_of bytes = go (has 39 bytes) (has 34 bytes) refl
  where
    go : (x y : Bool) → has 34 bytes ≡ y → AreFree (if x && not y then 34 else 39) 39 bytes
    go true true e = all_free 39 bytes
    go true false e = no_byte 34 bytes e 39
    go false y e = all_free 39 bytes

pub bytearrays_read_back : BytearrayReadBack
unfolding bytearray_text ◌⧺◌
bytearrays_read_back bytes h =
    let q : ℕ = quote_of bytes in
    let lit : List ℕ = codes "b" ⧺ between q (each (ascii_text 39) bytes) in
    record {
      literal = lit;
      call = append_assoc (codes "bytearray(b") (between q (each (ascii_text 39) bytes)) (codes ")");
      read = between_read q 39 bytes (record { around = quote_either bytes; escaped = inl refl }) h (free_of bytes);
    }

pub bytearray_lines : (bytes : List ℕ) → IsPartOfLine (bytearray_text bytes)
unfolding bytearray_text
bytearray_lines bytes =
    let q : ℕ = quote_of bytes in
    let inside : List ℕ = between q (each (ascii_text 39) bytes) in
    visible_line (codes "bytearray(b" ⧺ inside ⧺ codes ")")
    (visible_join (codes "bytearray(b" ⧺ inside) (codes ")")
    (visible_join (codes "bytearray(b") inside (visible_all (codes "bytearray(b") refl) (between_visible q 39 bytes (quote_either bytes) (inl refl))) (visible_all (codes ")") refl))
