-- What stands in a line is lexed as what the kit prints for the same tokens.
use Rattle.std.proofs.Common.{◌≡◌, ℕ, Bool, true, false, cond, ◌&&◌, List, [], ◌∷◌, ◌++◌, refl, sym, ap, ap₂, ◌∙◌, append_assoc, Some}
use Rattle.std.specs.Prelude.{⊤}
use Rattle.std.specs.Str.{chars, IsUtf8}
use Rattle.std.proofs.lemmas.Str.{encodes-chars, scalars-chars}
use Rattle.json.specs.Token.{Token, begin_object, end_object, begin_array, end_array, key, string, number, boolean, null, bad}
use Rattle.json.specs.Word.{ends_word, word}
use Rattle.json.specs.Lex.{Lexeme, token, comma, colon, string_token, lex, between, fresh, punctuate, tokens}
use Rattle.json.specs.Print.{escape, quoted, token_text, begins, ends, separator, print_from, IsNumber, ArePrintable}
use Rattle.json.proofs.Printed.Strings.{content-escape, lex-escape}
use Rattle.json.proofs.Printed.Numbers.{lex-number, in_word-ended}
use Rattle.json.proofs.Printed.Tokens.{tokens-print}
use Rattle.pickle_io.specs.Text.{◌⧺◌}
use Rattle.pickle_io.specs.Device.{each}
use Rattle.json_lines.specs.Json.{char_text, chars_text, string_text}
use Rattle.json_lines.proofs.Units.{content-chars, lex-chars}

-- ---- tokens as they stand in a line

-- each string is UTF-8, and each text of a number is one
abbrev pub IsGood : Token → Type 0
IsGood begin_object = ⊤
IsGood end_object = ⊤
IsGood begin_array = ⊤
IsGood end_array = ⊤
IsGood (key s) = IsUtf8 s
IsGood (string s) = IsUtf8 s
IsGood (number s) = IsNumber s
IsGood (boolean b) = ⊤
IsGood null = ⊤
IsGood bad = ⊥

abbrev pub AreGood : List Token → Type 0
AreGood [] = ⊤
AreGood (t ∷ ts) = IsGood t × AreGood ts

abbrev pub text_of : Token → List ℕ
text_of (key s) = string_text s ++ 58 ∷ []
text_of (string s) = string_text s
text_of t = token_text t

-- with a newline behind them
abbrev pub spelled : Bool → List Token → List ℕ
spelled c [] = 10 ∷ []
spelled c (t ∷ ts) = separator c t ++ (text_of t ++ spelled (ends t) ts)

-- ---- one token

abbrev token_lexemes : Token → List Lexeme
token_lexemes begin_object = token begin_object ∷ []
token_lexemes end_object = token end_object ∷ []
token_lexemes begin_array = token begin_array ∷ []
token_lexemes end_array = token end_array ∷ []
token_lexemes (key s) = token (string s) ∷ colon ∷ []
token_lexemes (string s) = token (string s) ∷ []
token_lexemes (number s) = token (number s) ∷ []
token_lexemes (boolean b) = token (boolean b) ∷ []
token_lexemes null = token null ∷ []
token_lexemes bad = []

lex-string : (s r : List ℕ) → IsUtf8 s → lex between (string_text s ++ r) ≡ token (string s) ∷ lex between r
unfolding lex string_text chars_text ◌⧺◌
lex-string s r u =
    let ok = scalars-chars s u in
    ap (λ l. lex between (34 ∷ l)) (append_assoc (each char_text (chars s)) (34 ∷ []) r)
    ∙ ap₂ (λ o l. token (string_token o) ∷ l) (content-chars (chars s) r ok ∙ ap Some (encodes-chars s u)) (lex-chars (chars s) r ok)

lex-key : (s r : List ℕ) → IsUtf8 s → lex between ((string_text s ++ 58 ∷ []) ++ r) ≡ token (string s) ∷ colon ∷ lex between r
unfolding lex
lex-key s r u = ap (lex between) (append_assoc (string_text s) (58 ∷ []) r) ∙ lex-string s (58 ∷ r) u

lex-quoted : (s r : List ℕ) → lex between (quoted s ++ r) ≡ token (string s) ∷ lex between r
unfolding lex
lex-quoted s r = ap (λ l. lex between (34 ∷ l)) (append_assoc (escape s) (34 ∷ []) r) ∙ ap₂ (λ o l. token (string_token o) ∷ l) (content-escape s r) (lex-escape s r)

lex-printed : (t : Token) (r : List ℕ) → IsGood t → (ends t ≡ true → ends_word r ≡ true) → lex between (token_text t ++ r) ≡ token_lexemes t ++ lex between r
unfolding lex word
lex-printed begin_object r h ended = refl
lex-printed end_object r h ended = refl
lex-printed begin_array r h ended = refl
lex-printed end_array r h ended = refl
lex-printed (key s) r h ended = ap (lex between) (append_assoc (quoted s) (58 ∷ []) r) ∙ lex-quoted s (58 ∷ r)
lex-printed (string s) r h ended = lex-quoted s r
lex-printed (number s) r h ended = lex-number s r h (ended refl)
lex-printed (boolean true) r h ended = ap₂ (λ b l. token (cond b (boolean true) bad) ∷ l) (ended refl) (in_word-ended r (ended refl))
lex-printed (boolean false) r h ended = ap₂ (λ b l. token (cond b (boolean false) bad) ∷ l) (ended refl) (in_word-ended r (ended refl))
lex-printed null r h ended = ap₂ (λ b l. token (cond b null bad) ∷ l) (ended refl) (in_word-ended r (ended refl))
lex-printed bad r h ended = absurd h

lex-spelled : (t : Token) (r : List ℕ) → IsGood t → (ends t ≡ true → ends_word r ≡ true) → lex between (text_of t ++ r) ≡ token_lexemes t ++ lex between r
lex-spelled (key s) r h ended = lex-key s r h
lex-spelled (string s) r h ended = lex-string s r h
lex-spelled begin_object r h ended = lex-printed begin_object r h ended
lex-spelled end_object r h ended = lex-printed end_object r h ended
lex-spelled begin_array r h ended = lex-printed begin_array r h ended
lex-spelled end_array r h ended = lex-printed end_array r h ended
lex-spelled (number s) r h ended = lex-printed (number s) r h ended
lex-spelled (boolean b) r h ended = lex-printed (boolean b) r h ended
lex-spelled null r h ended = lex-printed null r h ended
lex-spelled bad r h ended = absurd h

-- ---- all of them

-- after a value stands a comma, a closing bracket or the end
spelled_ends : (ts : List Token) → ends_word (spelled true ts) ≡ true
spelled_ends [] = refl
spelled_ends (begin_object ∷ ts) = refl
spelled_ends (end_object ∷ ts) = refl
spelled_ends (begin_array ∷ ts) = refl
spelled_ends (end_array ∷ ts) = refl
spelled_ends (key s ∷ ts) = refl
spelled_ends (string s ∷ ts) = refl
spelled_ends (number s ∷ ts) = refl
spelled_ends (boolean b ∷ ts) = refl
spelled_ends (null ∷ ts) = refl
spelled_ends (bad ∷ ts) = refl

printed_ends : (ts : List Token) → ends_word (print_from true ts) ≡ true
unfolding print_from
printed_ends [] = refl
printed_ends (begin_object ∷ ts) = refl
printed_ends (end_object ∷ ts) = refl
printed_ends (begin_array ∷ ts) = refl
printed_ends (end_array ∷ ts) = refl
printed_ends (key s ∷ ts) = refl
printed_ends (string s ∷ ts) = refl
printed_ends (number s ∷ ts) = refl
printed_ends (boolean b ∷ ts) = refl
printed_ends (null ∷ ts) = refl
printed_ends (bad ∷ ts) = refl

behind_comma : (b : Bool) (r s : List ℕ) → lex between r ≡ lex between s → lex between (cond b (44 ∷ []) [] ++ r) ≡ lex between (cond b (44 ∷ []) [] ++ s)
unfolding lex
behind_comma true r s e = ap (λ l. comma ∷ l) e
behind_comma false r s e = e

lexed_alike : (c : Bool) (ts : List Token) → AreGood ts → lex between (spelled c ts) ≡ lex between (print_from c ts)
unfolding lex print_from
lexed_alike c [] h = refl
lexed_alike c (t ∷ ts) h =
    behind_comma (c && begins t) (text_of t ++ spelled (ends t) ts) (token_text t ++ print_from (ends t) ts)
    (lex-spelled t (spelled (ends t) ts) h.0 (λ e. ap (λ b. ends_word (spelled b ts)) e ∙ spelled_ends ts)
    ∙ ap (λ l. token_lexemes t ++ l) (lexed_alike (ends t) ts h.1)
    ∙ sym (lex-printed t (print_from (ends t) ts) h.0 (λ e. ap (λ b. ends_word (print_from b ts)) e ∙ printed_ends ts)))

printable : (ts : List Token) → AreGood ts → ArePrintable ts
unfolding ArePrintable
printable [] h = tt
printable (begin_object ∷ ts) h = (tt, printable ts h.1)
printable (end_object ∷ ts) h = (tt, printable ts h.1)
printable (begin_array ∷ ts) h = (tt, printable ts h.1)
printable (end_array ∷ ts) h = (tt, printable ts h.1)
printable (key s ∷ ts) h = (tt, printable ts h.1)
printable (string s ∷ ts) h = (tt, printable ts h.1)
printable (number s ∷ ts) h = (h.0, printable ts h.1)
printable (boolean b ∷ ts) h = (tt, printable ts h.1)
printable (null ∷ ts) h = (tt, printable ts h.1)
printable (bad ∷ ts) h = absurd h.0

pub tokens-spelled : (ts : List Token) → AreGood ts → tokens (spelled false ts) ≡ ts
tokens-spelled ts h = ap (punctuate fresh) (lexed_alike false ts h) ∙ tokens-print ts (printable ts h)
