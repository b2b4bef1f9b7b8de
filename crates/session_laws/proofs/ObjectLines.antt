-- What the line of an object says: its number, its kind, its parts and what was done to it.
use Rattle.std.proofs.Common.{◌≡◌, ℕ, ℤ, pos, negsuc, zero, suc, ◌+◌, ◌<◌, ◌==◌, Bool, true, false, List, [], ◌∷◌, ◌++◌, drop, refl, sym, ap, ap₂, subst, ◌∙◌, append_assoc, append-nil, ltb-true, ◌≢◌, arith, rules}
use Rattle.std.specs.Prelude.{not, nat_lt, nat_le, decimal, codes, if◌then◌else◌, length, ◌/◌, ◌%◌}
use Rattle.std.specs.Fmt.{signed_decimal, digits, digits_onto, digit_glyph}
use Rattle.std.specs.List.{AllByRecursion, flat_map}
use Rattle.std.proofs.lemmas.Fmt.{decimal_injective}
use Rattle.pickle_io.specs.Text.{◌⧺◌, hexadecimal, quoted}
use Rattle.pickle_io.specs.Device.{each}
use Rattle.pickle_ops.specs.Argument.{long_of}
use Rattle.pickle_ops.specs.Text.{float_text, long_text}
use Rattle.pickle_ops.specs.declared.kind.Kind.{Kind}
use Rattle.pickle_ops.specs.declared.kind.Kind.TheVariants as kind
use Rattle.pickle_ops.specs.declared.object.Change.{Change}
use Rattle.pickle_ops.specs.declared.object.Change.TheVariants as change
use Rattle.pickle_ops.specs.Object.{Object}
use Rattle.pickle_text.specs.Column.{newline}
use Rattle.pickle_text.specs.Words.{id_text, kind_text}
use Rattle.object_texts.specs.ObjectText.{next_text, some_parts, parts_text, set_text, change_text}
use Rattle.session_laws.specs.Lines.{most, AreNumbers, IsNumbered}
use Rattle.session_laws.proofs.Lacks.{IsNoDigit, lacks, first_holds, second_holds, lacks_decimal, blank_no_digit, newline_no_digit, no_digit_by}
use Rattle.session_laws.proofs.Arguments.{Outside, IsCalm, Passes, Ends, front, ends, moved, is_false, cancelled, one_front, passes_on, passes_word, passes_quoted, passes_decimal, passes_signed, passes_float, passes_long}

-- ---- a kind ends at a newline, or at a blank before one of these marks

mark : ℕ → Bool
mark c = if c == 40 then true else if c == 43 then true else if c == 91 then true else if c == 38 then true else c == 33

first : List ℕ → ℕ
first [] = 0
first (x ∷ xs) = x

kind_stop : ℕ → List ℕ → Bool
kind_stop x xs = if x == 10 then true else if x == 32 then mark (first xs) else false

kind_stays : (x : ℕ) (xs : List ℕ) → not (x == 32) ≡ true → not (x == 10) ≡ true → kind_stop x xs ≡ false
unfolding kind_stop
kind_stays x xs h k = rw (is_false (x == 10) k, is_false (x == 32) h) refl

kind_calm : IsCalm kind_stop
kind_calm = record { calm = kind_stays }

-- a text behind a blank that is not one of the marks
is_calm : List ℕ → Bool
is_calm [] = false
is_calm (x ∷ xs) = not (mark x)

calm_first : (a rest : List ℕ) → is_calm a ≡ true → mark (first (a ++ rest)) ≡ false
unfolding is_calm first
calm_first [] rest h = absurd cc
calm_first (x ∷ xs) rest h = is_false (mark x) h

behind_blank : (a : List ℕ) → is_calm a ≡ true → Passes kind_stop Outside Outside a → Passes kind_stop Outside Outside (32 ∷ a)
unfolding Passes front ends moved kind_stop
behind_blank a h p rest = rw (calm_first a rest h) (ap (λ (t : List ℕ). 32 ∷ t) (p rest))

mark_not : (x : ℕ) → not (x == 40) ≡ true → not (x == 43) ≡ true → not (x == 91) ≡ true → not (x == 38) ≡ true → not (x == 33) ≡ true → not (mark x) ≡ true
unfolding mark
mark_not x a b c d e = rw (is_false (x == 40) a, is_false (x == 43) b, is_false (x == 91) c, is_false (x == 38) d, is_false (x == 33) e) refl

-- ---- numbers

letter : (k b d : ℕ) (x : Bool) → b ≡ 87 + k → nat_lt k 10 ≡ true → nat_lt d 10 ≡ x → (if x then 48 + d else (if false then 55 + d else 87 + d)) ≢ b
letter k b d true is few e = λ q.
    let low : d < 10 = ltb-true d 10 e in
    omega (arith, q, is, low)
letter k b d false is few e = λ q.
    let at : d ≡ k = omega (arith, q, is) in
    let none : nat_lt k 10 ≡ false = subst (λ (n : ℕ). nat_lt n 10 ≡ false) at e in
    let bad : true ≡ false = sym few ∙ none in
    absurd cc

open_bracket : IsNoDigit 91
open_bracket = record { no_digit = λ d. letter 4 91 d (nat_lt d 10) refl refl refl }

close_bracket : IsNoDigit 93
close_bracket = record { no_digit = λ d. letter 6 93 d (nat_lt d 10) refl refl refl }

open_parenthesis : IsNoDigit 40
open_parenthesis = record { no_digit = λ d. no_digit_by 40 d (nat_lt d 10) refl (λ n q l. omega (arith, q)) (λ n q. omega (arith, q)) }

close_parenthesis : IsNoDigit 41
close_parenthesis = record { no_digit = λ d. no_digit_by 41 d (nat_lt d 10) refl (λ n q l. omega (arith, q)) (λ n q. omega (arith, q)) }

plus : IsNoDigit 43
plus = record { no_digit = λ d. no_digit_by 43 d (nat_lt d 10) refl (λ n q l. omega (arith, q)) (λ n q. omega (arith, q)) }

ampersand : IsNoDigit 38
ampersand = record { no_digit = λ d. no_digit_by 38 d (nat_lt d 10) refl (λ n q l. omega (arith, q)) (λ n q. omega (arith, q)) }

exclamation : IsNoDigit 33
exclamation = record { no_digit = λ d. no_digit_by 33 d (nat_lt d 10) refl (λ n q l. omega (arith, q)) (λ n q. omega (arith, q)) }

is_some : List ℕ → Bool
is_some [] = false
is_some (x ∷ xs) = true

either : {A : Type 0} (P : A → Type 0) (x : Bool) (a b : A) → P a → P b → P (if x then a else b)
either P true a b p q = p
either P false a b p q = q

onto_some : (k n : ℕ) (acc : List ℕ) → is_some acc ≡ true → is_some (digits_onto k 10 false n acc) ≡ true
unfolding is_some
onto_some zero n acc h = h
onto_some (suc k) n acc h =
    either (λ (t : List ℕ). is_some t ≡ true) (n / 10 == 0) (digit_glyph false (n % 10) ∷ acc) (digits_onto k 10 false (n / 10) (digit_glyph false (n % 10) ∷ acc)) refl
    (onto_some k (n / 10) (digit_glyph false (n % 10) ∷ acc) refl)

decimal_some : (n : ℕ) → is_some (decimal n) ≡ true
unfolding is_some digits
decimal_some n =
    either (λ (t : List ℕ). is_some t ≡ true) (n / 10 == 0) (digit_glyph false (n % 10) ∷ []) (digits_onto 63 10 false (n / 10) (digit_glyph false (n % 10) ∷ [])) refl
    (onto_some 63 (n / 10) (digit_glyph false (n % 10) ∷ []) refl)

calm_by : (t : List ℕ) → is_some t ≡ true → lacks 40 t ≡ true → lacks 43 t ≡ true → lacks 91 t ≡ true → lacks 38 t ≡ true → lacks 33 t ≡ true → is_calm t ≡ true
unfolding is_calm is_some
calm_by [] s a b c d e = absurd cc
calm_by (x ∷ xs) s a b c d e =
    mark_not x (first_holds (not (x == 40)) (lacks 40 xs) a) (first_holds (not (x == 43)) (lacks 43 xs) b) (first_holds (not (x == 91)) (lacks 91 xs) c)
    (first_holds (not (x == 38)) (lacks 38 xs) d) (first_holds (not (x == 33)) (lacks 33 xs) e)

calm_decimal : (n : ℕ) → is_calm (decimal n) ≡ true
calm_decimal n =
    calm_by (decimal n) (decimal_some n) (lacks_decimal 40 n open_parenthesis) (lacks_decimal 43 n plus) (lacks_decimal 91 n open_bracket) (lacks_decimal 38 n ampersand)
    (lacks_decimal 33 n exclamation)

calm_signed : (z : ℤ) → is_calm (signed_decimal z) ≡ true
unfolding is_calm mark
calm_signed (pos n) = calm_decimal n
calm_signed (negsuc n) = refl

calm_quoted : (q : List ℕ) → is_calm (quoted q) ≡ true
unfolding is_calm mark quoted ◌⧺◌
calm_quoted q = refl

calm_float : (bytes : List ℕ) → is_calm (float_text bytes) ≡ true
unfolding is_calm mark float_text ◌⧺◌
calm_float bytes = refl

long_calm : (b : Bool) (bytes : List ℕ) → is_calm (if b then signed_decimal (long_of bytes) else codes "le:" ⧺ hexadecimal bytes) ≡ true
unfolding is_calm mark ◌⧺◌
long_calm true bytes = calm_signed (long_of bytes)
long_calm false bytes = refl

calm_long : (bytes : List ℕ) → is_calm (long_text bytes) ≡ true
unfolding long_text
calm_long bytes = long_calm (nat_le (length bytes) 16) bytes

-- ---- kinds

worded : (word text : List ℕ) → lacks 32 word ≡ true → lacks 10 word ≡ true → lacks 39 word ≡ true → is_calm text ≡ true → Passes kind_stop Outside Outside text
    → Passes kind_stop Outside Outside (word ++ (32 ∷ text))
worded word text a b c h p = passes_on kind_stop Outside Outside Outside word (32 ∷ text) (passes_word kind_stop kind_calm word a b c) (behind_blank text h p)

two_worded : (word one two : List ℕ) → lacks 32 word ≡ true → lacks 10 word ≡ true → lacks 39 word ≡ true
    → Passes kind_stop Outside Outside (((word ++ (32 ∷ quoted one)) ++ (32 ∷ [])) ++ quoted two)
two_worded word one two a b c =
    subst (λ (t : List ℕ). Passes kind_stop Outside Outside t) (sym (append_assoc (word ++ (32 ∷ quoted one)) (32 ∷ []) (quoted two)))
    (passes_on kind_stop Outside Outside Outside (word ++ (32 ∷ quoted one)) (32 ∷ quoted two) (worded word (quoted one) a b c (calm_quoted one) (passes_quoted kind_stop kind_calm one))
    (behind_blank (quoted two) (calm_quoted two) (passes_quoted kind_stop kind_calm two)))

kind_passes : (k : Kind) → Passes kind_stop Outside Outside (kind_text k)
unfolding kind_text ◌⧺◌
kind_passes kind.None = passes_word kind_stop kind_calm (codes "none") refl refl refl
kind_passes kind.True = passes_word kind_stop kind_calm (codes "true") refl refl refl
kind_passes kind.False = passes_word kind_stop kind_calm (codes "false") refl refl refl
kind_passes (kind.Int n) = worded (codes "int") (signed_decimal n) refl refl refl (calm_signed n) (passes_signed kind_stop kind_calm n)
kind_passes (kind.Long bytes) = worded (codes "int") (long_text bytes) refl refl refl (calm_long bytes) (passes_long kind_stop kind_calm bytes)
kind_passes (kind.IntLine q) = worded (codes "int-line") (quoted q) refl refl refl (calm_quoted q) (passes_quoted kind_stop kind_calm q)
kind_passes (kind.LongLine q) = worded (codes "long-line") (quoted q) refl refl refl (calm_quoted q) (passes_quoted kind_stop kind_calm q)
kind_passes (kind.FloatLine q) = worded (codes "float-line") (quoted q) refl refl refl (calm_quoted q) (passes_quoted kind_stop kind_calm q)
kind_passes (kind.Float bytes) = worded (codes "float") (float_text bytes) refl refl refl (calm_float bytes) (passes_float kind_stop kind_calm bytes)
kind_passes (kind.LegacyString q) = worded (codes "string") (quoted q) refl refl refl (calm_quoted q) (passes_quoted kind_stop kind_calm q)
kind_passes (kind.LegacyLine q) = worded (codes "string-line") (quoted q) refl refl refl (calm_quoted q) (passes_quoted kind_stop kind_calm q)
kind_passes (kind.Text q) = worded (codes "text") (quoted q) refl refl refl (calm_quoted q) (passes_quoted kind_stop kind_calm q)
kind_passes (kind.TextLine q) = worded (codes "text-line") (quoted q) refl refl refl (calm_quoted q) (passes_quoted kind_stop kind_calm q)
kind_passes (kind.Bytes q) = worded (codes "bytes") (quoted q) refl refl refl (calm_quoted q) (passes_quoted kind_stop kind_calm q)
kind_passes (kind.ByteArray q) = worded (codes "bytearray") (quoted q) refl refl refl (calm_quoted q) (passes_quoted kind_stop kind_calm q)
kind_passes kind.Tuple = passes_word kind_stop kind_calm (codes "tuple") refl refl refl
kind_passes kind.List = passes_word kind_stop kind_calm (codes "list") refl refl refl
kind_passes kind.Set = passes_word kind_stop kind_calm (codes "set") refl refl refl
kind_passes kind.FrozenSet = passes_word kind_stop kind_calm (codes "frozenset") refl refl refl
kind_passes kind.Dict = passes_word kind_stop kind_calm (codes "dict") refl refl refl
kind_passes (kind.Global names) = two_worded (codes "global") names.first names.second refl refl refl
kind_passes kind.StackGlobal = passes_word kind_stop kind_calm (codes "stack-global") refl refl refl
kind_passes kind.Call = passes_word kind_stop kind_calm (codes "call") refl refl refl
kind_passes kind.New = passes_word kind_stop kind_calm (codes "new") refl refl refl
kind_passes kind.NewEx = passes_word kind_stop kind_calm (codes "new-ex") refl refl refl
kind_passes (kind.Inst names) = two_worded (codes "inst") names.first names.second refl refl refl
kind_passes kind.Obj = passes_word kind_stop kind_calm (codes "obj") refl refl refl
kind_passes (kind.PersistentLine q) = worded (codes "persistent") (quoted q) refl refl refl (calm_quoted q) (passes_quoted kind_stop kind_calm q)
kind_passes kind.Persistent = passes_word kind_stop kind_calm (codes "persistent") refl refl refl
kind_passes (kind.Ext n) = worded (codes "ext") (signed_decimal n) refl refl refl (calm_signed n) (passes_signed kind_stop kind_calm n)
kind_passes (kind.Buffer n) = worded (codes "buffer") (decimal n) refl refl refl (calm_decimal n) (passes_decimal kind_stop kind_calm n)
kind_passes kind.ReadOnly = passes_word kind_stop kind_calm (codes "readonly") refl refl refl

-- ---- a number up to a newline, a blank, a parenthesis or a bracket

number_stop : ℕ → Bool
number_stop x = if x == 10 then true else if x == 32 then true else if x == 41 then true else x == 93

upto : List ℕ → List ℕ
upto [] = []
upto (x ∷ xs) = if number_stop x then [] else x ∷ upto xs

upto_over : (t x : List ℕ) → lacks 10 t ≡ true → lacks 32 t ≡ true → lacks 41 t ≡ true → lacks 93 t ≡ true → upto (t ++ x) ≡ t ++ upto x
unfolding upto number_stop
upto_over [] x a b c d = refl
upto_over (y ∷ t) x a b c d =
    rw (is_false (y == 10) (first_holds (not (y == 10)) (lacks 10 t) a), is_false (y == 32) (first_holds (not (y == 32)) (lacks 32 t) b), is_false (y == 41) (first_holds (not (y == 41)) (lacks 41 t) c), is_false (y == 93) (first_holds (not (y == 93)) (lacks 93 t) d))
    (ap (λ (u : List ℕ). y ∷ u) (upto_over t x (second_holds (not (y == 10)) (lacks 10 t) a) (second_holds (not (y == 32)) (lacks 32 t) b) (second_holds (not (y == 41)) (lacks 41 t) c) (second_holds (not (y == 93)) (lacks 93 t) d)))

number_read : (n : ℕ) (x : List ℕ) → upto x ≡ [] → upto (decimal n ++ x) ≡ decimal n
number_read n x e =
    upto_over (decimal n) x (lacks_decimal 10 n newline_no_digit) (lacks_decimal 32 n blank_no_digit) (lacks_decimal 41 n close_parenthesis) (lacks_decimal 93 n close_bracket)
    ∙ ap (λ (t : List ℕ). decimal n ++ t) e ∙ append-nil (decimal n)

one_number : (m n : ℕ) (x y : List ℕ) → m < most → n < most → upto x ≡ [] → upto y ≡ [] → decimal m ++ x ≡ decimal n ++ y → (m ≡ n) × (x ≡ y)
one_number m n x y h k e f same =
    let digits_are : decimal m ≡ decimal n = sym (number_read m x e) ∙ ap upto same ∙ number_read n y f in
    (decimal_injective m n h k digits_are, cancelled (decimal n) x y (ap (λ (t : List ℕ). t ++ x) (sym digits_are) ∙ same))

-- ---- parts

next_is : (id : ℕ) (ids rest : List ℕ) → each next_text (id ∷ ids) ++ rest ≡ 32 ∷ 35 ∷ (decimal id ++ (each next_text ids ++ rest))
unfolding each next_text id_text ◌⧺◌
next_is id ids rest = ap (λ (t : List ℕ). 32 ∷ 35 ∷ t) (append_assoc (decimal id) (flat_map next_text ids) rest)

no_next : (rest : List ℕ) → each next_text [] ++ rest ≡ rest
unfolding each
no_next rest = refl

blank_stops : (x : List ℕ) → upto (32 ∷ x) ≡ []
unfolding upto number_stop
blank_stops x = refl

parenthesis_stops : (x : List ℕ) → upto (41 ∷ x) ≡ []
unfolding upto number_stop
parenthesis_stops x = refl

bracket_stops : (x : List ℕ) → upto (93 ∷ x) ≡ []
unfolding upto number_stop
bracket_stops x = refl

newline_stops : upto newline ≡ []
unfolding upto number_stop
newline_stops = refl

ids_stop : (ids rest : List ℕ) → upto (each next_text ids ++ (41 ∷ rest)) ≡ []
ids_stop [] rest = ap upto (no_next (41 ∷ rest)) ∙ parenthesis_stops rest
ids_stop (id ∷ ids) rest = ap upto (next_is id ids (41 ∷ rest)) ∙ blank_stops (35 ∷ (decimal id ++ (each next_text ids ++ (41 ∷ rest))))

apart_by : (m n : ℕ) → m ≡ n → (m == n) ≡ false → ⊥
apart_by m n e test =
    let self : (n == n) ≡ false = subst (λ (k : ℕ). (k == n) ≡ false) e test in
    let same : (n == n) ≡ true = search rules in
    let bad : true ≡ false = sym same ∙ self in
    absurd cc

head : List ℕ → ℕ
head [] = 0
head (x ∷ xs) = x

ids_same : (ids others rest more : List ℕ) → AllByRecursion (λ i. i < most) ids → AllByRecursion (λ i. i < most) others
    → each next_text ids ++ (41 ∷ rest) ≡ each next_text others ++ (41 ∷ more) → (ids ≡ others) × (rest ≡ more)
unfolding head
ids_same [] [] rest more h k e = let w : 41 ∷ rest ≡ 41 ∷ more = sym (no_next (41 ∷ rest)) ∙ e ∙ no_next (41 ∷ more) in (refl, ap (drop 1) w)
ids_same [] (j ∷ js) rest more h k e = absurd (apart_by 41 32 (ap head (sym (no_next (41 ∷ rest)) ∙ e ∙ next_is j js (41 ∷ more))) refl)
ids_same (i ∷ is) [] rest more h k e = absurd (apart_by 32 41 (ap head (sym (next_is i is (41 ∷ rest)) ∙ e ∙ no_next (41 ∷ more))) refl)
ids_same (i ∷ is) (j ∷ js) rest more h k e =
    let one = one_number i j (each next_text is ++ (41 ∷ rest)) (each next_text js ++ (41 ∷ more)) h.0 k.0 (ids_stop is rest) (ids_stop js more)
    (ap (drop 2) (sym (next_is i is (41 ∷ rest)) ∙ e ∙ next_is j js (41 ∷ more))) in
    let others = ids_same is js rest more h.1 k.1 one.1 in
    (ap₂ (λ (x : ℕ) (xs : List ℕ). x ∷ xs) one.0 others.0, others.1)

parts_are : (id : ℕ) (ids rest : List ℕ) → some_parts id ids ++ rest ≡ 32 ∷ 40 ∷ 35 ∷ (decimal id ++ (each next_text ids ++ (41 ∷ rest)))
unfolding some_parts id_text ◌⧺◌
parts_are id ids rest =
    ap (λ (t : List ℕ). 32 ∷ 40 ∷ 35 ∷ t)
    (append_assoc (decimal id ++ each next_text ids) (41 ∷ []) rest ∙ append_assoc (decimal id) (each next_text ids) (41 ∷ rest))

-- ---- changes

mark_of : Change → ℕ
mark_of (change.Append id) = 43
mark_of (change.SetItem key value) = 91
mark_of (change.Add id) = 38
mark_of (change.Build id) = 33

-- what is behind the mark and the `#`
said_of : Change → List ℕ → List ℕ
said_of (change.Append id) rest = decimal id ++ rest
said_of (change.SetItem key value) rest = decimal key ++ (93 ∷ 61 ∷ 35 ∷ (decimal value ++ rest))
said_of (change.Add id) rest = decimal id ++ rest
said_of (change.Build id) rest = decimal id ++ rest

change_is : (c : Change) (cs : List Change) (rest : List ℕ) → each change_text (c ∷ cs) ++ rest ≡ 32 ∷ mark_of c ∷ 35 ∷ said_of c (each change_text cs ++ rest)
unfolding each change_text set_text id_text ◌⧺◌ mark_of said_of
change_is (change.Append id) cs rest = ap (λ (t : List ℕ). 32 ∷ 43 ∷ 35 ∷ t) (append_assoc (decimal id) (flat_map change_text cs) rest)
change_is (change.Add id) cs rest = ap (λ (t : List ℕ). 32 ∷ 38 ∷ 35 ∷ t) (append_assoc (decimal id) (flat_map change_text cs) rest)
change_is (change.Build id) cs rest = ap (λ (t : List ℕ). 32 ∷ 33 ∷ 35 ∷ t) (append_assoc (decimal id) (flat_map change_text cs) rest)
change_is (change.SetItem key value) cs rest =
    ap (λ (t : List ℕ). 32 ∷ 91 ∷ 35 ∷ t)
    (append_assoc ((decimal key ++ (93 ∷ 61 ∷ [])) ++ (35 ∷ decimal value)) (flat_map change_text cs) rest
    ∙ append_assoc (decimal key ++ (93 ∷ 61 ∷ [])) (35 ∷ decimal value) (flat_map change_text cs ++ rest)
    ∙ append_assoc (decimal key) (93 ∷ 61 ∷ []) (35 ∷ (decimal value ++ (flat_map change_text cs ++ rest))))

no_change : (rest : List ℕ) → each change_text [] ++ rest ≡ rest
unfolding each
no_change rest = refl

unfoldable pub tail_of : List Change → List ℕ
tail_of cs = each change_text cs ++ newline

tail_stops : (cs : List Change) → upto (tail_of cs) ≡ []
unfolding tail_of
tail_stops [] = ap upto (no_change newline) ∙ newline_stops
tail_stops (c ∷ cs) = ap upto (change_is c cs newline) ∙ blank_stops (mark_of c ∷ 35 ∷ said_of c (each change_text cs ++ newline))

said_same : (c d : Change) (x y : List ℕ) → AreNumbers c → AreNumbers d → upto x ≡ [] → upto y ≡ [] → mark_of c ≡ mark_of d → said_of c x ≡ said_of d y → (c ≡ d) × (x ≡ y)
unfolding mark_of said_of
said_same (change.Append i) (change.Append j) x y h k e f m s = let one = one_number i j x y h k e f s in (ap change.Append one.0, one.1)
said_same (change.Append i) (change.SetItem j w) x y h k e f m s = absurd (apart_by 43 91 m refl)
said_same (change.Append i) (change.Add j) x y h k e f m s = absurd (apart_by 43 38 m refl)
said_same (change.Append i) (change.Build j) x y h k e f m s = absurd (apart_by 43 33 m refl)
said_same (change.SetItem i v) (change.Append j) x y h k e f m s = absurd (apart_by 91 43 m refl)
said_same (change.SetItem i v) (change.SetItem j w) x y h k e f m s =
    let one = one_number i j (93 ∷ 61 ∷ 35 ∷ (decimal v ++ x)) (93 ∷ 61 ∷ 35 ∷ (decimal w ++ y)) h.0 k.0 (bracket_stops (61 ∷ 35 ∷ (decimal v ++ x))) (bracket_stops (61 ∷ 35 ∷ (decimal w ++ y))) s in
    let two = one_number v w x y h.1 k.1 e f (ap (drop 3) one.1) in
    (ap₂ change.SetItem one.0 two.0, two.1)
said_same (change.SetItem i v) (change.Add j) x y h k e f m s = absurd (apart_by 91 38 m refl)
said_same (change.SetItem i v) (change.Build j) x y h k e f m s = absurd (apart_by 91 33 m refl)
said_same (change.Add i) (change.Append j) x y h k e f m s = absurd (apart_by 38 43 m refl)
said_same (change.Add i) (change.SetItem j w) x y h k e f m s = absurd (apart_by 38 91 m refl)
said_same (change.Add i) (change.Add j) x y h k e f m s = let one = one_number i j x y h k e f s in (ap change.Add one.0, one.1)
said_same (change.Add i) (change.Build j) x y h k e f m s = absurd (apart_by 38 33 m refl)
said_same (change.Build i) (change.Append j) x y h k e f m s = absurd (apart_by 33 43 m refl)
said_same (change.Build i) (change.SetItem j w) x y h k e f m s = absurd (apart_by 33 91 m refl)
said_same (change.Build i) (change.Add j) x y h k e f m s = absurd (apart_by 33 38 m refl)
said_same (change.Build i) (change.Build j) x y h k e f m s = let one = one_number i j x y h k e f s in (ap change.Build one.0, one.1)

changes_same : (cs ds : List Change) → AllByRecursion AreNumbers cs → AllByRecursion AreNumbers ds → tail_of cs ≡ tail_of ds → cs ≡ ds
unfolding tail_of head
changes_same [] [] h k e = refl
changes_same [] (d ∷ ds) h k e = absurd (apart_by 10 32 (ap head (sym (no_change newline) ∙ e ∙ change_is d ds newline)) refl)
changes_same (c ∷ cs) [] h k e = absurd (apart_by 32 10 (ap head (sym (change_is c cs newline) ∙ e ∙ no_change newline)) refl)
changes_same (c ∷ cs) (d ∷ ds) h k e =
    let whole : 32 ∷ mark_of c ∷ 35 ∷ said_of c (tail_of cs) ≡ 32 ∷ mark_of d ∷ 35 ∷ said_of d (tail_of ds) = sym (change_is c cs newline) ∙ e ∙ change_is d ds newline in
    let marks_are : mark_of c ≡ mark_of d = ap (λ (t : List ℕ). head (drop 1 t)) whole in
    let one = said_same c d (tail_of cs) (tail_of ds) h.0 k.0 (tail_stops cs) (tail_stops ds) marks_are (ap (drop 3) whole) in
    ap₂ (λ (x : Change) (xs : List Change). x ∷ xs) one.0 (changes_same cs ds h.1 k.1 one.1)

-- ---- parts, and what is behind them

no_parts : (c : List Change) (id : ℕ) (ids rest : List ℕ) → tail_of c ≡ 32 ∷ 40 ∷ rest → ⊥
unfolding tail_of head mark_of
no_parts [] id ids rest e = apart_by 10 32 (ap head (sym (no_change newline) ∙ e)) refl
no_parts (change.Append i ∷ cs) id ids rest e = apart_by 43 40 (ap (λ (t : List ℕ). head (drop 1 t)) (sym (change_is (change.Append i) cs newline) ∙ e)) refl
no_parts (change.SetItem i v ∷ cs) id ids rest e = apart_by 91 40 (ap (λ (t : List ℕ). head (drop 1 t)) (sym (change_is (change.SetItem i v) cs newline) ∙ e)) refl
no_parts (change.Add i ∷ cs) id ids rest e = apart_by 38 40 (ap (λ (t : List ℕ). head (drop 1 t)) (sym (change_is (change.Add i) cs newline) ∙ e)) refl
no_parts (change.Build i ∷ cs) id ids rest e = apart_by 33 40 (ap (λ (t : List ℕ). head (drop 1 t)) (sym (change_is (change.Build i) cs newline) ∙ e)) refl

parts_same : (ps qs : List ℕ) (cs ds : List Change) → AllByRecursion (λ i. i < most) ps → AllByRecursion (λ i. i < most) qs
    → parts_text ps ++ tail_of cs ≡ parts_text qs ++ tail_of ds → (ps ≡ qs) × (tail_of cs ≡ tail_of ds)
parts_same [] [] cs ds h k e = (refl, e)
parts_same [] (q ∷ qs) cs ds h k e = absurd (no_parts cs q qs (35 ∷ (decimal q ++ (each next_text qs ++ (41 ∷ tail_of ds)))) (e ∙ parts_are q qs (tail_of ds)))
parts_same (p ∷ ps) [] cs ds h k e = absurd (no_parts ds p ps (35 ∷ (decimal p ++ (each next_text ps ++ (41 ∷ tail_of cs)))) (sym e ∙ parts_are p ps (tail_of cs)))
parts_same (p ∷ ps) (q ∷ qs) cs ds h k e =
    let one = one_number p q (each next_text ps ++ (41 ∷ tail_of cs)) (each next_text qs ++ (41 ∷ tail_of ds)) h.0 k.0 (ids_stop ps (tail_of cs)) (ids_stop qs (tail_of ds))
    (ap (drop 3) (sym (parts_are p ps (tail_of cs)) ∙ e ∙ parts_are q qs (tail_of ds))) in
    let others = ids_same ps qs (tail_of cs) (tail_of ds) h.1 k.1 one.1 in
    (ap₂ (λ (x : ℕ) (xs : List ℕ). x ∷ xs) one.0 others.0, others.1)

-- the kind ends before them
mark_ends : (c : Change) (rest : List ℕ) → front kind_stop Outside (32 ∷ mark_of c ∷ rest) ≡ []
unfolding front ends kind_stop first mark mark_of
mark_ends (change.Append id) rest = refl
mark_ends (change.SetItem key value) rest = refl
mark_ends (change.Add id) rest = refl
mark_ends (change.Build id) rest = refl

line_ends : front kind_stop Outside newline ≡ []
unfolding front ends kind_stop
line_ends = refl

parenthesis_ends : (rest : List ℕ) → front kind_stop Outside (32 ∷ 40 ∷ rest) ≡ []
unfolding front ends kind_stop first mark
parenthesis_ends rest = refl

kind_ends : (ps : List ℕ) (cs : List Change) → Ends kind_stop (parts_text ps ++ tail_of cs)
unfolding Ends tail_of
kind_ends [] [] = ap (front kind_stop Outside) (no_change newline) ∙ line_ends
kind_ends [] (c ∷ cs) = ap (front kind_stop Outside) (change_is c cs newline) ∙ mark_ends c (35 ∷ said_of c (each change_text cs ++ newline))
kind_ends (p ∷ ps) cs = ap (front kind_stop Outside) (parts_are p ps (tail_of cs)) ∙ parenthesis_ends (35 ∷ (decimal p ++ (each next_text ps ++ (41 ∷ tail_of cs))))

-- ---- the line

-- what is behind the number
unfoldable pub about : Object → List ℕ
about o = kind_text o.kind ++ (parts_text o.parts ++ tail_of o.changes)

pub about_same : (o p : Object) → IsNumbered o → IsNumbered p → about o ≡ about p → (kind_text o.kind ≡ kind_text p.kind) × (o.parts ≡ p.parts) × (o.changes ≡ p.changes)
unfolding about
about_same o p h k e =
    let kinds_are : kind_text o.kind ≡ kind_text p.kind =
    one_front kind_stop (kind_text o.kind) (kind_text p.kind) (parts_text o.parts ++ tail_of o.changes) (parts_text p.parts ++ tail_of p.changes) (kind_passes o.kind) (kind_passes p.kind)
    (kind_ends o.parts o.changes) (kind_ends p.parts p.changes) e in
    let behind : parts_text o.parts ++ tail_of o.changes ≡ parts_text p.parts ++ tail_of p.changes =
    cancelled (kind_text p.kind) (parts_text o.parts ++ tail_of o.changes) (parts_text p.parts ++ tail_of p.changes)
    (ap (λ (t : List ℕ). t ++ (parts_text o.parts ++ tail_of o.changes)) (sym kinds_are) ∙ e) in
    let parts = parts_same o.parts p.parts o.changes p.changes h.parts k.parts behind in
    (kinds_are, parts.0, changes_same o.changes p.changes h.changes k.changes parts.1)
