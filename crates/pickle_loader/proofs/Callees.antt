-- The words for what is called, in a line.
use Rattle.std.proofs.Common.{◌≡◌, ℕ, zero, suc, ◌==◌, Bool, true, false, List, [], ◌∷◌, ◌++◌, Option, Some, None, refl, sym, ap, ap₂, ◌∙◌, inl, inr, ◌⊎◌, append_assoc}
use Rattle.std.specs.Prelude.{◌&&◌, ◌||◌, ℤ, pos, negsuc, nat_le, nat_eq, drop, slice_get, codes, decimal, if◌then◌else◌}
use Rattle.std.specs.Option.{option_map_or}
use Rattle.std.specs.List.{starts_with}
use Rattle.std.specs.Fmt.{signed_decimal}
use Rattle.std.proofs.lemmas.List.{append_cancel_left, append_cancel_right, append-nil}
use Rattle.pickle_io.specs.Text.{◌⧺◌, quoted}
use Rattle.pickle_names.specs.Value.{decode_all, raw_text, whole_text}
use Rattle.pickle_ops.specs.declared.kind.Kind.{Kind}
use Rattle.pickle_ops.specs.declared.kind.Kind.TheVariants as kind
use Rattle.pickle_ops.specs.Object.{Object}
use Rattle.pickle_text.specs.Words.{id_text, kind_text}
use Rattle.pickle_calls.specs.declared.event.Event.TheVariants as event
use Rattle.pickle_calls.specs.declared.naming.Naming.{Naming}
use Rattle.pickle_calls.specs.Event.{part}
use Rattle.pickle_calls.specs.Naming.{Spelled, Pair, NewPair, member_text, said_text, pair_text, pair_renamed, import_text, is_text, said_names, renamed_text, names_by, names_text, global_pair, stack_pair}
use Rattle.pickle_calls.specs.Brief.{kind_name, name_text, briefs_text, value_text}
use Rattle.pickle_calls.specs.CallsLine.{inst_text, call_text, call_with_text, obj_text, made_words, made_text, made_at}
use Rattle.calls_laws.proofs.QuotesApart.{other, quotes_apart}
use Rattle.calls_laws.proofs.OneEvent.{lacks, apart_first, decimal_lacks, no_blank, one_line_one_event}
use Rattle.pickle_loader.specs.Callee.{callee_said, OneLineOneCallee}

-- ---- a name, and what is behind it

abbrev first : List ℕ → ℕ
first [] = 0
first (b ∷ text) = b

-- a text in quotes, or one that cannot be read
data IsText (t : List ℕ) : Type 0 where
  IsQuoted : (q : List ℕ) → t ≡ quoted q → IsText t
  IsRaw : (q : List ℕ) → t ≡ codes "raw " ++ quoted q → IsText t

-- a number, two texts, or a code
data IsName (t : List ℕ) : Type 0 where
  IsNumber : (id : ℕ) → t ≡ 35 ∷ decimal id → IsName t
  AreTexts : (a b : List ℕ) → IsText a → IsText b → t ≡ a ++ (32 ∷ b) → IsName t
  IsCode : (z : ℤ) → t ≡ codes "ext " ++ signed_decimal z → IsName t

no_byte : {A : Type 0} (m n : ℕ) → (m == n) ≡ false → m ≡ n → A
no_byte m n test e = absurd (other m n test e)

-- which byte a name begins with
quoted_begins : (q x : List ℕ) → first (quoted q ++ x) ≡ 39
unfolding quoted ◌⧺◌
quoted_begins q x = refl

text_apart : (a b x y : List ℕ) → IsText a → IsText b → a ++ x ≡ b ++ y → (a ≡ b) × (x ≡ y)
text_apart a b x y (IsQuoted p d) (IsQuoted q e) f =
    let parts = quotes_apart p q x y (sym (ap (λ (l : List ℕ). l ++ x) d) ∙ f ∙ ap (λ (l : List ℕ). l ++ y) e) in
    (d ∙ parts.0 ∙ sym e, parts.1)
text_apart a b x y (IsQuoted p d) (IsRaw q e) f =
    no_byte 39 114 refl (sym (ap (λ (l : List ℕ). first (l ++ x)) d ∙ quoted_begins p x) ∙ ap first f ∙ ap (λ (l : List ℕ). first (l ++ y)) e)
text_apart a b x y (IsRaw p d) (IsQuoted q e) f =
    no_byte 114 39 refl (sym (ap (λ (l : List ℕ). first (l ++ x)) d) ∙ ap first f ∙ ap (λ (l : List ℕ). first (l ++ y)) e ∙ quoted_begins q y)
text_apart a b x y (IsRaw p d) (IsRaw q e) f =
    let same : codes "raw " ++ (quoted p ++ x) ≡ codes "raw " ++ (quoted q ++ y) = sym (ap (λ (l : List ℕ). l ++ x) d) ∙ f ∙ ap (λ (l : List ℕ). l ++ y) e in
    let parts = quotes_apart p q x y (append_cancel_left (codes "raw ") (quoted p ++ x) (quoted q ++ y) same) in
    (d ∙ ap (λ (l : List ℕ). codes "raw " ++ l) parts.0 ∙ sym e, parts.1)

signed_lacks : (z : ℤ) → lacks 32 (signed_decimal z) ≡ true
signed_lacks (pos n) = decimal_lacks 32 n no_blank
signed_lacks (negsuc n) = decimal_lacks 32 (suc n) no_blank

text_begins : (a x : List ℕ) → IsText a → (first (a ++ x) ≡ 39) ⊎ (first (a ++ x) ≡ 114)
text_begins a x (IsQuoted q e) = inl (ap (λ (l : List ℕ). first (l ++ x)) e ∙ quoted_begins q x)
text_begins a x (IsRaw q e) = inr (ap (λ (l : List ℕ). first (l ++ x)) e)

-- no text begins so
no_text : {A : Type 0} (a x y : List ℕ) (c : ℕ) → IsText a → (39 == c) ≡ false → (114 == c) ≡ false → a ++ x ≡ y → first y ≡ c → A
no_text a x y c h p q e f = elim (text_begins a x h) [
  | inl i ↦ no_byte 39 c p (sym i ∙ ap first e ∙ f)
  | inr i ↦ no_byte 114 c q (sym i ∙ ap first e ∙ f)
]

two_are : (t a b x : List ℕ) → t ≡ a ++ (32 ∷ b) → t ++ x ≡ a ++ (32 ∷ (b ++ x))
two_are t a b x e = ap (λ (l : List ℕ). l ++ x) e ∙ append_assoc a (32 ∷ b) x

name_apart : (s t x y : List ℕ) → IsName s → IsName t → s ++ (32 ∷ x) ≡ t ++ (32 ∷ y) → (s ≡ t) × (x ≡ y)
name_apart s t x y (IsNumber i d) (IsNumber j e) f =
    let parts = apart_first 32 (35 ∷ decimal i) (35 ∷ decimal j) x y (decimal_lacks 32 i no_blank) (decimal_lacks 32 j no_blank) (sym (ap (λ (l : List ℕ). l ++ (32 ∷ x)) d) ∙ f ∙ ap (λ (l : List ℕ). l ++ (32 ∷ y)) e) in
    (d ∙ parts.0 ∙ sym e, parts.1)
name_apart s t x y (IsNumber i d) (AreTexts a b p q e) f =
    no_text a (32 ∷ (b ++ (32 ∷ y))) (s ++ (32 ∷ x)) 35 p refl refl (sym (two_are t a b (32 ∷ y) e) ∙ sym f) (ap (λ (l : List ℕ). first (l ++ (32 ∷ x))) d)
name_apart s t x y (IsNumber i d) (IsCode z e) f =
    no_byte 35 101 refl (sym (ap (λ (l : List ℕ). first (l ++ (32 ∷ x))) d) ∙ ap first f ∙ ap (λ (l : List ℕ). first (l ++ (32 ∷ y))) e)
name_apart s t x y (AreTexts a b p q d) (IsNumber j e) f =
    no_text a (32 ∷ (b ++ (32 ∷ x))) (t ++ (32 ∷ y)) 35 p refl refl (sym (two_are s a b (32 ∷ x) d) ∙ f) (ap (λ (l : List ℕ). first (l ++ (32 ∷ y))) e)
name_apart s t x y (AreTexts a b p q d) (AreTexts g h u v e) f =
    let front = text_apart a g (32 ∷ (b ++ (32 ∷ x))) (32 ∷ (h ++ (32 ∷ y))) p u (sym (two_are s a b (32 ∷ x) d) ∙ f ∙ two_are t g h (32 ∷ y) e) in
    let back = text_apart b h (32 ∷ x) (32 ∷ y) q v (ap (drop 1) front.1) in
    (d ∙ ap₂ (λ (k l : List ℕ). k ++ (32 ∷ l)) front.0 back.0 ∙ sym e, ap (drop 1) back.1)
name_apart s t x y (AreTexts a b p q d) (IsCode z e) f =
    no_text a (32 ∷ (b ++ (32 ∷ x))) (t ++ (32 ∷ y)) 101 p refl refl (sym (two_are s a b (32 ∷ x) d) ∙ f) (ap (λ (l : List ℕ). first (l ++ (32 ∷ y))) e)
name_apart s t x y (IsCode z d) (IsNumber j e) f =
    no_byte 101 35 refl (sym (ap (λ (l : List ℕ). first (l ++ (32 ∷ x))) d) ∙ ap first f ∙ ap (λ (l : List ℕ). first (l ++ (32 ∷ y))) e)
name_apart s t x y (IsCode z d) (AreTexts a b p q e) f =
    no_text a (32 ∷ (b ++ (32 ∷ y))) (s ++ (32 ∷ x)) 101 p refl refl (sym (two_are t a b (32 ∷ y) e) ∙ sym f) (ap (λ (l : List ℕ). first (l ++ (32 ∷ x))) d)
name_apart s t x y (IsCode z d) (IsCode w e) f =
    let same : codes "ext " ++ (signed_decimal z ++ (32 ∷ x)) ≡ codes "ext " ++ (signed_decimal w ++ (32 ∷ y)) = sym (ap (λ (l : List ℕ). l ++ (32 ∷ x)) d) ∙ f ∙ ap (λ (l : List ℕ). l ++ (32 ∷ y)) e in
    let parts = apart_first 32 (signed_decimal z) (signed_decimal w) x y (signed_lacks z) (signed_lacks w) (append_cancel_left (codes "ext ") (signed_decimal z ++ (32 ∷ x)) (signed_decimal w ++ (32 ∷ y)) same) in
    (d ∙ ap (λ (l : List ℕ). codes "ext " ++ l) parts.0 ∙ sym e, parts.1)

-- ---- the name of an object is one

number_is : (id : ℕ) → IsName (id_text id)
unfolding id_text ◌⧺◌
number_is id = IsNumber id refl

said_by : (b : Bool) (v q : List ℕ) → IsText (if b then quoted v else raw_text q)
unfolding raw_text ◌⧺◌
said_by true v q = IsQuoted v refl
said_by false v q = IsRaw q refl

said_is : (s : Option Spelled) (id : ℕ) → is_text s ≡ true → IsText (said_text s id)
unfolding said_text whole_text
said_is (Some s) id h = said_by (decode_all s.coding s.bytes).good (decode_all s.coding s.bytes).value s.bytes
said_is None id h = absurd cc

both : (x y : Bool) → (x && y) ≡ true → (x ≡ true) × (y ≡ true)
both true y h = (refl, h)
both false y h = absurd cc

chosen : (b : Bool) (t u : List ℕ) → (b ≡ true → IsName t) → IsName u → IsName (if b then t else u)
chosen true t u h k = h refl
chosen false t u h k = k

texts_are : (p : Pair) → (is_text p.from && is_text p.name) ≡ true → IsName (pair_text p)
unfolding pair_text ◌⧺◌
texts_are p h =
    let h = both (is_text p.from) (is_text p.name) h in
    AreTexts (said_text p.from p.from_id) (said_text p.name p.name_id) (said_is p.from p.from_id h.0) (said_is p.name p.name_id h.1)
    (append_assoc (said_text p.from p.from_id) (codes " ") (said_text p.name p.name_id))

said_names_are : (id : ℕ) (p : Pair) → IsName (said_names (Some id) p)
said_names_are id p = chosen (is_text p.from && is_text p.name) (pair_text p) (id_text id) (texts_are p) (number_is id)

member_is : (x : Option (List ℕ)) (p : Pair) → is_text p.name ≡ true → IsText (member_text x p)
member_is (Some name) p h = IsQuoted name refl
member_is None p h = said_is p.name p.name_id h

import_is : (i : NewPair) (p : Pair) → is_text p.name ≡ true → IsName (import_text i p)
unfolding import_text ◌⧺◌
import_is i p h = AreTexts (quoted i.from) (member_text i.name p) (IsQuoted i.from refl) (member_is i.name p h) (append_assoc (quoted i.from) (codes " ") (member_text i.name p))

renamed_is : (m : Naming) (id : ℕ) (i : NewPair) (p : Pair) → IsName (renamed_text m (Some id) i p)
renamed_is m id i p =
    chosen (nat_le m.since id && is_text p.name) (if m.old then import_text i p else said_names (Some id) p) (id_text id)
    (λ h. chosen m.old (import_text i p) (said_names (Some id) p) (λ old. import_is i p (both (nat_le m.since id) (is_text p.name) h).1) (said_names_are id p)) (number_is id)

names_are : (m : Naming) (id : ℕ) (p : Pair) → IsName (names_text m (Some id) p)
unfolding names_text
names_are m id p = go (pair_renamed p)
  where
    go : (i : Option NewPair) → IsName (names_by m (Some id) i p)
    go None = said_names_are id p
    go (Some i) = renamed_is m id i p

code_is : (z : ℤ) → IsName (kind_text (kind.Ext z))
unfolding kind_text ◌⧺◌
code_is z = IsCode z refl

kind_is : (m : Naming) (heap : List Object) (id : ℕ) (k : Kind) (parts : List ℕ) → IsName (kind_name m heap id k parts)
unfolding kind_name
kind_is m heap id (kind.Global names) parts = names_are m id (global_pair names.first names.second)
kind_is m heap id kind.StackGlobal parts = names_are m id (stack_pair heap parts)
kind_is m heap id (kind.Ext z) parts = code_is z
kind_is m heap id _ parts = number_is id

name_is : (m : Naming) (heap : List Object) (id : ℕ) → IsName (name_text m heap id)
unfolding name_text
name_is m heap id = go (slice_get heap id)
  where
    go : (x : Option Object) → IsName (option_map_or (λ (o : Object). kind_name m heap id o.kind o.parts) x (id_text id))
    go None = number_is id
    go (Some o) = kind_is m heap id o.kind o.parts

-- ---- the words of what was made

-- they begin as those of a call
abbrev calls : List ℕ → Bool
calls w = starts_with nat_eq w (codes "call ") || starts_with nat_eq w (codes "new ")

data Shape (w : List ℕ) (c : Option (List ℕ)) : Type 0 where
  Calls : (name rest : List ℕ) → IsName name → w ≡ codes "call " ++ (name ++ (32 ∷ rest)) → c ≡ Some name → Shape w c
  News : (name rest : List ℕ) → IsName name → w ≡ codes "new " ++ (name ++ (32 ∷ rest)) → c ≡ Some name → Shape w c
  Others : calls w ≡ false → c ≡ None → Shape w c

words_are : (keyword name rest : List ℕ) → (keyword ++ name ++ codes " ") ++ rest ≡ keyword ++ (name ++ (32 ∷ rest))
words_are keyword name rest =
    append_assoc (keyword ++ name) (codes " ") rest ∙ append_assoc keyword name (32 ∷ rest)

words_with : (keyword name rest more : List ℕ) → (((keyword ++ name ++ codes " ") ++ rest) ++ codes " ") ++ more ≡ keyword ++ (name ++ (32 ∷ (rest ++ (32 ∷ more))))
words_with keyword name rest more =
    append_assoc ((keyword ++ name ++ codes " ") ++ rest) (codes " ") more ∙ ap (λ (l : List ℕ). l ++ (32 ∷ more)) (words_are keyword name rest)
    ∙ append_assoc keyword (name ++ (32 ∷ rest)) (32 ∷ more) ∙ ap (λ (l : List ℕ). keyword ++ l) (append_assoc name (32 ∷ rest) (32 ∷ more))

shape : (m : Naming) (heap : List Object) (k : Kind) (parts : List ℕ) → Shape (made_words m heap k parts) (callee_said m heap k parts)
unfolding made_words inst_text call_text call_with_text obj_text ◌⧺◌
shape m heap kind.Call parts = Calls (name_text m heap (part 0 parts)) (value_text m heap (part 1 parts)) (name_is m heap (part 0 parts)) (words_are (codes "call ") (name_text m heap (part 0 parts)) (value_text m heap (part 1 parts))) refl
shape m heap kind.Obj parts = Calls (name_text m heap (part 0 parts)) (briefs_text m heap (drop 1 parts)) (name_is m heap (part 0 parts)) (words_are (codes "call ") (name_text m heap (part 0 parts)) (briefs_text m heap (drop 1 parts))) refl
shape m heap kind.New parts = News (name_text m heap (part 0 parts)) (value_text m heap (part 1 parts)) (name_is m heap (part 0 parts)) (words_are (codes "new ") (name_text m heap (part 0 parts)) (value_text m heap (part 1 parts))) refl
shape m heap kind.NewEx parts = News (name_text m heap (part 0 parts)) (value_text m heap (part 1 parts) ++ (32 ∷ value_text m heap (part 2 parts))) (name_is m heap (part 0 parts)) (words_with (codes "new ") (name_text m heap (part 0 parts)) (value_text m heap (part 1 parts)) (value_text m heap (part 2 parts))) refl
shape m heap _ parts = Others refl refl

one_callee : (v w : List ℕ) (c d : Option (List ℕ)) → Shape v c → Shape w d → v ≡ w → c ≡ d
one_callee v w c d (Calls a x p e f) (Calls b y q g h) is =
    let same = append_cancel_left (codes "call ") (a ++ (32 ∷ x)) (b ++ (32 ∷ y)) (sym e ∙ is ∙ g) in
    f ∙ ap Some (name_apart a b x y p q same).0 ∙ sym h
one_callee v w c d (Calls a x p e f) (News b y q g h) is = no_byte 99 110 refl (ap first (sym e ∙ is ∙ g))
one_callee v w c d (Calls a x p e f) (Others g h) is = let no : true ≡ false = ap calls (sym e ∙ is) ∙ g in absurd cc
one_callee v w c d (News a x p e f) (Calls b y q g h) is = no_byte 110 99 refl (ap first (sym e ∙ is ∙ g))
one_callee v w c d (News a x p e f) (News b y q g h) is =
    let same = append_cancel_left (codes "new ") (a ++ (32 ∷ x)) (b ++ (32 ∷ y)) (sym e ∙ is ∙ g) in
    f ∙ ap Some (name_apart a b x y p q same).0 ∙ sym h
one_callee v w c d (News a x p e f) (Others g h) is = let no : true ≡ false = ap calls (sym e ∙ is) ∙ g in absurd cc
one_callee v w c d (Others e f) (Calls b y q g h) is = let no : false ≡ true = sym e ∙ ap calls (is ∙ g) in absurd cc
one_callee v w c d (Others e f) (News b y q g h) is = let no : false ≡ true = sym e ∙ ap calls (is ∙ g) in absurd cc
one_callee v w c d (Others e f) (Others g h) is = f ∙ sym h

-- ---- the law

made_is : (m : Naming) (heap : List Object) (i : ℕ) (o : Object) → slice_get heap i ≡ Some o → made_at m heap i ≡ (made_words m heap o.kind o.parts ++ codes " as ") ++ id_text i
unfolding made_text ◌⧺◌
made_is m heap i o there = ap (λ (x : Option Object). option_map_or (made_text m heap i) x []) there

pub one_line_one_callee : OneLineOneCallee
one_line_one_callee x y m n heap other i j o p h k u v there here line =
    let one = one_line_one_event x y m n heap other (event.Made i) (event.Made j) h k ((o, there), u) ((p, here), v) line in
    let same : (made_words m heap o.kind o.parts ++ codes " as ") ++ id_text i ≡ (made_words n other p.kind p.parts ++ codes " as ") ++ id_text i =
    sym (made_is m heap i o there) ∙ one.1.1 ∙ made_is n other j p here ∙ ap (λ (l : ℕ). (made_words n other p.kind p.parts ++ codes " as ") ++ id_text l) (sym one.1.0) in
    let front = append_cancel_right (made_words m heap o.kind o.parts ++ codes " as ") (made_words n other p.kind p.parts ++ codes " as ") (id_text i) same in
    one_callee (made_words m heap o.kind o.parts) (made_words n other p.kind p.parts) (callee_said m heap o.kind o.parts) (callee_said n other p.kind p.parts)
    (shape m heap o.kind o.parts) (shape n other p.kind p.parts) (append_cancel_right (made_words m heap o.kind o.parts) (made_words n other p.kind p.parts) (codes " as ") front)
