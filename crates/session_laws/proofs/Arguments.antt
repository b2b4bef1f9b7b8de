-- What the text of an argument says: it is read up to the first blank or newline that is not in quotes.
use Rattle.std.proofs.Common.{◌≡◌, ℕ, zero, suc, ℤ, ◌==◌, ◌&&◌, Bool, true, false, List, [], ◌∷◌, ◌++◌, drop, Option, None, Some, refl, sym, ap, ap₂, ◌∙◌, append_assoc, append-nil}
use Rattle.std.specs.Prelude.{not, nat_le, decimal, codes, if◌then◌else◌, length, slice_index, ◌/◌, ◌%◌}
use Rattle.std.specs.Fmt.{signed_decimal}
use Rattle.std.specs.List.{flat_map}
use Rattle.hex.specs.Hex.{encode_with, lower_digits}
use Rattle.pickle_io.specs.Text.{◌⧺◌, hexadecimal, escaped, quoted_byte, quoted_bytes, quoted}
use Rattle.pickle_ops.specs.declared.form.Form.{Form}
use Rattle.pickle_ops.specs.declared.form.Form.TheVariants as form
use Rattle.pickle_ops.specs.declared.opcode.Opcode.{Opcode}
use Rattle.pickle_ops.specs.Table.{form_of, name_of}
use Rattle.pickle_ops.specs.Argument.{number_of, signed_of, long_of, payload, first_text, second_text}
use Rattle.pickle_ops.specs.Text.{float_text, long_text, two_texts, form_text, is_long, arg_text}
use Rattle.pickle_list.specs.declared.note.Note.{Note}
use Rattle.pickle_text.specs.Column.{left_aligned, newline}
use Rattle.pickle_list.specs.Line.{described, note_text}
use Rattle.session_laws.proofs.Lacks.{lacks, both_hold, first_holds, second_holds, lacks_decimal, lacks_signed, blank_no_digit, newline_no_digit, quote_no_digit}

-- ---- the front of a text

pub data Where : Type 0 where
  Outside : Where
  Within : Where
  Escaped : Where

unfoldable pub moved : Where → ℕ → Where
moved Outside x = if x == 39 then Within else Outside
moved Within x = if x == 92 then Escaped else if x == 39 then Outside else Within
moved Escaped x = Within

-- it ends where a test says so, of a byte outside quotes and what is behind it
unfoldable pub ends : (ℕ → List ℕ → Bool) → Where → ℕ → List ℕ → Bool
ends s Outside x xs = s x xs
ends s Within x xs = false
ends s Escaped x xs = false

unfoldable pub front : (ℕ → List ℕ → Bool) → Where → List ℕ → List ℕ
front s w [] = []
front s w (x ∷ xs) = if ends s w x xs then [] else x ∷ front s (moved w x) xs

-- no other byte than a blank and a newline ends it
pub record IsCalm (s : ℕ → List ℕ → Bool) : Type 0 where
  pub calm : (x : ℕ) (xs : List ℕ) → not (x == 32) ≡ true → not (x == 10) ≡ true → s x xs ≡ false

-- a text that is passed over from one place to another
unfoldable pub Passes : (ℕ → List ℕ → Bool) → Where → Where → List ℕ → Type 0
Passes s w v text = (rest : List ℕ) → front s w (text ++ rest) ≡ text ++ front s v rest

pub passes_on : (s : ℕ → List ℕ → Bool) (w v u : Where) (a b : List ℕ) → Passes s w v a → Passes s v u b → Passes s w u (a ++ b)
unfolding Passes
passes_on s w v u a b p q rest =
    ap (front s w) (append_assoc a b rest) ∙ p (b ++ rest) ∙ ap (λ (t : List ℕ). a ++ t) (q rest) ∙ sym (append_assoc a b (front s u rest))

pub passes_join : (s : ℕ → List ℕ → Bool) (w v u : Where) (a b : List ℕ) → Passes s w v a → Passes s v u b → Passes s w u (a ⧺ b)
unfolding ◌⧺◌
passes_join s w v u a b p q = passes_on s w v u a b p q

pub is_false : (b : Bool) → not b ≡ true → b ≡ false
is_false true h = absurd cc
is_false false h = refl

-- a word
pub passes_word : (s : ℕ → List ℕ → Bool) → IsCalm s → (t : List ℕ) → lacks 32 t ≡ true → lacks 10 t ≡ true → lacks 39 t ≡ true → Passes s Outside Outside t
unfolding Passes front ends moved
passes_word s q [] a b c rest = refl
passes_word s q (x ∷ t) a b c rest =
    rw (q.calm x (t ++ rest) (first_holds (not (x == 32)) (lacks 32 t) a) (first_holds (not (x == 10)) (lacks 10 t) b), is_false (x == 39) (first_holds (not (x == 39)) (lacks 39 t) c))
    (ap (λ (u : List ℕ). x ∷ u) (passes_word s q t (second_holds (not (x == 32)) (lacks 32 t) a) (second_holds (not (x == 10)) (lacks 10 t) b) (second_holds (not (x == 39)) (lacks 39 t) c) rest))

-- within quotes
passes_within : (s : ℕ → List ℕ → Bool) (t : List ℕ) → lacks 92 t ≡ true → lacks 39 t ≡ true → Passes s Within Within t
unfolding Passes front ends moved
passes_within s [] a b rest = refl
passes_within s (x ∷ t) a b rest =
    rw (is_false (x == 92) (first_holds (not (x == 92)) (lacks 92 t) a), is_false (x == 39) (first_holds (not (x == 39)) (lacks 39 t) b))
    (ap (λ (u : List ℕ). x ∷ u) (passes_within s t (second_holds (not (x == 92)) (lacks 92 t) a) (second_holds (not (x == 39)) (lacks 39 t) b) rest))

digit : (b : ℕ) (t : List ℕ) (n : ℕ) → not (0 == b) ≡ true → lacks b t ≡ true → not (slice_index t n == b) ≡ true
digit b [] n z p = z
digit b (x ∷ t) zero z p = first_holds (not (x == b)) (lacks b t) p
digit b (x ∷ t) (suc n) z p = digit b t n z (second_holds (not (x == b)) (lacks b t) p)

lacks_digits : (b : ℕ) (bytes : List ℕ) → not (0 == b) ≡ true → lacks b lower_digits ≡ true → lacks b (hexadecimal bytes) ≡ true
unfolding hexadecimal encode_with
lacks_digits b [] z p = refl
lacks_digits b (byte ∷ bytes) z p =
    both_hold (not (slice_index lower_digits (byte / 16) == b)) _ (digit b lower_digits (byte / 16) z p)
    (both_hold (not (slice_index lower_digits (byte % 16) == b)) _ (digit b lower_digits (byte % 16) z p) (lacks_digits b bytes z p))

escape_mark : (s : ℕ → List ℕ → Bool) → Passes s Within Within (92 ∷ 120 ∷ [])
unfolding Passes front ends moved
escape_mark s rest = refl

passes_escaped : (s : ℕ → List ℕ → Bool) (byte : ℕ) → Passes s Within Within (escaped byte)
unfolding escaped
passes_escaped s byte =
    passes_join s Within Within Within (codes "\\x") (hexadecimal (byte ∷ [])) (escape_mark s)
    (passes_within s (hexadecimal (byte ∷ [])) (lacks_digits 92 (byte ∷ []) refl refl) (lacks_digits 39 (byte ∷ []) refl refl))

byte_by : (s : ℕ → List ℕ → Bool) (byte : ℕ) (b c d : Bool) → (byte == 92) ≡ b → (byte == 39) ≡ c
    → Passes s Within Within (if b then codes "\\\\" else if c then codes "\\'" else if d then byte ∷ [] else escaped byte)
unfolding Passes front ends moved
byte_by s byte true c d e f = λ rest. refl
byte_by s byte false true d e f = λ rest. refl
byte_by s byte false false true e f = λ rest. rw (e, f) refl
byte_by s byte false false false e f = passes_escaped s byte

passes_byte : (s : ℕ → List ℕ → Bool) (byte : ℕ) → Passes s Within Within (quoted_byte byte)
unfolding quoted_byte
passes_byte s byte = byte_by s byte (byte == 92) (byte == 39) (nat_le 32 byte && nat_le byte 126) refl refl

passes_bytes : (s : ℕ → List ℕ → Bool) (q : List ℕ) → Passes s Within Within (quoted_bytes q)
unfolding quoted_bytes
passes_bytes s [] = passes_within s [] refl refl
passes_bytes s (byte ∷ q) = passes_on s Within Within Within (quoted_byte byte) (flat_map quoted_byte q) (passes_byte s byte) (passes_bytes s q)

opens : (s : ℕ → List ℕ → Bool) → IsCalm s → Passes s Outside Within (39 ∷ [])
unfolding Passes front ends moved
opens s q rest = rw (q.calm 39 rest refl refl) refl

closes : (s : ℕ → List ℕ → Bool) → Passes s Within Outside (39 ∷ [])
unfolding Passes front ends moved
closes s rest = refl

module _ (s : ℕ → List ℕ → Bool) (c : IsCalm s) where
  pub passes_quoted : (q : List ℕ) → Passes s Outside Outside (quoted q)
  unfolding quoted
  passes_quoted q =
      passes_join s Outside Within Outside (codes "'" ⧺ quoted_bytes q) (codes "'") (passes_join s Outside Within Within (codes "'") (quoted_bytes q) (opens s c) (passes_bytes s q)) (closes s)

  pub passes_decimal : (n : ℕ) → Passes s Outside Outside (decimal n)
  passes_decimal n = passes_word s c (decimal n) (lacks_decimal 32 n blank_no_digit) (lacks_decimal 10 n newline_no_digit) (lacks_decimal 39 n quote_no_digit)

  pub passes_signed : (z : ℤ) → Passes s Outside Outside (signed_decimal z)
  passes_signed z = passes_word s c (signed_decimal z) (lacks_signed 32 z refl blank_no_digit) (lacks_signed 10 z refl newline_no_digit) (lacks_signed 39 z refl quote_no_digit)

  passes_hexadecimal : (bytes : List ℕ) → Passes s Outside Outside (hexadecimal bytes)
  passes_hexadecimal bytes = passes_word s c (hexadecimal bytes) (lacks_digits 32 bytes refl refl) (lacks_digits 10 bytes refl refl) (lacks_digits 39 bytes refl refl)

  pub passes_float : (bytes : List ℕ) → Passes s Outside Outside (float_text bytes)
  unfolding float_text
  passes_float bytes = passes_join s Outside Outside Outside (codes "f8:") (hexadecimal bytes) (passes_word s c (codes "f8:") refl refl refl) (passes_hexadecimal bytes)

  long_by : (b : Bool) (bytes : List ℕ) → Passes s Outside Outside (if b then signed_decimal (long_of bytes) else codes "le:" ⧺ hexadecimal bytes)
  long_by true bytes = passes_signed (long_of bytes)
  long_by false bytes = passes_join s Outside Outside Outside (codes "le:") (hexadecimal bytes) (passes_word s c (codes "le:") refl refl refl) (passes_hexadecimal bytes)

  pub passes_long : (bytes : List ℕ) → Passes s Outside Outside (long_text bytes)
  unfolding long_text
  passes_long bytes = long_by (nat_le (length bytes) 16) bytes

-- ---- what is behind one of two texts ends it

unfoldable pub Ends : (ℕ → List ℕ → Bool) → List ℕ → Type 0
Ends s rest = front s Outside rest ≡ []

front_read : (s : ℕ → List ℕ → Bool) (a x : List ℕ) → Passes s Outside Outside a → Ends s x → front s Outside (a ++ x) ≡ a
unfolding Passes Ends
front_read s a x p e = p x ∙ ap (λ (t : List ℕ). a ++ t) e ∙ append-nil a

pub one_front : (s : ℕ → List ℕ → Bool) (a b x y : List ℕ) → Passes s Outside Outside a → Passes s Outside Outside b → Ends s x → Ends s y → a ++ x ≡ b ++ y → a ≡ b
one_front s a b x y p q e f same = sym (front_read s a x p e) ∙ ap (front s Outside) same ∙ front_read s b y q f

pub cancelled : (a x y : List ℕ) → a ++ x ≡ a ++ y → x ≡ y
cancelled [] x y e = e
cancelled (b ∷ a) x y e = cancelled a x y (ap (drop 1) e)

-- ---- the text of an argument ends at a blank or a newline

arg_stop : ℕ → List ℕ → Bool
arg_stop x xs = if x == 32 then true else x == 10

arg_stays : (x : ℕ) (xs : List ℕ) → not (x == 32) ≡ true → not (x == 10) ≡ true → arg_stop x xs ≡ false
unfolding arg_stop
arg_stays x xs h k = rw (is_false (x == 32) h, is_false (x == 10) k) refl

arg_calm : IsCalm arg_stop
arg_calm = record { calm = arg_stays }

Same : Option (List ℕ) → Option (List ℕ) → Type 0
Same u v = (a b x y : List ℕ) → u ≡ Some a → v ≡ Some b → Ends arg_stop x → Ends arg_stop y → a ++ x ≡ b ++ y → a ≡ b

some_is : (a b : List ℕ) → Some a ≡ Some b → a ≡ b
some_is a b e = cc

same_by : (s t : List ℕ) → Passes arg_stop Outside Outside s → Passes arg_stop Outside Outside t → Same (Some s) (Some t)
unfolding Same
same_by s t p q a b x y e f l r same =
    let first : s ≡ a = some_is s a e in
    let second : t ≡ b = some_is t b f in
    sym first ∙ one_front arg_stop s t x y p q l r (ap (λ (u : List ℕ). u ++ x) first ∙ same ∙ ap (λ (u : List ℕ). u ++ y) (sym second)) ∙ second

blank_ends : (rest : List ℕ) → Ends arg_stop (32 ∷ rest)
unfolding Ends front ends arg_stop
blank_ends rest = refl

two_is : (arg x : List ℕ) → two_texts arg ++ x ≡ quoted (first_text arg) ++ (32 ∷ (quoted (second_text arg) ++ x))
unfolding two_texts ◌⧺◌
two_is arg x =
    append_assoc (quoted (first_text arg) ++ (32 ∷ [])) (quoted (second_text arg)) x ∙ append_assoc (quoted (first_text arg)) (32 ∷ []) (quoted (second_text arg) ++ x)

joined_two : (a b : List ℕ) (c d : List ℕ) → quoted a ≡ quoted c → quoted b ≡ quoted d → (quoted a ⧺ codes " ") ⧺ quoted b ≡ (quoted c ⧺ codes " ") ⧺ quoted d
joined_two a b c d e f = ap₂ (λ (s t : List ℕ). (s ⧺ codes " ") ⧺ t) e f

two_same : (s t x y : List ℕ) → Ends arg_stop x → Ends arg_stop y → two_texts s ++ x ≡ two_texts t ++ y → two_texts s ≡ two_texts t
unfolding two_texts
two_same s t x y l r same =
    let whole : quoted (first_text s) ++ (32 ∷ (quoted (second_text s) ++ x)) ≡ quoted (first_text t) ++ (32 ∷ (quoted (second_text t) ++ y)) = sym (two_is s x) ∙ same ∙ two_is t y in
    let first : quoted (first_text s) ≡ quoted (first_text t) =
    one_front arg_stop (quoted (first_text s)) (quoted (first_text t)) (32 ∷ (quoted (second_text s) ++ x)) (32 ∷ (quoted (second_text t) ++ y)) (passes_quoted arg_stop arg_calm (first_text s))
    (passes_quoted arg_stop arg_calm (first_text t)) (blank_ends (quoted (second_text s) ++ x)) (blank_ends (quoted (second_text t) ++ y)) whole in
    let rest : 32 ∷ (quoted (second_text s) ++ x) ≡ 32 ∷ (quoted (second_text t) ++ y) =
    cancelled (quoted (first_text t)) (32 ∷ (quoted (second_text s) ++ x)) (32 ∷ (quoted (second_text t) ++ y))
    (ap (λ (u : List ℕ). u ++ (32 ∷ (quoted (second_text s) ++ x))) (sym first) ∙ whole) in
    let second : quoted (second_text s) ≡ quoted (second_text t) =
    one_front arg_stop (quoted (second_text s)) (quoted (second_text t)) x y (passes_quoted arg_stop arg_calm (second_text s)) (passes_quoted arg_stop arg_calm (second_text t)) l r (ap (drop 1) rest) in
    joined_two (first_text s) (second_text s) (first_text t) (second_text t) first second

-- ---- arguments

form_same : (f : Form) (s t : List ℕ) → Same (form_text f s) (form_text f t)
unfolding Same
form_same form.Empty s t = λ a b x y e f l r same. absurd cc
form_same form.Uint1 s t = same_by _ _ (passes_decimal arg_stop arg_calm (number_of form.Uint1 s)) (passes_decimal arg_stop arg_calm (number_of form.Uint1 t))
form_same form.Uint2 s t = same_by _ _ (passes_decimal arg_stop arg_calm (number_of form.Uint2 s)) (passes_decimal arg_stop arg_calm (number_of form.Uint2 t))
form_same form.Uint4 s t = same_by _ _ (passes_decimal arg_stop arg_calm (number_of form.Uint4 s)) (passes_decimal arg_stop arg_calm (number_of form.Uint4 t))
form_same form.Uint8 s t = same_by _ _ (passes_decimal arg_stop arg_calm (number_of form.Uint8 s)) (passes_decimal arg_stop arg_calm (number_of form.Uint8 t))
form_same form.Int4 s t = same_by _ _ (passes_signed arg_stop arg_calm (signed_of s)) (passes_signed arg_stop arg_calm (signed_of t))
form_same form.Float8 s t = same_by _ _ (passes_float arg_stop arg_calm (payload form.Float8 s)) (passes_float arg_stop arg_calm (payload form.Float8 t))
form_same form.Line s t = same_by _ _ (passes_quoted arg_stop arg_calm (payload form.Line s)) (passes_quoted arg_stop arg_calm (payload form.Line t))
form_same form.Quoted s t = same_by _ _ (passes_quoted arg_stop arg_calm (payload form.Quoted s)) (passes_quoted arg_stop arg_calm (payload form.Quoted t))
form_same form.Decimal s t = same_by _ _ (passes_decimal arg_stop arg_calm (number_of form.Decimal s)) (passes_decimal arg_stop arg_calm (number_of form.Decimal t))
form_same form.Two s t = λ a b x y e f l r same.
    let first : two_texts s ≡ a = some_is (two_texts s) a e in
    let second : two_texts t ≡ b = some_is (two_texts t) b f in
    sym first ∙ two_same s t x y l r (ap (λ (u : List ℕ). u ++ x) first ∙ same ∙ ap (λ (u : List ℕ). u ++ y) (sym second)) ∙ second
form_same form.Bytes1 s t = same_by _ _ (passes_quoted arg_stop arg_calm (payload form.Bytes1 s)) (passes_quoted arg_stop arg_calm (payload form.Bytes1 t))
form_same form.Bytes4 s t = same_by _ _ (passes_quoted arg_stop arg_calm (payload form.Bytes4 s)) (passes_quoted arg_stop arg_calm (payload form.Bytes4 t))
form_same form.Bytes8 s t = same_by _ _ (passes_quoted arg_stop arg_calm (payload form.Bytes8 s)) (passes_quoted arg_stop arg_calm (payload form.Bytes8 t))
form_same form.String4 s t = same_by _ _ (passes_quoted arg_stop arg_calm (payload form.String4 s)) (passes_quoted arg_stop arg_calm (payload form.String4 t))

arg_by : (b : Bool) (f : Form) (s t : List ℕ) → Same (if b then Some (long_text (payload f s)) else form_text f s) (if b then Some (long_text (payload f t)) else form_text f t)
arg_by true f s t = same_by _ _ (passes_long arg_stop arg_calm (payload f s)) (passes_long arg_stop arg_calm (payload f t))
arg_by false f s t = form_same f s t

arguments_same : (o : Opcode) (s t : List ℕ) → Same (arg_text (record { opcode = o; arg = s })) (arg_text (record { opcode = o; arg = t }))
unfolding arg_text
arguments_same o s t = arg_by (is_long o) (form_of o) s t

-- whether there is one

is_there : Option (List ℕ) → Bool
is_there None = false
is_there (Some a) = true

form_there : (f : Form) (s t : List ℕ) → is_there (form_text f s) ≡ is_there (form_text f t)
unfolding is_there
form_there form.Empty s t = refl
form_there form.Two s t = refl
form_there _ s t = refl

there_by : (b : Bool) (f : Form) (s t : List ℕ) → is_there (if b then Some (long_text (payload f s)) else form_text f s) ≡ is_there (if b then Some (long_text (payload f t)) else form_text f t)
unfolding is_there
there_by true f s t = refl
there_by false f s t = form_there f s t

there : (o : Opcode) (s t : List ℕ) → is_there (arg_text (record { opcode = o; arg = s })) ≡ is_there (arg_text (record { opcode = o; arg = t }))
unfolding arg_text
there o s t = there_by (is_long o) (form_of o) s t

-- ---- what is behind the columns

note_ends : (n : Option Note) → List ℕ
note_ends None = newline
note_ends (Some n) = 32 ∷ (note_text n ++ newline)

note_is_end : (n : Option Note) → Ends arg_stop (note_ends n)
unfolding Ends front ends arg_stop note_ends
note_is_end None = refl
note_is_end (Some n) = refl

described_is : (name a : List ℕ) (n : Option Note) → described name (Some a) n ++ newline ≡ left_aligned 10 name ++ (32 ∷ (a ++ note_ends n))
unfolding ◌⧺◌ note_ends
described_is name a None =
    append_assoc (left_aligned 10 name ++ (32 ∷ [])) a newline ∙ append_assoc (left_aligned 10 name) (32 ∷ []) (a ++ newline)
described_is name a (Some n) =
    append_assoc (((left_aligned 10 name ++ (32 ∷ [])) ++ a) ++ (32 ∷ [])) (note_text n) newline
    ∙ append_assoc ((left_aligned 10 name ++ (32 ∷ [])) ++ a) (32 ∷ []) (note_text n ++ newline)
    ∙ append_assoc (left_aligned 10 name ++ (32 ∷ [])) a (32 ∷ (note_text n ++ newline)) ∙ append_assoc (left_aligned 10 name) (32 ∷ []) (a ++ (32 ∷ (note_text n ++ newline)))

-- of two lines with one name the arguments are one, if each has one or none has
described_same : (name : List ℕ) (u v : Option (List ℕ)) (n m : Option Note) → Same u v → is_there u ≡ is_there v
    → described name u n ++ newline ≡ described name v m ++ newline → u ≡ v
unfolding Same is_there
described_same name None None n m so both e = refl
described_same name None (Some b) n m so both e = absurd cc
described_same name (Some a) None n m so both e = absurd cc
described_same name (Some a) (Some b) n m so both e =
    let whole : left_aligned 10 name ++ (32 ∷ (a ++ note_ends n)) ≡ left_aligned 10 name ++ (32 ∷ (b ++ note_ends m)) = sym (described_is name a n) ∙ e ∙ described_is name b m in
    let rest : a ++ note_ends n ≡ b ++ note_ends m = ap (drop 1) (cancelled (left_aligned 10 name) (32 ∷ (a ++ note_ends n)) (32 ∷ (b ++ note_ends m)) whole) in
    ap Some (so a b (note_ends n) (note_ends m) refl refl (note_is_end n) (note_is_end m) rest)

pub named_same : (opcode : Opcode) (s t : List ℕ) (n m : Option Note) → described (name_of opcode) (arg_text (record { opcode = opcode; arg = s })) n ++ newline
    ≡ described (name_of opcode) (arg_text (record { opcode = opcode; arg = t })) m ++ newline
    → arg_text (record { opcode = opcode; arg = s }) ≡ arg_text (record { opcode = opcode; arg = t })
named_same opcode s t n m e = described_same (name_of opcode) (arg_text (record { opcode = opcode; arg = s })) (arg_text (record { opcode = opcode; arg = t })) n m (arguments_same opcode s t) (there opcode s t) e
