-- Arguments are read back from their texts.
use Rattle.std.proofs.Common.{◌≡◌, inl, inr, ℕ, zero, suc, ◌+◌, ◌-◌, ◌^◌, ◌<◌, ◌≤◌, Bool, true, false, List, [], ◌∷◌, ◌++◌, length, take, drop, Option, Some, None, Ok, Err, refl, sym, ap, ap₂, subst, ◌∙◌, arith, append_assoc, length-append, take_at}
use Rattle.std.specs.Prelude.{◌&&◌, not, codes, decimal, if◌then◌else◌}
use Rattle.std.specs.Fmt.{signed_decimal}
use Rattle.std.specs.List.{list_all, prefix_len}
use Rattle.std.specs.Option.{option_map_or}
use Rattle.std.proofs.lemmas.Bool.{cases_lt, le-leb, leb-false, and_parts, ltb-true}
use Rattle.std.proofs.lemmas.List.{take_all, length-drop, take-append-drop}
use Rattle.hex.specs.Hex.{IsBytes}
use Rattle.byteorder.specs.Endian.{little_bytes, little_number}
use Rattle.pickle_io.specs.Text.{◌⧺◌, quoted}
use Rattle.pickle_ops.specs.declared.fault.FrontFault.{FrontFault}
use Rattle.pickle_ops.specs.declared.form.Form.{Form}
use Rattle.pickle_ops.specs.declared.form.Form.TheVariants as form
use Rattle.pickle_ops.specs.declared.opcode.Opcode.{Opcode}
use Rattle.pickle_ops.specs.declared.opcode.Opcode.TheVariants as op
use Rattle.pickle_ops.specs.Argument.{signed_of, payload, first_text, second_text}
use Rattle.pickle_ops.specs.Shape.{IsLine, IsArg, AreTwoLines, is_negative, is_decimal, value_of, decimal_of, text_of, value_fault}
use Rattle.pickle_ops.specs.Spelling.{IsSpelled}
use Rattle.pickle_ops.specs.Table.{form_of}
use Rattle.pickle_ops.specs.Text.{long_text, two_texts, form_text, is_long, arg_text}
use Rattle.pickle_ops.proofs.Lines.{texts_of}
use Rattle.opcode_assembler.specs.declared.fault.Reason.TheVariants as why
use Rattle.opcode_assembler.specs.Words.{is_blank, is_letter, trimmed, word, after_word}
use Rattle.opcode_assembler.specs.Quotes.{Read, unquoted, unprefixed, text_first}
use Rattle.opcode_assembler.specs.Numbers.{width_of, most_of, fixed_bytes, fixed_first, line_first, signed_word}
use Rattle.opcode_assembler.specs.Arguments.{and_then, with_rest, counted, lined, second_line, signed_first, long_first, form_first, is_numeral, has_text, numeral_first, spelled_first, argument_first}
use Rattle.opcode_assembler.proofs.Scanned.{quoted_is, unquoted_read}
use Rattle.assembler_laws.proofs.Canonical.{HasPlainDigits, IsShortest, IsCanonical}
use Rattle.assembler_laws.proofs.Spans.{Spans, word_is, after_is, gap_before}
use Rattle.assembler_laws.proofs.Decimals.{some_digits, all_digits, digits_letters, decimal_read}
use Rattle.assembler_laws.proofs.Littles.{back, back_first, below, drop_bytes, take_bytes}
use Rattle.assembler_laws.proofs.Fronts.{Head, at_head, then_head, spelled_there, quoted_head}
use Rattle.assembler_laws.proofs.Hexes.{float_head, float_read}
use Rattle.assembler_laws.proofs.Signs.{plain_word, minus_word, low_text, high_text, decimal_head, minus_head, minus_letters}
use Rattle.assembler_laws.proofs.Longs.{long_head, long_read}

-- what is behind an argument begins no further word of it
abbrev pub Ends : List ℕ → Type 0
Ends rest = prefix_len is_letter rest ≡ 0

abbrev pub AreBlanks : List ℕ → Type 0
AreBlanks gap = list_all is_blank gap ≡ true

-- ---- numbers

some_wide : (n : ℕ) → n < 2 ^ 64 → n < 10 ^ 64
some_wide n h = omega (arith, h)

decimal_word : (gap rest : List ℕ) (n : ℕ) → AreBlanks gap → Ends rest → n < 2 ^ 64 → word (gap ++ (decimal n ++ rest)) ≡ decimal n
decimal_word gap rest n g e h =
    let l = some_wide n h in
    let dark = digits_letters (decimal n) (all_digits n l) in
    word_is gap (decimal n) rest (gap_before gap (decimal n) rest g dark (some_digits n l)) (record { all = dark; stops = e })

decimal_after : (gap rest : List ℕ) (n : ℕ) → AreBlanks gap → Ends rest → n < 2 ^ 64 → after_word (gap ++ (decimal n ++ rest)) ≡ rest
decimal_after gap rest n g e h =
    let l = some_wide n h in
    let dark = digits_letters (decimal n) (all_digits n l) in
    after_is gap (decimal n) rest (gap_before gap (decimal n) rest g dark (some_digits n l)) (record { all = dark; stops = e })

fixed_read : (f : Form) (gap arg rest : List ℕ) → AreBlanks gap → Ends rest → IsBytes arg → length arg ≡ width_of f → most_of f + 1 ≡ 256 ^ width_of f → most_of f < 2 ^ 64
    → fixed_first f (gap ++ (decimal (little_number (width_of f) arg) ++ rest)) ≡ Ok (arg, rest)
fixed_read f gap arg rest g e h l m w =
    let n = little_number (width_of f) arg in
    let text = gap ++ (decimal n ++ rest) in
    let small = below (width_of f) arg h in
    let wide : n < 2 ^ 64 = omega (arith, small, m, w) in
    let fits : n ≤ most_of f = omega (arith, small, m) in
    let read : decimal_of (word text) ≡ Some n = ap decimal_of (decimal_word gap rest n g e wide) ∙ decimal_read n wide in
    let bytes : little_bytes (width_of f) n ≡ arg = back_first (width_of f) arg h (omega (arith, l)) ∙ take_all (width_of f) arg (omega (arith, l)) in
    ap (λ (o : Option ℕ). option_map_or (λ (k : ℕ). fixed_bytes f k (after_word text)) o (Err why.NoNumber)) read
    ∙ ap (fixed_bytes f n) (decimal_after gap rest n g e wide)
    ∙ ap (λ (b : Bool). if b then Ok (little_bytes (width_of f) n, rest) else Err why.NumberTooLarge) (le-leb n (most_of f) fits)
    ∙ ap (λ (x : List ℕ). Ok (x, rest)) bytes

-- ---- lines

line_back : (arg : List ℕ) → IsLine arg → text_of arg ++ 10 ∷ [] ≡ arg
line_back arg h =
    let t = h.0 in
    let e : length (t ++ 10 ∷ []) - 1 ≡ length t = omega (arith, length-append t (10 ∷ [])) in
    let text : text_of arg ≡ t = ap text_of h.2 ∙ ap (λ (n : ℕ). take n (t ++ 10 ∷ [])) e ∙ take_at t (10 ∷ []) (length t) refl in
    ap (λ (x : List ℕ). x ++ 10 ∷ []) text ∙ sym h.2

no_prefix : (q rest : List ℕ) → unprefixed (quoted q ++ rest) ≡ quoted q ++ rest
no_prefix q rest = ap unprefixed (quoted_is q rest) ∙ sym (quoted_is q rest)

text_there : (gap q rest : List ℕ) → AreBlanks gap → IsBytes q → text_first (gap ++ (quoted q ++ rest)) ≡ Ok (q, rest)
text_there gap q rest g h = ap (λ (x : List ℕ). unquoted (unprefixed x)) (at_head gap (quoted q) rest g (quoted_head q)) ∙ ap unquoted (no_prefix q rest) ∙ unquoted_read q rest h

-- and a text is in front
text_in_front : (gap q rest : List ℕ) → AreBlanks gap → has_text (trimmed (gap ++ (quoted q ++ rest))) ≡ true
text_in_front gap q rest g = ap has_text (at_head gap (quoted q) rest g (quoted_head q) ∙ quoted_is q rest)

text_bytes : (arg : List ℕ) → IsBytes arg → IsBytes (text_of arg)
text_bytes arg h = take_bytes (length arg - 1) arg h

lined_read : (gap arg rest : List ℕ) → AreBlanks gap → IsBytes arg → IsLine arg → and_then (text_first (gap ++ (quoted (text_of arg) ++ rest))) lined ≡ Ok (arg, rest)
lined_read gap arg rest g h l =
    ap (λ r. and_then r lined) (text_there gap (text_of arg) rest g (text_bytes arg h)) ∙ ap (λ (x : List ℕ). Ok (x, rest)) (line_back arg l)

-- two lines
first_bytes : (a b : List ℕ) → IsBytes (a ++ b) → IsBytes a
first_bytes [] b h i = omega arith
first_bytes (x ∷ a) b h zero = h 0
first_bytes (x ∷ a) b h (suc i) = first_bytes a b (λ k. h (suc k)) i

second_bytes : (a b : List ℕ) → IsBytes (a ++ b) → IsBytes b
second_bytes [] b h = h
second_bytes (x ∷ a) b h = second_bytes a b (λ k. h (suc k))

two_is : (arg rest : List ℕ) → two_texts arg ++ rest ≡ quoted (first_text arg) ++ (32 ∷ (quoted (second_text arg) ++ rest))
unfolding two_texts ◌⧺◌
two_is arg rest =
    append_assoc (quoted (first_text arg) ++ (32 ∷ [])) (quoted (second_text arg)) rest ∙ append_assoc (quoted (first_text arg)) (32 ∷ []) (quoted (second_text arg) ++ rest)

two_read : (gap arg rest : List ℕ) → AreBlanks gap → IsBytes arg → AreTwoLines arg → and_then (text_first (gap ++ (two_texts arg ++ rest))) second_line ≡ Ok (arg, rest)
two_read gap arg rest g h l =
    let t = texts_of arg l in
    let a = first_text arg in
    let b = second_text arg in
    let w : IsBytes ((a ++ 10 ∷ []) ++ (b ++ 10 ∷ [])) = subst IsBytes t.whole h in
    let p : IsBytes a = first_bytes a (10 ∷ []) (first_bytes (a ++ 10 ∷ []) (b ++ 10 ∷ []) w) in
    let q : IsBytes b = first_bytes b (10 ∷ []) (second_bytes (a ++ 10 ∷ []) (b ++ 10 ∷ []) w) in
    let joined : a ++ 10 ∷ (b ++ 10 ∷ []) ≡ arg = sym (append_assoc a (10 ∷ []) (b ++ 10 ∷ [])) ∙ sym t.whole in
    ap (λ (x : List ℕ). and_then (text_first (gap ++ x)) second_line) (two_is arg rest)
    ∙ ap (λ r. and_then r second_line) (text_there gap a (32 ∷ (quoted b ++ rest)) g p)
    ∙ ap (λ r. and_then r (λ second left. Ok (a ++ 10 ∷ (second ++ 10 ∷ []), left))) (text_there (32 ∷ []) b rest refl q)
    ∙ ap (λ (x : List ℕ). Ok (x, rest)) joined

-- digits
decimal_there : (gap arg rest : List ℕ) → AreBlanks gap → Ends rest → IsLine arg → value_of (text_of arg) < 2 ^ 64 → text_of arg ≡ decimal (value_of (text_of arg))
    → line_first (gap ++ (decimal (value_of (text_of arg)) ++ rest)) ≡ Ok (arg, rest)
decimal_there gap arg rest g e l small plain =
    let n = value_of (text_of arg) in
    let text = gap ++ (decimal n ++ rest) in
    let w = decimal_word gap rest n g e small in
    let read : decimal_of (word text) ≡ Some n = ap decimal_of w ∙ decimal_read n small in
    ap (λ (o : Option ℕ). option_map_or (λ (k : ℕ). Ok (word text ++ 10 ∷ [], after_word text)) o (Err why.NoNumber)) read
    ∙ ap₂ (λ (x y : List ℕ). Ok (x ++ 10 ∷ [], y)) (w ∙ sym plain) (decimal_after gap rest n g e small)
    ∙ ap (λ (x : List ℕ). Ok (x, rest)) (line_back arg l)

good_value : (text : List ℕ) (b : Bool) (f : FrontFault) → (if b then None else Some f) ≡ None → b ≡ true
good_value text true f e = refl
good_value text false f e = absurd cc

value_small : (text : List ℕ) → is_decimal text ≡ true → value_of text < 2 ^ 64
value_small text h = ltb-true (value_of text) (2 ^ 64) (and_parts _ _ h).1

-- ---- bytes behind their count

counted_read : (f : Form) (gap arg rest : List ℕ) → AreBlanks gap → IsBytes arg → width_of f ≤ length arg → length arg ≡ width_of f + little_number (width_of f) arg
    → little_number (width_of f) arg ≤ most_of f → and_then (text_first (gap ++ (quoted (drop (width_of f) arg) ++ rest))) (counted f) ≡ Ok (arg, rest)
counted_read f gap arg rest g h w l m =
    let n = little_number (width_of f) arg in
    let bytes = drop (width_of f) arg in
    let count : length bytes ≡ n = omega (arith, l, length-drop (width_of f) arg) in
    let whole : little_bytes (width_of f) (length bytes) ++ bytes ≡ arg =
    ap (λ (k : ℕ). little_bytes (width_of f) k ++ bytes) count ∙ ap (λ (x : List ℕ). x ++ bytes) (back_first (width_of f) arg h w) ∙ take-append-drop (width_of f) arg in
    ap (λ r. and_then r (counted f)) (text_there gap bytes rest g (drop_bytes (width_of f) arg h))
    ∙ ap (λ (b : Bool). if b then Ok (little_bytes (width_of f) (length bytes) ++ bytes, rest) else Err why.TextTooLong) (le-leb (length bytes) (most_of f) (omega (arith, count, m)))
    ∙ ap (λ (x : List ℕ). Ok (x, rest)) whole

by_count : (f : Form) (arg : List ℕ) → IsBytes arg → most_of f + 1 ≡ 256 ^ width_of f → little_number (width_of f) arg ≤ most_of f
by_count f arg h m = omega (arith, below (width_of f) arg h, m)

-- not below 0
counted_so : (arg : List ℕ) (b : Bool) → length arg ≡ 4 + (if b then 0 else little_number 4 arg) → b ≡ false → length arg ≡ 4 + little_number 4 arg
counted_so arg b l e = l ∙ ap (λ (c : Bool). 4 + (if c then 0 else little_number 4 arg)) e

not_negative : (b : Bool) (f : FrontFault) → (if b then Some f else None) ≡ None → b ≡ false
not_negative true f e = absurd cc
not_negative false f e = refl

below_half : (arg : List ℕ) → is_negative arg ≡ false → little_number 4 arg ≤ 2 ^ 31 - 1
below_half arg h = let l = leb-false (2 ^ 31) (little_number 4 arg) h in omega (arith, l)

-- ---- a number with a sign

signed_word_is : (gap t arg rest : List ℕ) → AreBlanks gap → Ends rest → list_all is_letter t ≡ true → 0 < length t → signed_word 4 t ≡ Ok arg
    → signed_first (gap ++ (t ++ rest)) ≡ Ok (arg, rest)
signed_word_is gap t arg rest g e dark some read =
    let text = gap ++ (t ++ rest) in
    let span : Spans is_letter t rest = record { all = dark; stops = e } in
    let gaps = gap_before gap t rest g dark some in
    ap (λ (w : List ℕ). with_rest (after_word text) (signed_word 4 w)) (word_is gap t rest gaps span)
    ∙ ap (λ (x : List ℕ). with_rest x (signed_word 4 t)) (after_is gap t rest gaps span) ∙ ap (with_rest rest) read

signed_read : (gap arg rest : List ℕ) → AreBlanks gap → Ends rest → IsBytes arg → length arg ≡ 4 → signed_first (gap ++ (signed_decimal (signed_of arg) ++ rest)) ≡ Ok (arg, rest)
signed_read gap arg rest g e h l =
    let n = little_number 4 arg in
    let small : n < 256 ^ 4 = below 4 arg h in
    let bytes : little_bytes 4 n ≡ arg = back_first 4 arg h (omega (arith, l)) ∙ take_all 4 arg (omega (arith, l)) in
    elim (cases_lt n (2 ^ 31)) [
      | inl low ↦
          let w : n < 10 ^ 64 = omega (arith, low) in
          ap (λ (t : List ℕ). signed_first (gap ++ (t ++ rest))) (low_text 4 n low)
          ∙ signed_word_is gap (decimal n) arg rest g e (digits_letters (decimal n) (all_digits n w)) (some_digits n w) (plain_word 4 n low (omega (arith, low)) ∙ ap Ok bytes)
      | inr high ↦
          let m = 2 ^ 32 - n in
          let some : 0 < m = omega (arith, small) in
          let half : m ≤ 2 ^ 31 = omega (arith, high) in
          let w : m < 10 ^ 64 = omega (arith, half) in
          let same : 2 ^ 32 - m ≡ n = omega (arith, small) in
          ap (λ (t : List ℕ). signed_first (gap ++ (t ++ rest))) (high_text 4 n high small)
          ∙ signed_word_is gap (45 ∷ decimal m) arg rest g e (minus_letters m w) (omega arith) (minus_word 4 m some half (omega (arith, half)) ∙ ap Ok (ap (little_bytes 4) same ∙ bytes))
    ]

-- ---- by the form

-- a text of an argument that is read back, and begins as one
pub record IsRead (read : List ℕ → Read) (arg text : List ℕ) : Type 0 where
  pub head : Head text
  pub back : (gap rest : List ℕ) → AreBlanks gap → Ends rest → read (gap ++ (text ++ rest)) ≡ Ok (arg, rest)

signed_head : (arg : List ℕ) → IsBytes arg → Head (signed_decimal (signed_of arg))
signed_head arg h =
    let n = little_number 4 arg in
    let small : n < 256 ^ 4 = below 4 arg h in
    elim (cases_lt n (2 ^ 31)) [
      | inl low ↦ subst Head (sym (low_text 4 n low)) (decimal_head n (omega (arith, low)))
      | inr high ↦ subst Head (sym (high_text 4 n high small)) (minus_head (decimal (2 ^ 32 - n)))
    ]

two_head : (arg : List ℕ) → Head (two_texts arg)
unfolding two_texts
two_head arg = then_head (quoted (first_text arg) ⧺ codes " ") (quoted (second_text arg)) (then_head (quoted (first_text arg)) (codes " ") (quoted_head (first_text arg)))

fixed_head : (w : ℕ) (arg : List ℕ) → IsBytes arg → 256 ^ w ≤ 2 ^ 64 → Head (decimal (little_number w arg))
fixed_head w arg h l = decimal_head (little_number w arg) (omega (arith, below w arg h, l))

same_text : (f : Form) (arg s t : List ℕ) → Some s ≡ Some t → IsRead (form_first f) arg s → IsRead (form_first f) arg t
same_text f arg s t e r = let same : s ≡ t = cc in subst (IsRead (form_first f) arg) same r

of_form : (f : Form) (arg t : List ℕ) → IsArg f arg → value_fault f arg ≡ None → IsBytes arg → HasPlainDigits f arg → form_text f arg ≡ Some t → IsRead (form_first f) arg t
of_form form.Empty arg t a v h p e = absurd cc
of_form form.Uint1 arg t a v h p e = same_text form.Uint1 arg _ t e (record { head = fixed_head 1 arg h (omega arith); back = λ gap rest g s. fixed_read form.Uint1 gap arg rest g s h a refl (omega arith) })
of_form form.Uint2 arg t a v h p e = same_text form.Uint2 arg _ t e (record { head = fixed_head 2 arg h (omega arith); back = λ gap rest g s. fixed_read form.Uint2 gap arg rest g s h a refl (omega arith) })
of_form form.Uint4 arg t a v h p e = same_text form.Uint4 arg _ t e (record { head = fixed_head 4 arg h (omega arith); back = λ gap rest g s. fixed_read form.Uint4 gap arg rest g s h a refl (omega arith) })
of_form form.Uint8 arg t a v h p e = same_text form.Uint8 arg _ t e (record { head = fixed_head 8 arg h (omega arith); back = λ gap rest g s. fixed_read form.Uint8 gap arg rest g s h a refl (omega arith) })
of_form form.Int4 arg t a v h p e = same_text form.Int4 arg _ t e (record { head = signed_head arg h; back = λ gap rest g s. signed_read gap arg rest g s h a })
of_form form.Float8 arg t a v h p e = same_text form.Float8 arg _ t e (record { head = float_head arg; back = λ gap rest g s. float_read gap arg rest g h (omega (arith, a)) s })
of_form form.Line arg t a v h p e = same_text form.Line arg _ t e (record { head = quoted_head (text_of arg); back = λ gap rest g s. lined_read gap arg rest g h a })
of_form form.Quoted arg t a v h p e = same_text form.Quoted arg _ t e (record { head = quoted_head (text_of arg); back = λ gap rest g s. lined_read gap arg rest g h a })
of_form form.Decimal arg t a v h p e =
    let small = value_small (text_of arg) (good_value (text_of arg) (is_decimal (text_of arg)) _ v) in
    same_text form.Decimal arg _ t e (record { head = decimal_head (value_of (text_of arg)) (some_wide _ small); back = λ gap rest g s. decimal_there gap arg rest g s a small p })
of_form form.Two arg t a v h p e = same_text form.Two arg _ t e (record { head = two_head arg; back = λ gap rest g s. two_read gap arg rest g h a })
of_form form.Bytes1 arg t a v h p e = same_text form.Bytes1 arg _ t e (record { head = quoted_head (drop 1 arg); back = λ gap rest g s. counted_read form.Bytes1 gap arg rest g h a.0 a.1 (by_count form.Bytes1 arg h refl) })
of_form form.Bytes4 arg t a v h p e = same_text form.Bytes4 arg _ t e (record { head = quoted_head (drop 4 arg); back = λ gap rest g s. counted_read form.Bytes4 gap arg rest g h a.0 a.1 (by_count form.Bytes4 arg h refl) })
of_form form.Bytes8 arg t a v h p e = same_text form.Bytes8 arg _ t e (record { head = quoted_head (drop 8 arg); back = λ gap rest g s. counted_read form.Bytes8 gap arg rest g h a.0 a.1 (by_count form.Bytes8 arg h refl) })
of_form form.String4 arg t a v h p e =
    let no = not_negative (is_negative arg) _ v in
    same_text form.String4 arg _ t e (record { head = quoted_head (drop 4 arg); back = λ gap rest g s. counted_read form.String4 gap arg rest g h a.0 (counted_so arg (is_negative arg) a.1 no) (below_half arg no) })

-- ---- by the opcode

-- the count of a long number, and its bytes
counted_long : (f : Form) (gap arg rest : List ℕ) → AreBlanks gap → Ends rest → IsBytes arg → IsShortest (drop (width_of f) arg) → width_of f ≤ length arg
    → length arg ≡ width_of f + little_number (width_of f) arg → little_number (width_of f) arg ≤ most_of f
    → and_then (long_first (gap ++ (long_text (drop (width_of f) arg) ++ rest))) (counted f) ≡ Ok (arg, rest)
counted_long f gap arg rest g s h c w l m =
    let n = little_number (width_of f) arg in
    let bytes = drop (width_of f) arg in
    let count : length bytes ≡ n = omega (arith, l, length-drop (width_of f) arg) in
    let whole : little_bytes (width_of f) (length bytes) ++ bytes ≡ arg =
    ap (λ (k : ℕ). little_bytes (width_of f) k ++ bytes) count ∙ ap (λ (x : List ℕ). x ++ bytes) (back_first (width_of f) arg h w) ∙ take-append-drop (width_of f) arg in
    ap (λ r. and_then r (counted f)) (long_read gap bytes rest g (drop_bytes (width_of f) arg h) c s)
    ∙ ap (λ (b : Bool). if b then Ok (little_bytes (width_of f) (length bytes) ++ bytes, rest) else Err why.TextTooLong) (le-leb (length bytes) (most_of f) (omega (arith, count, m)))
    ∙ ap (λ (x : List ℕ). Ok (x, rest)) whole

some_same : (s t : List ℕ) → Some s ≡ Some t → s ≡ t
some_same s t e = cc

long_by : (o : Opcode) (arg t : List ℕ) → Some (long_text (payload (form_of o) arg)) ≡ Some t → IsRead (argument_first o) arg (long_text (payload (form_of o) arg)) → IsRead (argument_first o) arg t
long_by o arg t e r = subst (IsRead (argument_first o) arg) (some_same _ t e) r

spelled_by : (o : Opcode) (arg t : List ℕ) (r : List ℕ → Read) → Head t → ((text : List ℕ) → spelled_first o text ≡ r text)
    → ((gap rest : List ℕ) → AreBlanks gap → Ends rest → r (gap ++ (t ++ rest)) ≡ Ok (arg, rest)) → IsRead (argument_first o) arg t
spelled_by o arg t r h same back = record {
  head = h;
  back = λ gap rest g s. spelled_there o gap t rest g h ∙ same (gap ++ (t ++ rest)) ∙ back gap rest g s;
}

form_case : (o : Opcode) (arg t : List ℕ) → is_long o ≡ false → is_numeral o ≡ false → IsArg (form_of o) arg → value_fault (form_of o) arg ≡ None → IsBytes arg → HasPlainDigits (form_of o) arg
    → form_text (form_of o) arg ≡ Some t → IsRead (argument_first o) arg t
form_case o arg t n m a v h p e =
    let r = of_form (form_of o) arg t a v h p e in
    spelled_by o arg t (form_first (form_of o)) r.head
    (λ text.
    ap (λ (b : Bool). if b then and_then (long_first text) (counted (form_of o)) else if is_numeral o && not (has_text (trimmed text)) then numeral_first text else form_first (form_of o) text) n
    ∙ ap (λ (b : Bool). if b && not (has_text (trimmed text)) then numeral_first text else form_first (form_of o) text) m) r.back

-- a line that may be a number, in quotes
line_case : (o : Opcode) (arg t : List ℕ) → IsLine arg → IsBytes arg → Some (quoted (text_of arg)) ≡ Some t
    → ((text : List ℕ) → has_text (trimmed text) ≡ true → spelled_first o text ≡ and_then (text_first text) lined) → IsRead (argument_first o) arg t
line_case o arg t l h e same =
    subst (IsRead (argument_first o) arg) (some_same (quoted (text_of arg)) t e) (record {
      head = quoted_head (text_of arg);
      back = λ gap rest g s.
          spelled_there o gap (quoted (text_of arg)) rest g (quoted_head (text_of arg))
          ∙ same (gap ++ (quoted (text_of arg) ++ rest)) (text_in_front gap (text_of arg) rest g) ∙ lined_read gap arg rest g h l;
    })

-- a text is in front, so no number is
not_bare : (text : List ℕ) → has_text (trimmed text) ≡ true → (if not (has_text (trimmed text)) then numeral_first text else and_then (text_first text) lined) ≡ and_then (text_first text) lined
not_bare text k = ap (λ (b : Bool). if not b then numeral_first text else and_then (text_first text) lined) k

pub argument_read : (o : Opcode) (arg t : List ℕ) → IsSpelled (record { opcode = o; arg = arg }) → IsBytes arg → IsCanonical (record { opcode = o; arg = arg })
    → arg_text (record { opcode = o; arg = arg }) ≡ Some t → IsRead (argument_first o) arg t
unfolding arg_text
argument_read op.Long1 arg t s h c e =
    long_by op.Long1 arg t e (spelled_by op.Long1 arg (long_text (drop 1 arg)) (λ text. and_then (long_first text) (counted form.Bytes1)) (long_head (drop 1 arg) (drop_bytes 1 arg h) c) (λ text. refl)
    (λ gap rest g k. counted_long form.Bytes1 gap arg rest g k h c s.arg.0 s.arg.1 (by_count form.Bytes1 arg h refl)))
argument_read op.Long4 arg t s h c e =
    let no = not_negative (is_negative arg) _ s.value in
    long_by op.Long4 arg t e (spelled_by op.Long4 arg (long_text (drop 4 arg)) (λ text. and_then (long_first text) (counted form.String4)) (long_head (drop 4 arg) (drop_bytes 4 arg h) c) (λ text. refl)
    (λ gap rest g k. counted_long form.String4 gap arg rest g k h c s.arg.0 (counted_so arg (is_negative arg) s.arg.1 no) (below_half arg no)))
argument_read op.Int arg t s h c e = line_case op.Int arg t s.arg h e not_bare
argument_read op.Long arg t s h c e = line_case op.Long arg t s.arg h e not_bare
argument_read op.Float arg t s h c e = line_case op.Float arg t s.arg h e not_bare
argument_read o arg t s h c e = form_case o arg t refl refl s.arg s.value h c e
