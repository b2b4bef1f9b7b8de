-- A line that has bytes has no label.
use Rattle.std.proofs.Common.{◌≡◌, ℕ, zero, suc, ◌+◌, ◌-◌, ◌^◌, ◌==◌, ◌&&◌, ◌||◌, Bool, true, false, cond, List, [], ◌∷◌, ◌++◌, length, take, drop, Option, Some, None, Ok, Err, refl, sym, ap, subst, ◌∙◌, arith, inl, inr}
use Rattle.std.specs.Prelude.{codes, slice_index, is_some, nat_lt, nat_le, not, if◌then◌else◌, Result}
use Rattle.std.specs.List.{list_all, prefix_len, slice_split, fold}
use Rattle.std.specs.Option.{option_map, option_map_or}
use Rattle.std.specs.Str.{bytes_eq}
use Rattle.std.proofs.lemmas.Bool.{cases_Bool, and_parts}
use Rattle.std.proofs.lemmas.List.{take-append-drop}
use Rattle.std.proofs.lemmas.Slice.Eq.{bytes_eq-Decides}
use Rattle.pickle_ops.specs.declared.opcode.Opcode.{Opcode}
use Rattle.pickle_ops.specs.declared.opcode.Opcode.TheVariants as op
use Rattle.pickle_ops.specs.Shape.{is_digit, value_of, decimal_of}
use Rattle.pickle_ops.specs.Table.{opcode_named}
use Rattle.opcode_assembler.specs.declared.fault.Reason.{Reason}
use Rattle.opcode_assembler.specs.declared.fault.Reason.TheVariants as why
use Rattle.opcode_assembler.specs.Words.{is_letter, trimmed, word, after_word, behind, is_over, uncoloned, is_place, unnumbered}
use Rattle.opcode_assembler.specs.Numbers.{hex_first}
use Rattle.opcode_assembler.specs.Arguments.{argument_first}
use Rattle.opcode_assembler.specs.Assembly.{Piece, uncoded, unplaced, is_remark, is_gap, bytes_say, says_nothing, text_says, line_says, opcode_says, alone, operation, HasBytes, IsLine, AreLines, Assembles, is_newline}
use Rattle.assembly_labels.specs.Labels.{begins_label, goes_on_label, is_label, named, opcode_in, has_key, key_word, if_label, label_of, noted, noted_in, labels_of}
use Rattle.assembly_labels.specs.Labelled.{has_labels, lines_of, counting_line, digits_of, AssemblesLabelled}
use Rattle.assembly_labels.proofs.Lookups.{label_behind, label_in}
use Rattle.assembly_labels.specs.Laws.{LabelsAddNothing, BytesHaveNoLabels, BytesStay}

one_more : (n : ℕ) → 1 + n ≡ suc n
one_more n = omega arith

some_is : {A : Type 0} (a b : A) → Some a ≡ Some b → a ≡ b
some_is a b e = cc

-- ---- words of which the first byte is known

-- a text that does not begin with a blank begins with its word
first_letter : (c : ℕ) (text : List ℕ) → is_letter c ≡ true → take (prefix_len is_letter (c ∷ text)) (c ∷ text) ≡ c ∷ take (prefix_len is_letter text) text
first_letter c text h = rw h (ap (λ (n : ℕ). take n (c ∷ text)) (one_more (prefix_len is_letter text)))

-- no number begins with a byte that is no digit
no_and : (a b c : Bool) → b ≡ false → ((a && b) && c) ≡ false
no_and true b c h = rw h refl
no_and false b c h = refl

no_decimal : (c : ℕ) (text : List ℕ) → is_digit c ≡ false → decimal_of (c ∷ text) ≡ None
no_decimal c text h =
    ap (λ (b : Bool). if b then Some (value_of (c ∷ text)) else None)
    (no_and (nat_lt 0 (length (c ∷ text))) (list_all is_digit (c ∷ text)) (nat_lt (value_of (c ∷ text)) (2 ^ 64)) (rw h refl))

no_number : (c : ℕ) (text : List ℕ) (n : ℕ) → is_digit c ≡ false → decimal_of (take n (c ∷ text)) ≡ None
no_number c text zero h = refl
no_number c text (suc n) h = no_decimal c (take n text) h

no_place : (c : ℕ) (text : List ℕ) → is_digit c ≡ false → is_place (c ∷ text) ≡ false
no_place c text h = elim (cases_Bool (slice_index (c ∷ text) (length (c ∷ text) - 1) == 58)) [
  | inl hit ↦ rw hit (ap is_some (no_number c text (length (c ∷ text) - 1) h))
  | inr miss ↦ rw miss (ap is_some (no_decimal c text h))
]

-- ---- beginnings

behind_is : (front text rest : List ℕ) → behind front text ≡ Some rest → text ≡ front ++ rest
behind_is front text rest e = elim (cases_Bool (bytes_eq (take (length front) text) front)) [
  | inl hit ↦
      let same : take (length front) text ≡ front = (bytes_eq-Decides (take (length front) text) front).0 hit in
      let left : Some (drop (length front) text) ≡ Some rest = rw hit at e in
      sym (take-append-drop (length front) text) ∙ ap (λ (x : List ℕ). x ++ drop (length front) text) same ∙ ap (λ (x : List ℕ). front ++ x) (some_is _ _ left)
  | inr miss ↦ let no : None ≡ Some rest = rw miss at e in absurd cc
]

-- ---- lines that name no opcode

-- of a text whose word is no offset and no name
unnamed : (text : List ℕ) → is_place (word text) ≡ false → opcode_named (word text) ≡ None → label_in text ≡ None
unnamed text p n = elim (cases_Bool (is_over (unnumbered text))) [
  | inl hit ↦ rw hit refl
  | inr miss ↦ rw miss (rw p (rw n refl))
]

left_word : (rest : List ℕ) → word (codes "left: " ++ rest) ≡ codes "left:"
left_word rest = refl

highest_word : (rest : List ℕ) → word (codes "highest protocol among opcodes = " ++ rest) ≡ codes "highest"
highest_word rest = refl

no_left : opcode_named (codes "left:") ≡ None
unfolding opcode_named
no_left = refl

no_highest : opcode_named (codes "highest") ≡ None
unfolding opcode_named
no_highest = refl

no_raw : (text : List ℕ) → opcode_named (114 ∷ text) ≡ None
unfolding opcode_named
no_raw text = refl

of_left : (text rest : List ℕ) → behind (codes "left: ") text ≡ Some rest → label_in text ≡ None
of_left text rest e = rw (behind_is (codes "left: ") text rest e) (unnamed (codes "left: " ++ rest) refl no_left)

of_highest : (text rest : List ℕ) → behind (codes "highest protocol among opcodes = ") text ≡ Some rest → label_in text ≡ None
of_highest text rest e = rw (behind_is (codes "highest protocol among opcodes = ") text rest e) (unnamed (codes "highest protocol among opcodes = " ++ rest) refl no_highest)

of_raw : (text rest : List ℕ) → behind (codes "raw:") text ≡ Some rest → label_in text ≡ None
of_raw text rest e =
    let more : List ℕ = 97 ∷ 119 ∷ 58 ∷ rest in
    let first : word (114 ∷ more) ≡ 114 ∷ take (prefix_len is_letter more) more = first_letter 114 more refl in
    rw (behind_is (codes "raw:") text rest e)
    (unnamed (114 ∷ more) (ap is_place first ∙ no_place 114 (take (prefix_len is_letter more) more) refl) (ap opcode_named first ∙ no_raw (take (prefix_len is_letter more) more)))

-- ---- a label is no argument

-- it begins with a byte that is no digit
letter_first : (byte : ℕ) → begins_label byte ≡ true → is_digit byte ≡ false
letter_first byte h = grind arith

no_label_number : (w : List ℕ) → is_label w ≡ true → decimal_of w ≡ None
no_label_number [] h = absurd cc
no_label_number (c ∷ w) h = no_decimal c w (letter_first c (and_parts (begins_label c) (list_all goes_on_label w) h).0)

-- and has no colon
hex_word : (rest : List ℕ) → take (prefix_len is_letter (codes "hex:" ++ rest)) (codes "hex:" ++ rest) ≡ 104 ∷ 101 ∷ 120 ∷ 58 ∷ take (prefix_len is_letter rest) rest
hex_word rest =
    first_letter 104 (101 ∷ 120 ∷ 58 ∷ rest) refl ∙ ap (λ (x : List ℕ). 104 ∷ x) (first_letter 101 (120 ∷ 58 ∷ rest) refl
    ∙ ap (λ (x : List ℕ). 101 ∷ x) (first_letter 120 (58 ∷ rest) refl ∙ ap (λ (x : List ℕ). 120 ∷ x) (first_letter 58 rest refl)))

no_hex : (text : List ℕ) → is_label (word text) ≡ true → behind (codes "hex:") (trimmed text) ≡ None
no_hex text h = go (behind (codes "hex:") (trimmed text)) refl
  where
    go : (x : Option (List ℕ)) → behind (codes "hex:") (trimmed text) ≡ x → behind (codes "hex:") (trimmed text) ≡ None
    go None e = e
    go (Some rest) e =
        let same : trimmed text ≡ codes "hex:" ++ rest = behind_is (codes "hex:") (trimmed text) rest e in
        let w : word text ≡ 104 ∷ 101 ∷ 120 ∷ 58 ∷ take (prefix_len is_letter rest) rest = ap (λ (x : List ℕ). take (prefix_len is_letter x) x) same ∙ hex_word rest in
        let no : false ≡ true = ap is_label (sym w) ∙ h in
        absurd cc

-- the argument of such an opcode is none
no_argument : (o : Opcode) (text : List ℕ) → has_key o ≡ true → is_label (word text) ≡ true → argument_first o text ≡ Err why.NoNumber
no_argument op.Get text k h = rw (no_hex text h) (rw (no_label_number (word text) h) refl)
no_argument op.BinGet text k h = rw (no_hex text h) (rw (no_label_number (word text) h) refl)
no_argument op.LongBinGet text k h = rw (no_hex text h) (rw (no_label_number (word text) h) refl)
no_argument op.Put text k h = rw (no_hex text h) (rw (no_label_number (word text) h) refl)
no_argument op.BinPut text k h = rw (no_hex text h) (rw (no_label_number (word text) h) refl)
no_argument op.LongBinPut text k h = rw (no_hex text h) (rw (no_label_number (word text) h) refl)
no_argument _ text k h = absurd cc

-- ---- a line that has bytes

-- no bytes for a reason
no_bytes : (says : Result Piece Reason) (r : Reason) (bytes : List ℕ) → says ≡ Err r → HasBytes says bytes → ⊥
no_bytes says r bytes e h = rw e at h

-- the label of an opcode
named_label : (text bytes : List ℕ) → HasBytes (opcode_says text) bytes → label_behind (named text) ≡ None
named_label text bytes h = go (opcode_named (word text)) refl
  where
    under : (o : Opcode) → HasBytes (alone (operation o) (argument_first o (after_word text))) bytes → label_behind (Some (o, after_word text)) ≡ None
    under o k = elim (cases_Bool (has_key o)) [
      | inl has ↦ elim (cases_Bool (is_label (word (after_word text)))) [
        | inl is ↦ absurd (no_bytes (alone (operation o) (argument_first o (after_word text))) why.NoNumber bytes (ap (alone (operation o)) (no_argument o (after_word text) has is)) k)
        | inr isnt ↦ rw has (rw isnt refl)
      ]
      | inr lacks ↦ rw lacks refl
    ]

    go : (x : Option Opcode) → opcode_named (word text) ≡ x → label_behind (named text) ≡ None
    go None e = rw e refl
    go (Some o) e = rw e (under o (rw e at h))

-- of a line that names one
bytes_label : (text bytes : List ℕ) → HasBytes (bytes_say text) bytes → label_in text ≡ None
bytes_label text bytes h = go (behind (codes "raw:") text) refl
  where
    go : (x : Option (List ℕ)) → behind (codes "raw:") text ≡ x → label_in text ≡ None
    go (Some rest) e = of_raw text rest e
    go None e =
        let said : HasBytes (opcode_says (unplaced text)) bytes = rw e at h in
        elim (cases_Bool (is_over (unnumbered text))) [
          | inl hit ↦ rw hit refl
          | inr miss ↦ rw miss (named_label (unplaced text) bytes said)
        ]

remark_label : (text : List ℕ) → is_remark text ≡ true → label_in text ≡ None
remark_label text h = go (behind (codes "left: ") text) (behind (codes "highest protocol among opcodes = ") text) refl refl
  where
    go : (x y : Option (List ℕ)) → behind (codes "left: ") text ≡ x → behind (codes "highest protocol among opcodes = ") text ≡ y → label_in text ≡ None
    go (Some rest) y e f = of_left text rest e
    go None (Some rest) e f = of_highest text rest f
    go None None e f = let no : false ≡ true = rw (e, f) at h in absurd cc

text_label : (text bytes : List ℕ) → HasBytes (text_says text) bytes → label_in text ≡ None
text_label text bytes h = elim (cases_Bool (is_over (unnumbered text))) [
  | inl over ↦ rw over refl
  | inr more ↦ elim (cases_Bool (is_remark text)) [
    | inl remark ↦ remark_label text remark
    | inr said ↦ elim (cases_Bool (is_gap text)) [
      | inl gap ↦ let no = rw (more, said, gap) at h in absurd no
      | inr shown ↦ bytes_label text bytes (rw (more, said, shown) at h)
    ]
  ]
]

no_label : (line bytes : List ℕ) → IsLine line bytes → label_of line ≡ None
unfolding line_says opcode_in
no_label line bytes h = text_label (trimmed line) bytes h

-- ---- a text that has bytes

none_noted : (lines : List (List ℕ)) (bytes : List ℕ) → AreLines lines bytes → fold noted_in [] lines ≡ []
none_noted [] bytes h = refl
none_noted (line ∷ lines) bytes (front, rest, is, are, whole) = rw (no_label line front is) (none_noted lines rest are)

pub bytes_have_none : BytesHaveNoLabels
bytes_have_none text bytes h = ap (λ (names : List (List ℕ)). nat_lt 0 (length names)) (none_noted (lines_of text) bytes h)

pub nothing_added : LabelsAddNothing
nothing_added text bytes none h = rw none (refl, h)

pub stay : BytesStay
stay text bytes h = nothing_added text bytes (bytes_have_none text bytes h) h
