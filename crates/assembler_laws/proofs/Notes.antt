-- Notes and codes of a listing are passed over.
use Rattle.std.proofs.Common.{◌≡◌, ℕ, zero, suc, ◌+◌, ◌<◌, ◌==◌, Bool, true, false, List, [], ◌∷◌, ◌++◌, length, drop, Option, Some, None, refl, sym, ap, ◌∙◌, arith, length-append}
use Rattle.std.specs.Prelude.{not, nat_lt, codes, decimal, ◌/◌, ◌%◌, if◌then◌else◌}
use Rattle.std.specs.Fmt.{digits, digits_onto, digit_glyph}
use Rattle.std.specs.List.{list_all, position, position_or_len}
use Rattle.std.specs.Option.{option_map_or}
use Rattle.std.proofs.lemmas.Bool.{and_from, lt-ltb, ne_eqb, not_from_false}
use Rattle.std.proofs.lemmas.List.{drop_all}
use Rattle.hex.specs.Hex.{encode_with}
use Rattle.pickle_io.specs.Text.{◌⧺◌}
use Rattle.pickle_ops.specs.declared.opcode.Opcode.{Opcode}
use Rattle.pickle_ops.specs.declared.opcode.Opcode.TheVariants as op
use Rattle.pickle_ops.specs.Table.{code_of, name_of, opcode_named}
use Rattle.pickle_list.specs.declared.note.Note.{Note}
use Rattle.pickle_list.specs.declared.note.Note.TheVariants as note
use Rattle.pickle_list.specs.ListingColumn.{code_text}
use Rattle.pickle_list.specs.Line.{mark_text, as_text, note_text}
use Rattle.opcode_assembler.specs.Words.{is_blank, is_letter, is_close, is_end, is_over, unnoted, after_note}
use Rattle.assembler_laws.proofs.Spans.{span, trimmed_is, all_append}

-- ---- a test that all digits pass

either : (P : List ℕ → Type 0) (b : Bool) (x y : List ℕ) → P x → P y → P (if b then x else y)
either P true x y p q = p
either P false x y p q = q

onto : (p : ℕ → Bool) (k n : ℕ) (acc : List ℕ) → ((d : ℕ) → p (digit_glyph false d) ≡ true) → list_all p acc ≡ true → list_all p (digits_onto k 10 false n acc) ≡ true
onto p zero n acc h a = a
onto p (suc k) n acc h a =
    let more : list_all p (digit_glyph false (n % 10) ∷ acc) ≡ true = and_from (p (digit_glyph false (n % 10))) (list_all p acc) (h (n % 10)) a in
    either (λ (t : List ℕ). list_all p t ≡ true) (n / 10 == 0) (digit_glyph false (n % 10) ∷ acc) (digits_onto k 10 false (n / 10) (digit_glyph false (n % 10) ∷ acc))
    more (onto p k (n / 10) (digit_glyph false (n % 10) ∷ acc) h more)

all_glyphs : (p : ℕ → Bool) (n : ℕ) → ((d : ℕ) → p (digit_glyph false d) ≡ true) → list_all p (decimal n) ≡ true
unfolding digits
all_glyphs p n h = onto p 64 n [] h refl

abbrev pub goes_on : ℕ → Bool
goes_on byte = not (is_close byte)

glyph_by : (d : ℕ) (b : Bool) → goes_on (if b then 48 + d else (if false then 55 + d else 87 + d)) ≡ true
glyph_by d true = not_from_false (is_close (48 + d)) (ne_eqb (48 + d) 41 (λ e. omega (arith, e)))
glyph_by d false = not_from_false (is_close (87 + d)) (ne_eqb (87 + d) 41 (λ e. omega (arith, e)))

-- ---- a note

-- a parenthesis that ends a text is found there
closed : (front : List ℕ) → list_all goes_on front ≡ true → option_map_or (λ (n : ℕ). drop (n + 1) (front ++ 41 ∷ [])) (position is_close (front ++ 41 ∷ [])) (front ++ 41 ∷ []) ≡ []
closed front h =
    let text = front ++ 41 ∷ [] in
    let at : position_or_len is_close text ≡ length front = span (λ c. not (is_close c)) front (41 ∷ []) h refl in
    let size = length-append front (41 ∷ []) in
    let less : position_or_len is_close text < length text = omega (arith, at, size) in
    let found : position is_close text ≡ Some (position_or_len is_close text) = rw (lt-ltb (position_or_len is_close text) (length text) less) refl in
    ap (λ (o : Option ℕ). option_map_or (λ (n : ℕ). drop (n + 1) text) o text) found ∙ drop_all (position_or_len is_close text + 1) text (omega (arith, at, size))

-- the text of a note is in parentheses
pub record IsNote (t : List ℕ) : Type 0 where
  pub front : List ℕ
  pub is : t ≡ 40 ∷ (front ++ 41 ∷ [])
  pub inside : list_all goes_on front ≡ true

noted : (n : Note) → IsNote (note_text n)
unfolding mark_text as_text ◌⧺◌
noted (note.MarkAt offset) = record {
  front = codes "MARK at " ++ decimal offset;
  is = refl;
  inside = all_append goes_on (codes "MARK at ") (decimal offset) refl (all_glyphs goes_on offset (λ d. glyph_by d (nat_lt d 10)));
}
noted (note.As key) = record {
  front = codes "as " ++ decimal key;
  is = refl;
  inside = all_append goes_on (codes "as ") (decimal key) refl (all_glyphs goes_on key (λ d. glyph_by d (nat_lt d 10)));
}

note_over : (t : List ℕ) → IsNote t → unnoted t ≡ []
note_over t h = ap unnoted h.is ∙ closed (40 ∷ h.front) (and_from true (list_all goes_on h.front) refl h.inside)

-- what is behind an argument: nothing, or a note
pub over_note : (gap : List ℕ) (n : Note) → list_all is_blank gap ≡ true → is_over (after_note (gap ++ note_text n)) ≡ true
over_note gap n g =
    let h = noted n in
    let there = ap (λ (t : List ℕ). gap ++ t) h.is in
    ap (λ (t : List ℕ). is_over (after_note t)) there
    ∙ ap (λ (t : List ℕ). is_over (unnoted t)) (trimmed_is gap (40 ∷ (h.front ++ 41 ∷ [])) (record { all = g; stops = refl }))
    ∙ ap (λ (t : List ℕ). is_over (unnoted t)) (sym h.is) ∙ ap is_over (note_over (note_text n) h)

-- a note is no text of hexadecimal digits
pub note_first : (n : Note) → (more : List ℕ) × (note_text n ≡ 40 ∷ more)
note_first n = let h = noted n in (h.front ++ 41 ∷ [], h.is)

-- ---- codes

pub code_letters : (o : Opcode) → list_all is_letter (code_text (code_of o)) ≡ true
unfolding encode_with
code_letters op.Int = refl
code_letters _ = refl

pub code_some : (o : Opcode) → nat_lt 0 (length (code_text (code_of o))) ≡ true
unfolding encode_with
code_some op.Int = refl
code_some _ = refl

-- no code is a comment
pub code_starts : (o : Opcode) (more : List ℕ) → is_end (code_text (code_of o) ++ more) ≡ false
unfolding encode_with
code_starts op.Int more = refl
code_starts _ more = refl

-- no code is a name
pub code_nameless : (o : Opcode) → opcode_named (code_text (code_of o)) ≡ None
unfolding encode_with opcode_named
code_nameless op.Int = refl
code_nameless _ = refl

pub name_letters : (o : Opcode) → list_all is_letter (name_of o) ≡ true
name_letters op.Int = refl
name_letters _ = refl

pub name_some : (o : Opcode) → nat_lt 0 (length (name_of o)) ≡ true
name_some op.Int = refl
name_some _ = refl
