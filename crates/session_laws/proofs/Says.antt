-- What the line of an item, and that of an object, says.
use Rattle.std.proofs.Common.{◌≡◌, ℕ, zero, suc, ◌+◌, ◌-◌, ◌*◌, ◌==◌, ◌&&◌, Bool, true, false, List, [], ◌∷◌, ◌++◌, length, drop, Option, None, Some, refl, sym, ap, subst, ◌∙◌, append_assoc}
use Rattle.std.proofs.lemmas.Fmt.{decimal_injective}
use Rattle.std.specs.Prelude.{not, nat_lt, decimal, replicate, if◌then◌else◌}
use Rattle.hex.specs.Hex.{encode_with}
use Rattle.pickle_io.specs.Text.{◌⧺◌}
use Rattle.pickle_io.specs.Device.{each}
use Rattle.pickle_ops.specs.declared.opcode.Opcode.{Opcode}
use Rattle.pickle_ops.specs.declared.opcode.Opcode.TheVariants as op
use Rattle.pickle_ops.specs.Object.{Object}
use Rattle.pickle_ops.specs.Spelling.{Operation}
use Rattle.pickle_ops.specs.Table.{code_of, name_of}
use Rattle.pickle_ops.specs.Text.{arg_text}
use Rattle.pickle_ops.proofs.TableLemmas.{one_code}
use Rattle.pickle_list.specs.declared.note.Note.{Note}
use Rattle.pickle_text.specs.Column.{blanks, left_aligned, right_aligned, newline}
use Rattle.pickle_list.specs.ListingColumn.{code_text}
use Rattle.pickle_list.specs.Line.{offset_column, code_column, described, named, named_in, note_text, item_line, item_line_in}
use Rattle.pickle_text.specs.Words.{id_text, kind_text}
use Rattle.object_texts.specs.ObjectText.{parts_text, change_text, object_text, object_line}
use Rattle.session_laws.specs.Lines.{ItemLineSays, ObjectLineSays}
use Rattle.session_laws.proofs.Arguments.{named_same}
use Rattle.session_laws.proofs.ObjectLines.{about, tail_of, about_same}
use Rattle.session_laws.proofs.Lacks.{lacks, first_holds, second_holds, lacks_right, lacks_decimal, colon_no_digit, blank_no_digit}

-- ---- columns

-- a text up to the first such byte, and what is behind it
before : ℕ → List ℕ → List ℕ
before b [] = []
before b (x ∷ xs) = if x == b then [] else x ∷ before b xs

behind : ℕ → List ℕ → List ℕ
behind b [] = []
behind b (x ∷ xs) = if x == b then xs else behind b xs

is_false : (b : Bool) → not b ≡ true → b ≡ false
is_false true h = absurd cc
is_false false h = refl

before_it : (b : ℕ) (xs ys : List ℕ) → (b == b) ≡ true → lacks b xs ≡ true → before b (xs ++ b ∷ ys) ≡ xs
unfolding before
before_it b [] ys e h = rw e refl
before_it b (x ∷ xs) ys e h =
    rw (is_false (x == b) (first_holds (not (x == b)) (lacks b xs) h)) (ap (λ (t : List ℕ). x ∷ t) (before_it b xs ys e (second_holds (not (x == b)) (lacks b xs) h)))

behind_it : (b : ℕ) (xs ys : List ℕ) → (b == b) ≡ true → lacks b xs ≡ true → behind b (xs ++ b ∷ ys) ≡ ys
unfolding behind
behind_it b [] ys e h = rw e refl
behind_it b (x ∷ xs) ys e h =
    rw (is_false (x == b) (first_holds (not (x == b)) (lacks b xs) h)) (behind_it b xs ys e (second_holds (not (x == b)) (lacks b xs) h))

-- a text without the blanks in front
stripped : List ℕ → List ℕ
stripped [] = []
stripped (x ∷ xs) = if x == 32 then stripped xs else x ∷ xs

stripped_blanks : (n : ℕ) (xs : List ℕ) → stripped (replicate n 32 ++ xs) ≡ stripped xs
unfolding stripped
stripped_blanks zero xs = refl
stripped_blanks (suc n) xs = stripped_blanks n xs

stripped_same : (xs : List ℕ) → lacks 32 xs ≡ true → stripped xs ≡ xs
unfolding stripped
stripped_same [] h = refl
stripped_same (x ∷ xs) h = rw (is_false (x == 32) (first_holds (not (x == 32)) (lacks 32 xs) h)) refl

-- ---- the offset

offset_read : (offset : ℕ) → stripped (offset_column offset) ≡ decimal offset
unfolding offset_column right_aligned ◌⧺◌
offset_read offset = stripped_blanks (5 - length (decimal offset)) (decimal offset) ∙ stripped_same (decimal offset) (lacks_decimal 32 offset blank_no_digit)

offset_lacks : (offset : ℕ) → lacks 58 (offset_column offset) ≡ true
unfolding offset_column
offset_lacks offset = lacks_right 58 5 (decimal offset) refl (lacks_decimal 58 offset colon_no_digit)

-- ---- the code

pub cells : Opcode → List ℕ
cells o = left_aligned 4 (code_text (code_of o))

digit : ℕ → ℕ
digit c = if nat_lt c 58 then c - 48 else c - 87

-- the code in the first four cells behind the colon and the blank
code_in : List ℕ → ℕ
code_in (blank ∷ a ∷ b ∷ c ∷ d ∷ more) = if a == 92 && b == 120 then 16 * digit c + digit d else a
code_in (blank ∷ a ∷ b ∷ c ∷ []) = 0
code_in (blank ∷ a ∷ b ∷ []) = 0
code_in (blank ∷ a ∷ []) = 0
code_in (blank ∷ []) = 0
code_in [] = 0

code_read : (o : Opcode) (more : List ℕ) → code_in (32 ∷ (cells o ++ more)) ≡ code_of o
unfolding code_in cells left_aligned ◌⧺◌ encode_with digit
code_read op.Int more = refl
code_read _ more = refl

-- ---- the line of an item

-- what is behind the code's column
pub rest_of : Operation → ℕ → Option Note → List ℕ
rest_of o marks n = 32 ∷ (blanks (4 * marks) ++ (named o n ++ newline))

pub parts : (o : Operation) (offset marks : ℕ) (n : Option Note) → item_line o offset marks n ≡ offset_column offset ++ 58 ∷ (32 ∷ (cells o.opcode ++ rest_of o marks n))
unfolding item_line_in code_column ◌⧺◌ cells rest_of
parts o offset marks n =
    let c : List ℕ = left_aligned 4 (code_text (code_of o.opcode)) in
    let b : List ℕ = blanks (4 * marks) in
    let first = append_assoc ((offset_column offset ++ (58 ∷ 32 ∷ (c ++ 32 ∷ []))) ++ b) (named o n) newline in
    let second = append_assoc (offset_column offset ++ (58 ∷ 32 ∷ (c ++ 32 ∷ []))) b (named o n ++ newline) in
    let third = append_assoc (offset_column offset) (58 ∷ 32 ∷ (c ++ 32 ∷ [])) (b ++ (named o n ++ newline)) in
    let inner = append_assoc c (32 ∷ []) (b ++ (named o n ++ newline)) in
    first ∙ second ∙ third ∙ ap (λ (t : List ℕ). offset_column offset ++ 58 ∷ 32 ∷ t) inner

offset_of_line : (o : Operation) (offset marks : ℕ) (n : Option Note) → stripped (before 58 (item_line o offset marks n)) ≡ decimal offset
offset_of_line o offset marks n =
    ap (λ (t : List ℕ). stripped (before 58 t)) (parts o offset marks n)
    ∙ ap stripped (before_it 58 (offset_column offset) (32 ∷ (cells o.opcode ++ rest_of o marks n)) refl (offset_lacks offset)) ∙ offset_read offset

code_of_line : (o : Operation) (offset marks : ℕ) (n : Option Note) → code_in (behind 58 (item_line o offset marks n)) ≡ code_of o.opcode
code_of_line o offset marks n =
    ap (λ (t : List ℕ). code_in (behind 58 t)) (parts o offset marks n)
    ∙ ap code_in (behind_it 58 (offset_column offset) (32 ∷ (cells o.opcode ++ rest_of o marks n)) refl (offset_lacks offset)) ∙ code_read o.opcode (rest_of o marks n)

-- ---- its argument

-- a text that begins with another byte than a blank
is_dark : List ℕ → Bool
is_dark [] = false
is_dark (x ∷ xs) = not (x == 32)

stripped_dark : (t more : List ℕ) → is_dark t ≡ true → stripped (t ++ more) ≡ t ++ more
unfolding stripped is_dark
stripped_dark [] more h = absurd cc
stripped_dark (x ∷ xs) more h = rw (is_false (x == 32) h) refl

dark_name : (o : Opcode) → is_dark (name_of o) ≡ true
unfolding is_dark
dark_name op.Int = refl
dark_name _ = refl

dark_front : (a b : List ℕ) → is_dark a ≡ true → is_dark (a ++ b) ≡ true
unfolding is_dark
dark_front [] b h = absurd cc
dark_front (x ∷ xs) b h = h

dark_described : (name : List ℕ) (a : Option (List ℕ)) (n : Option Note) → is_dark name ≡ true → is_dark (described name a n) ≡ true
unfolding ◌⧺◌ left_aligned
dark_described name None None h = h
dark_described name (Some a) None h = dark_front _ a (dark_front _ (32 ∷ []) (dark_front name _ h))
dark_described name None (Some n) h = dark_front _ (note_text n) (dark_front _ (32 ∷ []) (dark_front name _ h))
dark_described name (Some a) (Some n) h = dark_front _ (note_text n) (dark_front _ (32 ∷ []) (dark_front _ a (dark_front _ (32 ∷ []) (dark_front name _ h))))

-- what is behind the colon, without the blank, the code, the blank behind it, and the blanks for open marks
described_in : Opcode → List ℕ → List ℕ
described_in o line = stripped (drop (length (cells o)) (drop 1 (behind 58 line)))

drop_front : (a b : List ℕ) → drop (length a) (a ++ b) ≡ b
drop_front [] b = refl
drop_front (x ∷ a) b = drop_front a b

described_read : (o : Operation) (offset marks : ℕ) (n : Option Note) → described_in o.opcode (item_line o offset marks n) ≡ described (name_of o.opcode) (arg_text o) n ++ newline
unfolding described_in rest_of named_in stripped
described_read o offset marks n =
    let text : List ℕ = described (name_of o.opcode) (arg_text o) n in
    ap (λ (t : List ℕ). stripped (drop (length (cells o.opcode)) (drop 1 (behind 58 t)))) (parts o offset marks n)
    ∙ ap (λ (t : List ℕ). stripped (drop (length (cells o.opcode)) (drop 1 t))) (behind_it 58 (offset_column offset) (32 ∷ (cells o.opcode ++ rest_of o marks n)) refl (offset_lacks offset))
    ∙ ap stripped (drop_front (cells o.opcode) (rest_of o marks n)) ∙ stripped_blanks (4 * marks) (text ++ newline)
    ∙ stripped_dark text newline (dark_described (name_of o.opcode) (arg_text o) n (dark_name o.opcode))

argument_of_line : (opcode other : Opcode) (s t : List ℕ) (offset at marks deeper : ℕ) (n m : Option Note) → opcode ≡ other
    → item_line (record { opcode = opcode; arg = s }) offset marks n ≡ item_line (record { opcode = other; arg = t }) at deeper m
    → arg_text (record { opcode = opcode; arg = s }) ≡ arg_text (record { opcode = other; arg = t })
argument_of_line opcode other s t offset at marks deeper n m same e =
    subst (λ (q : Opcode). item_line (record { opcode = opcode; arg = s }) offset marks n ≡ item_line (record { opcode = q; arg = t }) at deeper m
    → arg_text (record { opcode = opcode; arg = s }) ≡ arg_text (record { opcode = q; arg = t })) same
    (λ f. named_same opcode s t n m (sym (described_read (record { opcode = opcode; arg = s }) offset marks n) ∙ ap (described_in opcode) f
    ∙ described_read (record { opcode = opcode; arg = t }) at deeper m)) e

pub item_says : ItemLineSays
item_says o p offset other marks deeper n m h k e =
    let same : o.opcode ≡ p.opcode = one_code o.opcode p.opcode (sym (code_of_line o offset marks n) ∙ ap (λ (t : List ℕ). code_in (behind 58 t)) e ∙ code_of_line p other deeper m) in (
      same,
      argument_of_line o.opcode p.opcode o.arg p.arg offset other marks deeper n m same e,
      decimal_injective offset other h k (sym (offset_of_line o offset marks n) ∙ ap (λ (t : List ℕ). stripped (before 58 t)) e ∙ offset_of_line p other deeper m),
    )

-- ---- the line of an object

object_parts : (id : ℕ) (o : Object) → object_line id o ≡ (35 ∷ decimal id) ++ 32 ∷ about o
unfolding object_line object_text id_text ◌⧺◌ about tail_of
object_parts id o =
    let i : List ℕ = 35 ∷ decimal id in
    append_assoc ((((i ++ 32 ∷ []) ++ kind_text o.kind) ++ parts_text o.parts)) (each change_text o.changes) newline
    ∙ append_assoc ((i ++ 32 ∷ []) ++ kind_text o.kind) (parts_text o.parts) (each change_text o.changes ++ newline)
    ∙ append_assoc (i ++ 32 ∷ []) (kind_text o.kind) (parts_text o.parts ++ (each change_text o.changes ++ newline))
    ∙ append_assoc i (32 ∷ []) (kind_text o.kind ++ (parts_text o.parts ++ (each change_text o.changes ++ newline)))

number_of_line : (id : ℕ) (o : Object) → before 32 (object_line id o) ≡ 35 ∷ decimal id
number_of_line id o = ap (before 32) (object_parts id o) ∙ before_it 32 (35 ∷ decimal id) (about o) refl (lacks_decimal 32 id blank_no_digit)

about_line : (id : ℕ) (o : Object) → behind 32 (object_line id o) ≡ about o
about_line id o = ap (behind 32) (object_parts id o) ∙ behind_it 32 (35 ∷ decimal id) (about o) refl (lacks_decimal 32 id blank_no_digit)

pub object_says : ObjectLineSays
object_says id other o p h k l m e =
    let same : 35 ∷ decimal id ≡ 35 ∷ decimal other = sym (number_of_line id o) ∙ ap (before 32) e ∙ number_of_line other p in
    let digits : decimal id ≡ decimal other = cc in
    let said = about_same o p l m (sym (about_line id o) ∙ ap (behind 32) e ∙ about_line other p) in
    (decimal_injective id other h k digits, said.0, said.1, said.2)
