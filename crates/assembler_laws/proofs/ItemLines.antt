-- The line of an item is read back.
use Rattle.std.proofs.Common.{◌≡◌, ℕ, zero, suc, ◌-◌, ◌*◌, ◌^◌, ◌<◌, ◌&&◌, Bool, true, false, List, [], ◌∷◌, ◌++◌, length, take, Option, Some, None, Ok, Err, refl, sym, ap, subst, ◌∙◌, arith, append_assoc, append-nil, length-append, take_at}
use Rattle.std.specs.Prelude.{not, codes, decimal, is_some, slice_index, if◌then◌else◌}
use Rattle.std.specs.List.{list_all}
use Rattle.std.specs.Option.{option_map_or}
use Rattle.std.proofs.lemmas.Bool.{eq-eqb, or_from, ltb-true}
use Rattle.std.proofs.lemmas.List.{get_or_at, nil_from_length, same_from_push}
use Rattle.pickle_io.specs.Text.{◌⧺◌}
use Rattle.pickle_ops.specs.declared.form.Form.{Form}
use Rattle.pickle_ops.specs.declared.form.Form.TheVariants as form
use Rattle.pickle_ops.specs.declared.opcode.Opcode.{Opcode}
use Rattle.pickle_ops.specs.declared.opcode.Opcode.TheVariants as op
use Rattle.pickle_ops.specs.Shape.{IsArg, is_digit, decimal_of}
use Rattle.pickle_ops.specs.Spelling.{Operation, IsSpelled}
use Rattle.pickle_ops.specs.Table.{code_of, name_of, form_of, opcode_named}
use Rattle.pickle_ops.specs.Text.{form_text, is_long, long_text, arg_text}
use Rattle.pickle_ops.specs.Argument.{payload}
use Rattle.pickle_ops.proofs.TableLemmas.{name_found}
use Rattle.pickle_list.specs.declared.note.Note.{Note}
use Rattle.pickle_text.specs.Column.{blanks, left_aligned, right_aligned}
use Rattle.pickle_list.specs.ListingColumn.{code_text}
use Rattle.pickle_list.specs.ArgTexts.{ArgTexts}
use Rattle.pickle_list.specs.Line.{offset_column, code_column, described, named_in, note_text, item_line_in}
use Rattle.opcode_assembler.specs.declared.fault.Reason.TheVariants as why
use Rattle.opcode_assembler.specs.Words.{is_blank, is_letter, trimmed, word, after_word, behind, is_over, is_end, after_note, uncoloned, is_place, unnumbered}
use Rattle.opcode_assembler.specs.Numbers.{hex_first}
use Rattle.opcode_assembler.specs.Arguments.{long_first, counted, and_then, is_numeral, has_text, numeral_first, form_first, spelled_first, argument_first}
use Rattle.opcode_assembler.specs.Assembly.{Nothing, OneOpcode, Raw, alone, operation, opcode_says, uncoded, unplaced, is_remark, is_gap, bytes_say, text_says, line_says}
use Rattle.assembler_laws.proofs.Spans.{Spans, trimmed_is, word_is, after_is, gap_before, all_append, all_blanks}
use Rattle.assembler_laws.proofs.Decimals.{some_digits, all_digits, digits_letters, decimal_read}
use Rattle.assembler_laws.proofs.Fronts.{no_front, digits_apart}
use Rattle.assembler_laws.proofs.Arguments.{Ends, AreBlanks}
use Rattle.assembler_laws.proofs.Notes.{over_note, note_first, code_letters, code_some, code_starts, code_nameless, name_letters, name_some}

-- ---- an opcode without an argument

form_none : (f : Form) (arg : List ℕ) → form_text f arg ≡ None → f ≡ form.Empty
form_none form.Empty arg e = refl
form_none form.Uint1 arg e = absurd cc
form_none form.Uint2 arg e = absurd cc
form_none form.Uint4 arg e = absurd cc
form_none form.Uint8 arg e = absurd cc
form_none form.Int4 arg e = absurd cc
form_none form.Float8 arg e = absurd cc
form_none form.Line arg e = absurd cc
form_none form.Quoted arg e = absurd cc
form_none form.Decimal arg e = absurd cc
form_none form.Two arg e = absurd cc
form_none form.Bytes1 arg e = absurd cc
form_none form.Bytes4 arg e = absurd cc
form_none form.Bytes8 arg e = absurd cc
form_none form.String4 arg e = absurd cc

-- it is not long, and its form has no bytes
record HasNone (o : Opcode) (arg : List ℕ) : Type 0 where
  pub empty : form_of o ≡ form.Empty
  pub long : is_long o ≡ false

has_none : (o : Opcode) (arg : List ℕ) → arg_text (record { opcode = o; arg = arg }) ≡ None → HasNone o arg
unfolding arg_text
has_none o arg e = go (is_long o) refl e
  where
    go : (b : Bool) → is_long o ≡ b → (if b then Some (long_text (payload (form_of o) arg)) else form_text (form_of o) arg) ≡ None → HasNone o arg
    go true k f = absurd cc
    go false k f = record { empty = form_none (form_of o) arg f; long = k }

-- no opcode whose line is a number has no argument
no_numeral : (o : Opcode) → form_of o ≡ form.Empty → is_numeral o ≡ false
no_numeral op.Int e = absurd cc
no_numeral op.Long e = absurd cc
no_numeral op.Float e = absurd cc
no_numeral _ e = refl

nothing_read : (o : Opcode) (arg text : List ℕ) → HasNone o arg → behind (codes "hex:") (trimmed text) ≡ None → argument_first o text ≡ Ok ([], text)
nothing_read o arg text h e =
    ap (λ x. option_map_or hex_first x (spelled_first o text)) e
    ∙ ap (λ (b : Bool). if b then and_then (long_first text) (counted (form_of o)) else if is_numeral o && not (has_text (trimmed text)) then numeral_first text else form_first (form_of o) text) h.long
    ∙ ap (λ (b : Bool). if b && not (has_text (trimmed text)) then numeral_first text else form_first (form_of o) text) (no_numeral o h.empty)
    ∙ ap (λ (f : Form). form_first f text) h.empty

no_bytes : (o : Opcode) (arg : List ℕ) → HasNone o arg → IsSpelled (record { opcode = o; arg = arg }) → arg ≡ []
no_bytes o arg h s = nil_from_length arg (subst (λ (f : Form). IsArg f arg) h.empty s.arg)

-- ---- what is behind the name

-- a text whose argument is read from its front, and nothing else follows
record IsWhole (o : Opcode) (arg text : List ℕ) : Type 0 where
  pub rest : List ℕ
  pub read : argument_first o text ≡ Ok (arg, rest)
  pub over : is_over (after_note rest) ≡ true

whole_says : (o : Opcode) (arg text : List ℕ) → IsWhole o arg text → alone (operation o) (argument_first o text) ≡ Ok (operation o arg)
whole_says o arg text h =
    ap (alone (operation o)) h.read ∙ ap (λ (b : Bool). if b then Ok (operation o arg) else Err why.ExtraText) h.over

-- the name, and what is behind it
record IsNamed (o : Opcode) (arg text : List ℕ) : Type 0 where
  pub tail : List ℕ
  pub is : text ≡ name_of o ++ tail
  pub ends : Ends tail
  pub whole : IsWhole o arg tail

-- blanks that fill the column of names, and one more
filling : List ℕ → List ℕ
filling name = blanks (10 - length name) ++ 32 ∷ []

filling_blank : (name : List ℕ) → AreBlanks (filling name)
unfolding filling
filling_blank name = all_append is_blank (blanks (10 - length name)) (32 ∷ []) (all_blanks (10 - length name)) refl

filling_ends : (name more : List ℕ) → Ends (filling name ++ more)
unfolding filling
filling_ends name more = go (10 - length name)
  where
    go : (n : ℕ) → Ends ((blanks n ++ 32 ∷ []) ++ more)
    go zero = refl
    go (suc n) = refl

filled_is : (name text : List ℕ) → (left_aligned 10 name ⧺ codes " ") ⧺ text ≡ name ++ (filling name ++ text)
unfolding left_aligned filling ◌⧺◌
filled_is name text =
    append_assoc (name ++ blanks (10 - length name)) (32 ∷ []) text ∙ append_assoc name (blanks (10 - length name)) (32 ∷ text)
    ∙ ap (λ (t : List ℕ). name ++ t) (sym (append_assoc (blanks (10 - length name)) (32 ∷ []) text))

joined : (a b : List ℕ) → (a ⧺ codes " ") ⧺ b ≡ a ++ (32 ∷ b)
unfolding ◌⧺◌
joined a b = append_assoc a (32 ∷ []) b

noted_is : (name text note : List ℕ) → (((left_aligned 10 name ⧺ codes " ") ⧺ text) ⧺ codes " ") ⧺ note ≡ name ++ (filling name ++ (text ++ (32 ∷ note)))
noted_is name text note =
    joined ((left_aligned 10 name ⧺ codes " ") ⧺ text) note ∙ ap (λ (t : List ℕ). t ++ (32 ∷ note)) (filled_is name text)
    ∙ append_assoc name (filling name ++ text) (32 ∷ note) ∙ ap (λ (t : List ℕ). name ++ t) (append_assoc (filling name) text (32 ∷ note))

-- a text of an argument that is read back, whatever stands before it and behind it
abbrev pub IsReadAt : Opcode → List ℕ → List ℕ → Type 0
IsReadAt o arg t = (gap rest : List ℕ) → AreBlanks gap → Ends rest → argument_first o (gap ++ (t ++ rest)) ≡ Ok (arg, rest)

-- an argument without a note
with_text : (o : Opcode) (arg t : List ℕ) → IsReadAt o arg t → IsNamed o arg ((left_aligned 10 (name_of o) ⧺ codes " ") ⧺ t)
with_text o arg t r =
    let name = name_of o in
    record {
      tail = filling name ++ (t ++ []);
      is = filled_is name t ∙ ap (λ (x : List ℕ). name ++ (filling name ++ x)) (sym (append-nil t));
      ends = filling_ends name (t ++ []);
      whole = record { rest = []; read = r (filling name) [] (filling_blank name) refl; over = refl };
    }

-- an argument and a note
with_both : (o : Opcode) (arg t : List ℕ) (n : Note) → IsReadAt o arg t → IsNamed o arg ((((left_aligned 10 (name_of o) ⧺ codes " ") ⧺ t) ⧺ codes " ") ⧺ note_text n)
with_both o arg t n r =
    let name = name_of o in
    record {
      tail = filling name ++ (t ++ (32 ∷ note_text n));
      is = noted_is name t (note_text n);
      ends = filling_ends name (t ++ (32 ∷ note_text n));
      whole = record { rest = 32 ∷ note_text n; read = r (filling name) (32 ∷ note_text n) (filling_blank name) refl; over = over_note (32 ∷ []) n refl };
    }

-- a note alone
with_note : (o : Opcode) (arg : List ℕ) (n : Note) → HasNone o arg → arg ≡ [] → IsNamed o arg ((left_aligned 10 (name_of o) ⧺ codes " ") ⧺ note_text n)
with_note o arg n h e =
    let name = name_of o in
    let tail = filling name ++ note_text n in
    let first = note_first n in
    let there = ap (λ (t : List ℕ). trimmed (filling name ++ t)) first.1 ∙ trimmed_is (filling name) (40 ∷ first.0) (record { all = filling_blank name; stops = refl }) in
    let apart : behind (codes "hex:") (trimmed tail) ≡ None = ap (behind (codes "hex:")) there ∙ no_front 104 40 (101 ∷ 120 ∷ 58 ∷ []) first.0 refl in
    record {
      tail = tail;
      is = filled_is name (note_text n);
      ends = filling_ends name (note_text n);
      whole = record { rest = tail; read = nothing_read o arg tail h apart ∙ ap (λ (x : List ℕ). Ok (x, tail)) (sym e); over = over_note (filling name) n (filling_blank name) };
    }

-- nothing
with_nothing : (o : Opcode) (arg : List ℕ) → HasNone o arg → arg ≡ [] → IsNamed o arg (name_of o)
with_nothing o arg h e = record {
  tail = [];
  is = sym (append-nil (name_of o));
  ends = refl;
  whole = record { rest = []; read = nothing_read o arg [] h refl ∙ ap (λ (x : List ℕ). Ok (x, [])) (sym e); over = refl };
}

-- the texts of an argument are read back
abbrev pub IsReadIn : ArgTexts → Operation → Type 0
IsReadIn args op = (t : List ℕ) → args.text op ≡ Some t → IsReadAt op.opcode op.arg t

no_text : (x : Option (List ℕ)) → is_some x ≡ false → x ≡ None
no_text None e = refl
no_text (Some t) e = absurd cc

none_too : (args : ArgTexts) (op : Operation) → args.text op ≡ None → arg_text op ≡ None
none_too args op e = no_text (arg_text op) (sym (args.there op) ∙ ap (λ (x : Option (List ℕ)). is_some x) e)

named_by : (args : ArgTexts) (o : Opcode) (arg : List ℕ) (x : Option (List ℕ)) (n : Option Note) → args.text (record { opcode = o; arg = arg }) ≡ x
    → IsSpelled (record { opcode = o; arg = arg }) → IsReadIn args (record { opcode = o; arg = arg }) → IsNamed o arg (described (name_of o) x n)
named_by args o arg None None e s r = let k = has_none o arg (none_too args (record { opcode = o; arg = arg }) e) in with_nothing o arg k (no_bytes o arg k s)
named_by args o arg (Some t) None e s r = with_text o arg t (r t e)
named_by args o arg None (Some n) e s r = let k = has_none o arg (none_too args (record { opcode = o; arg = arg }) e) in with_note o arg n k (no_bytes o arg k s)
named_by args o arg (Some t) (Some n) e s r = with_both o arg t n (r t e)

-- ---- the name

opcode_there : (o : Opcode) (arg gap text : List ℕ) → AreBlanks gap → IsNamed o arg text → opcode_says (gap ++ text) ≡ Ok (operation o arg)
opcode_there o arg gap text g h =
    let name = name_of o in
    let whole = gap ++ (name ++ h.tail) in
    let some = ltb-true 0 (length name) (name_some o) in
    let gaps = gap_before gap name h.tail g (name_letters o) some in
    let span : Spans is_letter name h.tail = record { all = name_letters o; stops = h.ends } in
    ap (λ (t : List ℕ). opcode_says (gap ++ t)) h.is
    ∙ ap (λ (w : List ℕ). option_map_or (λ (p : Opcode). alone (operation p) (argument_first p (after_word whole))) (opcode_named w) (Err why.UnknownName)) (word_is gap name h.tail gaps span)
    ∙ ap (λ (x : Option Opcode). option_map_or (λ (p : Opcode). alone (operation p) (argument_first p (after_word whole))) x (Err why.UnknownName)) (sym (name_found o name refl))
    ∙ ap (λ (t : List ℕ). alone (operation o) (argument_first o t)) (after_is gap name h.tail gaps span)
    ∙ whole_says o arg h.tail h.whole

-- ---- the offset and the code

-- the line of an item without its newline
unfoldable pub body : ArgTexts → Operation → ℕ → ℕ → Option Note → List ℕ
body args o offset marks n = blanks (5 - length (decimal offset)) ++ ((decimal offset ++ 58 ∷ []) ++ (32 ∷ (code_text (code_of o.opcode) ++ ((blanks (4 - length (code_text (code_of o.opcode))) ++ (32 ∷ blanks (4 * marks))) ++ named_in args o n))))

pub parts : (args : ArgTexts) (o : Operation) (offset marks : ℕ) (n : Option Note) → item_line_in args o offset marks n ≡ body args o offset marks n ++ 10 ∷ []
unfolding item_line_in offset_column right_aligned code_column left_aligned ◌⧺◌ body
parts args o offset marks n =
    let a = blanks (5 - length (decimal offset)) in
    let d = decimal offset in
    let c = code_text (code_of o.opcode) in
    let p = blanks (4 - length c) in
    let b = blanks (4 * marks) in
    let t = named_in args o n in
    simp append_assoc

-- the word of an offset, with its colon
colon_word : ℕ → List ℕ
colon_word offset = decimal offset ++ 58 ∷ []

place_there : (offset : ℕ) → offset < 2 ^ 64 → is_place (colon_word offset) ≡ true
unfolding colon_word
place_there offset h =
    let d = decimal offset in
    let w = d ++ 58 ∷ [] in
    let e : length w - 1 ≡ length d = omega (arith, length-append d (58 ∷ [])) in
    let last : slice_index w (length w - 1) ≡ 58 = ap (slice_index w) e ∙ get_or_at d 58 [] 0 (length d) refl in
    let cut : uncoloned w ≡ d =
    ap (λ (b : Bool). if b then take (length w - 1) w else w) (eq-eqb (slice_index w (length w - 1)) 58 last) ∙ ap (λ (k : ℕ). take k w) e ∙ take_at d (58 ∷ []) (length d) refl in
    ap (λ (x : List ℕ). is_some (decimal_of x)) cut ∙ ap (λ (x : Option ℕ). is_some x) (decimal_read offset h)

colon_letters : (offset : ℕ) → offset < 2 ^ 64 → list_all is_letter (colon_word offset) ≡ true
unfolding colon_word
colon_letters offset h = all_append is_letter (decimal offset) (58 ∷ []) (digits_letters (decimal offset) (all_digits offset (omega (arith, h)))) refl

colon_some : (offset : ℕ) → 0 < length (colon_word offset)
unfolding colon_word
colon_some offset = omega (arith, length-append (decimal offset) (58 ∷ []))

-- a line of an item begins as no other line
other_line : (offset c : ℕ) (front rest : List ℕ) → offset < 2 ^ 64 → is_digit c ≡ false → behind (c ∷ front) (colon_word offset ++ rest) ≡ None
unfolding colon_word
other_line offset c front rest h k =
    let l : offset < 10 ^ 64 = omega (arith, h) in
    ap (behind (c ∷ front)) (append_assoc (decimal offset) (58 ∷ []) rest) ∙ digits_apart c front (decimal offset) (58 ∷ rest) (all_digits offset l) (some_digits offset l) k

none_is : (x : Option (List ℕ)) → x ≡ None → is_some x ≡ false
none_is x e = ap (λ (y : Option (List ℕ)). is_some y) e

-- what is behind the offset: the code, and the name with what is behind it
placed_says : (o : Opcode) (arg gap text : List ℕ) (offset : ℕ) → offset < 2 ^ 64 → AreBlanks gap → Ends (gap ++ text) → IsNamed o arg text
    → text_says (colon_word offset ++ (32 ∷ (code_text (code_of o) ++ (gap ++ text)))) ≡ Ok (operation o arg)
placed_says o arg gap text offset h g e k =
    let w = colon_word offset in
    let code = code_text (code_of o) in
    let rest = 32 ∷ (code ++ (gap ++ text)) in
    let line = w ++ rest in
    let gaps = gap_before [] w rest refl (colon_letters offset h) (colon_some offset) in
    let span : Spans is_letter w rest = record { all = colon_letters offset h; stops = refl } in
    let first : is_place (word line) ≡ true = ap is_place (word_is [] w rest gaps span) ∙ place_there offset h in
    let after : after_word line ≡ rest = after_is [] w rest gaps span in
    let some = ltb-true 0 (length code) (code_some o) in
    let code_gaps = gap_before (32 ∷ []) code (gap ++ text) refl (code_letters o) some in
    let code_span : Spans is_letter code (gap ++ text) = record { all = code_letters o; stops = e } in
    let numbered : unnumbered line ≡ rest = ap (λ (b : Bool). if b then after_word line else line) first ∙ after in
    let not_over : is_over (unnumbered line) ≡ false =
    ap is_over numbered ∙ ap is_end (trimmed_is (32 ∷ []) (code ++ (gap ++ text)) code_gaps) ∙ code_starts o (gap ++ text) in
    let no_remark : is_remark line ≡ false =
    or_from _ _ (none_is _ (other_line offset 108 (codes "eft: ") rest h refl)) (none_is _ (other_line offset 104 (codes "ighest protocol among opcodes = ") rest h refl)) in
    let no_gap : is_gap line ≡ false =
    or_from _ _ (or_from _ _ (none_is _ (other_line offset 107 (codes "ept: ") rest h refl)) (none_is _ (other_line offset 102 (codes "ault: ") rest h refl)))
    (none_is _ (other_line offset 114 (codes "efused: ") rest h refl)) in
    let no_raw : behind (codes "raw:") line ≡ None = other_line offset 114 (codes "aw:") rest h refl in
    let bare : unplaced line ≡ gap ++ text =
    ap (λ (b : Bool). if b then uncoded (after_word line) else line) first ∙ ap uncoded after
    ∙ ap (λ (x : Option Opcode). if is_some x then rest else after_word rest) (ap opcode_named (word_is (32 ∷ []) code (gap ++ text) code_gaps code_span) ∙ code_nameless o)
    ∙ after_is (32 ∷ []) code (gap ++ text) code_gaps code_span in
    ap (λ (b : Bool). if b then Ok Nothing else if is_gap line then Err why.LeftOut else bytes_say line) (or_from _ _ not_over no_remark)
    ∙ ap (λ (b : Bool). if b then Err why.LeftOut else bytes_say line) no_gap
    ∙ ap (λ (x : Option (List ℕ)). option_map_or (λ (y : List ℕ). alone Raw (hex_first y)) x (opcode_says (unplaced line))) no_raw
    ∙ ap opcode_says bare ∙ opcode_there o arg gap text g k

says : (line : List ℕ) → line_says line ≡ text_says (trimmed line)
unfolding line_says
says line = refl

-- blanks behind the code, and those for open marks
indent : Opcode → ℕ → List ℕ
indent o marks = blanks (4 - length (code_text (code_of o))) ++ (32 ∷ blanks (4 * marks))

indent_blank : (o : Opcode) (marks : ℕ) → AreBlanks (indent o marks)
unfolding indent
indent_blank o marks =
    all_append is_blank (blanks (4 - length (code_text (code_of o)))) (32 ∷ blanks (4 * marks)) (all_blanks (4 - length (code_text (code_of o)))) (all_blanks (4 * marks))

indent_ends : (o : Opcode) (marks : ℕ) (text : List ℕ) → Ends (indent o marks ++ text)
unfolding indent
indent_ends o marks text = go (4 - length (code_text (code_of o)))
  where
    go : (n : ℕ) → Ends ((blanks n ++ (32 ∷ blanks (4 * marks))) ++ text)
    go zero = refl
    go (suc n) = refl

body_says : (args : ArgTexts) (op : Operation) (offset marks : ℕ) (n : Option Note) → IsSpelled op → IsReadIn args op → offset < 2 ^ 64 → line_says (body args op offset marks n) ≡ Ok (OneOpcode op)
unfolding body named_in indent colon_word
body_says args op offset marks n s r k =
    let text = described (name_of op.opcode) (args.text op) n in
    let gaps = gap_before (blanks (5 - length (decimal offset))) (colon_word offset) (32 ∷ (code_text (code_of op.opcode) ++ (indent op.opcode marks ++ text))) (all_blanks (5 - length (decimal offset)))
    (colon_letters offset k) (colon_some offset) in
    says (body args op offset marks n)
    ∙ ap text_says (trimmed_is (blanks (5 - length (decimal offset))) (colon_word offset ++ (32 ∷ (code_text (code_of op.opcode) ++ (indent op.opcode marks ++ text)))) gaps)
    ∙ placed_says op.opcode op.arg (indent op.opcode marks) text offset k (indent_blank op.opcode marks) (indent_ends op.opcode marks text)
    (named_by args op.opcode op.arg (args.text op) n refl s r)

pub item_says : (args : ArgTexts) (op : Operation) (offset marks : ℕ) (n : Option Note) (line : List ℕ) → IsSpelled op → IsReadIn args op → offset < 2 ^ 64
    → item_line_in args op offset marks n ≡ line ++ 10 ∷ [] → line_says line ≡ Ok (OneOpcode op)
item_says args op offset marks n line s r k e =
    let same = same_from_push line (body args op offset marks n) 10 10 (sym e ∙ parts args op offset marks n) in
    ap line_says same.0 ∙ body_says args op offset marks n s r k
