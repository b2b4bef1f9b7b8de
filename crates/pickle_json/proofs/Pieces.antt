-- The line of an item, piece by piece.
use Rattle.std.proofs.Common.{◌≡◌, ℕ, ◌≤◌, true, false, List, [], ◌++◌, length, Option, Some, None, Result, Ok, Err, refl, sym, ap, ◌∙◌, subst, append_assoc, arith}
use Rattle.std.specs.Prelude.{codes, nat_lt, decimal, if◌then◌else◌}
use Rattle.std.specs.List.{list_all}
use Rattle.std.proofs.lemmas.List.{append-nil}
use Rattle.std.specs.Str.{is_utf8}
use Rattle.std.proofs.lemmas.Str.{is_utf8-from_IsUtf8, IsUtf8-from_ascii}
use Rattle.json.specs.Json.{Json, number, string}
use Rattle.pickle_io.specs.Text.{◌⧺◌}
use Rattle.pickle_io.specs.Device.{Told, Wrote, Broke, Writes}
use Rattle.pickle_io.proofs.Devices.{Wrote-none, Wrote-trans, Broke-after, Broke-more, Wrote-then, Broke-next, Broke-longer, Writes-next, Wrote-there, Broke-there, Broke-first, Writes-there}
use Rattle.pickle_ops.specs.declared.opcode.Opcode.{Opcode}
use Rattle.pickle_ops.specs.declared.opcode.Opcode.TheVariants as op
use Rattle.pickle_ops.specs.Spelling.{Operation}
use Rattle.pickle_ops.specs.Table.{name_of}
use Rattle.json_lines.specs.Json.{is_plain, string_text, value_text}
use Rattle.json_lines.specs.Line.{Field, field, ◌⊕◌, whole, bytes_field, fields_text, begun, name_text, line}
use Rattle.json_lines.proofs.Strings.{plain_ascii, plain_string}
use Rattle.json_lines.proofs.Lines.{fields-none, fields-one, fields-append, line_is}
use Rattle.pickle_json.specs.declared.note.Note.{Note}
use Rattle.pickle_json.specs.ItemFields.{number_name, number_fields, payload_fields, arg_fields, note_fields, head_fields, rest_fields, item_fields, item_line, opcode_begun, opcode_named, argument_named, digits_named, marks_named, mark_named, memo_named}

-- ---- names of fields

argument_is : name_text (codes "argument") ≡ argument_named
unfolding name_text argument_named ◌⧺◌
argument_is = ap (λ (t : List ℕ). (codes "," ++ t) ++ codes ":") (plain_string (codes "argument") refl)

digits_is : name_text (codes "argument_digits") ≡ digits_named
unfolding name_text digits_named ◌⧺◌
digits_is = ap (λ (t : List ℕ). (codes "," ++ t) ++ codes ":") (plain_string (codes "argument_digits") refl)

marks_is : name_text (codes "marks") ≡ marks_named
unfolding name_text marks_named ◌⧺◌
marks_is = ap (λ (t : List ℕ). (codes "," ++ t) ++ codes ":") (plain_string (codes "marks") refl)

mark_is : name_text (codes "mark") ≡ mark_named
unfolding name_text mark_named ◌⧺◌
mark_is = ap (λ (t : List ℕ). (codes "," ++ t) ++ codes ":") (plain_string (codes "mark") refl)

memo_is : name_text (codes "memo") ≡ memo_named
unfolding name_text memo_named ◌⧺◌
memo_is = ap (λ (t : List ℕ). (codes "," ++ t) ++ codes ":") (plain_string (codes "memo") refl)

-- a field whose value is put behind this
named : (a b c : Told) (name before : List ℕ) (v : Json) → name_text name ≡ before → Wrote b c (value_text v) → Wrote a b before → Wrote a c (fields_text (field name v))
named a b c name before v is q p = rw (fields-one name v) (Wrote-trans a b c (name_text name) (value_text v) (rw is p) q)

-- ---- numbers

exact_number : (n : ℕ) → nat_lt n 9007199254740992 ≡ true → number_fields n ≡ field (codes "argument") (number (decimal n))
unfolding number_fields number_name whole
exact_number n h = rw h refl

digits_number : (n : ℕ) → nat_lt n 9007199254740992 ≡ false → number_fields n ≡ field (codes "argument_digits") (string (decimal n))
unfolding number_fields number_name whole
digits_number n h = rw h refl

pub Wrote-exact : (a b c : Told) (n : ℕ) → nat_lt n 9007199254740992 ≡ true → Wrote b c (decimal n) → Wrote a b argument_named → Wrote a c (fields_text (number_fields n))
Wrote-exact a b c n h q p = rw (exact_number n h) (named a b c (codes "argument") argument_named (number (decimal n)) argument_is q p)

pub Wrote-digits : (a b c : Told) (n : ℕ) → nat_lt n 9007199254740992 ≡ false → Wrote b c (value_text (string (decimal n))) → Wrote a b digits_named → Wrote a c (fields_text (number_fields n))
Wrote-digits a b c n h q p = rw (digits_number n h) (named a b c (codes "argument_digits") digits_named (string (decimal n)) digits_is q p)

pub ruleset number_steps = (Wrote-exact, Wrote-digits)

-- ---- texts

plain_payload : (bytes : List ℕ) → list_all is_plain bytes ≡ true → payload_fields bytes ≡ field (codes "argument") (string bytes)
unfolding payload_fields bytes_field
plain_payload bytes h = rw (is_utf8-from_IsUtf8 bytes (IsUtf8-from_ascii bytes (plain_ascii bytes h))) refl

pub Wrote-plain : (a b c : Told) (bytes : List ℕ) → list_all is_plain bytes ≡ true → Wrote b c (codes "\"" ⧺ bytes ⧺ codes "\"") → Wrote a b argument_named → Wrote a c (fields_text (payload_fields bytes))
Wrote-plain a b c bytes h q p = rw (plain_payload bytes h) (named a b c (codes "argument") argument_named (string bytes) argument_is (rw (plain_string bytes h) q) p)

pub ruleset plain_steps = (Wrote-plain)

-- ---- room behind a text

pub Wrote-room : (a b c : Told) (text : List ℕ) → Wrote b c [] → Wrote a b text → Wrote a c text
Wrote-room a b c text q p = subst (Wrote a c) (append-nil text) (Wrote-trans a b c text [] p q)

pub Broke-room : (a b c : Told) (text : List ℕ) → Broke b c [] → Wrote a b text → Broke a c text
Broke-room a b c text q p = subst (Broke a c) (append-nil text) (Broke-after a b c text [] p q)

pub Writes-room : {A E : Type 0} (a b c : Told) (r : Result A E) (text : List ℕ) → Writes b c r [] → Wrote a b text → Writes a c r text
Writes-room a b c (Ok x) text q p = Wrote-room a b c text q p
Writes-room a b c (Err e) text q p = Broke-room a b c text q p

pub ruleset roomy_steps = (Wrote-room, Broke-room, Writes-room)

-- ---- marks and notes

pub Wrote-marks : (a b c : Told) (n : ℕ) → Wrote b c (value_text (whole n)) → Wrote a b marks_named → Wrote a c (fields_text (field (codes "marks") (whole n)))
Wrote-marks a b c n q p = named a b c (codes "marks") marks_named (whole n) marks_is q p

pub ruleset marks_steps = (Wrote-marks)

pub Wrote-mark : (a b c : Told) (n : ℕ) → Wrote b c (value_text (whole n)) → Wrote a b mark_named → Wrote a c (fields_text (field (codes "mark") (whole n)))
Wrote-mark a b c n q p = named a b c (codes "mark") mark_named (whole n) mark_is q p

pub Wrote-memo : (a b c : Told) (n : ℕ) → Wrote b c (value_text (whole n)) → Wrote a b memo_named → Wrote a c (fields_text (field (codes "memo") (whole n)))
Wrote-memo a b c n q p = named a b c (codes "memo") memo_named (whole n) memo_is q p

pub Wrote-no_note : (a : Told) → Wrote a a (fields_text [])
Wrote-no_note a = rw fields-none (Wrote-none a)

pub ruleset note_steps = (Wrote-mark, Wrote-memo, Wrote-no_note)

-- ---- the head

name_plain : (o : Opcode) → list_all is_plain (name_of o) ≡ true
name_plain op.Stop = refl
name_plain _ = refl

pub name_short : (o : Opcode) → length (name_of o) ≤ 20
name_short op.Stop = omega arith
name_short _ = omega arith

begun_is : begun (codes "opcode") ++ name_text (codes "offset") ≡ opcode_begun
unfolding begun name_text opcode_begun ◌⧺◌
begun_is =
    ap (λ (t : List ℕ). (codes "{\"kind\":" ++ t) ++ name_text (codes "offset")) (plain_string (codes "opcode") refl)
    ∙ ap (λ (t : List ℕ). codes "{\"kind\":\"opcode\"" ++ ((codes "," ++ t) ++ codes ":")) (plain_string (codes "offset") refl)

opcode_is : name_text (codes "opcode") ++ codes "\"" ≡ opcode_named
unfolding name_text opcode_named ◌⧺◌
opcode_is = ap (λ (t : List ℕ). ((codes "," ++ t) ++ codes ":") ++ codes "\"") (plain_string (codes "opcode") refl)

name_text_is : (o : Opcode) → value_text (string (name_of o)) ≡ (codes "\"" ++ name_of o) ++ codes "\""
unfolding ◌⧺◌
name_text_is o = plain_string (name_of o) (name_plain o)

fields_are : (o : Operation) (offset : ℕ) → fields_text (head_fields o offset) ≡ (name_text (codes "offset") ++ value_text (whole offset)) ++ (name_text (codes "opcode") ++ value_text (string (name_of o.opcode)))
unfolding head_fields
fields_are o offset =
    fields-append (field (codes "offset") (whole offset)) (field (codes "opcode") (string (name_of o.opcode)))
    ∙ ap (λ (t : List ℕ). t ++ fields_text (field (codes "opcode") (string (name_of o.opcode)))) (fields-one (codes "offset") (whole offset))
    ∙ ap (λ (t : List ℕ). (name_text (codes "offset") ++ value_text (whole offset)) ++ t) (fields-one (codes "opcode") (string (name_of o.opcode)))

joined : (p n v m q x : List ℕ) → p ++ ((n ++ v) ++ (m ++ ((q ++ x) ++ q))) ≡ ((((p ++ n) ++ v) ++ (m ++ q)) ++ x) ++ q
joined p n v m q x =
    ap (λ (t : List ℕ). p ++ t) (append_assoc n v (m ++ ((q ++ x) ++ q)))
    ∙ sym (append_assoc p n (v ++ (m ++ ((q ++ x) ++ q))))
    ∙ sym (append_assoc (p ++ n) v (m ++ ((q ++ x) ++ q)))
    ∙ ap (λ (t : List ℕ). ((p ++ n) ++ v) ++ t) (sym (append_assoc m (q ++ x) q) ∙ ap (λ (t : List ℕ). t ++ q) (sym (append_assoc m q x)))
    ∙ sym (append_assoc ((p ++ n) ++ v) ((m ++ q) ++ x) q)
    ∙ ap (λ (t : List ℕ). t ++ q) (sym (append_assoc ((p ++ n) ++ v) (m ++ q) x))

head_is : (o : Operation) (offset : ℕ) → begun (codes "opcode") ⧺ fields_text (head_fields o offset) ≡ opcode_begun ⧺ value_text (whole offset) ⧺ opcode_named ⧺ name_of o.opcode ⧺ codes "\""
unfolding ◌⧺◌
head_is o offset =
    ap (λ (t : List ℕ). begun (codes "opcode") ++ t) (fields_are o offset
    ∙ ap (λ (t : List ℕ). (name_text (codes "offset") ++ value_text (whole offset)) ++ (name_text (codes "opcode") ++ t)) (name_text_is o.opcode))
    ∙ joined (begun (codes "opcode")) (name_text (codes "offset")) (value_text (whole offset)) (name_text (codes "opcode")) (codes "\"") (name_of o.opcode)
    ∙ ap (λ (t : List ℕ). (((t ++ value_text (whole offset)) ++ (name_text (codes "opcode") ++ codes "\"")) ++ name_of o.opcode) ++ codes "\"") begun_is
    ∙ ap (λ (t : List ℕ). (((opcode_begun ++ value_text (whole offset)) ++ t) ++ name_of o.opcode) ++ codes "\"") opcode_is

pub Wrote-head : (a b : Told) (o : Operation) (offset : ℕ) → Wrote a b (opcode_begun ⧺ value_text (whole offset) ⧺ opcode_named ⧺ name_of o.opcode ⧺ codes "\"")
    → Wrote a b (begun (codes "opcode") ⧺ fields_text (head_fields o offset))
Wrote-head a b o offset w = rw (head_is o offset) w

pub ruleset head_steps = (Wrote-head, Wrote-then)

-- ---- the line

abbrev pub rest_text : ℕ → Option Note → List ℕ
rest_text marks n = fields_text (field (codes "marks") (whole marks)) ⧺ fields_text (note_fields n) ⧺ codes "}\n"

pieces : (b h x m n e : List ℕ) → (b ++ (h ++ ((x ++ m) ++ n))) ++ e ≡ ((b ++ h) ++ x) ++ ((m ++ n) ++ e)
pieces b h x m n e =
    ap (λ (t : List ℕ). t ++ e) (sym (append_assoc b h ((x ++ m) ++ n)) ∙ ap (λ (t : List ℕ). (b ++ h) ++ t) (append_assoc x m n) ∙ sym (append_assoc (b ++ h) x (m ++ n)))
    ∙ append_assoc ((b ++ h) ++ x) (m ++ n) e

item_is : (o : Operation) (offset marks : ℕ) (n : Option Note)
    → item_line o offset marks n ≡ begun (codes "opcode") ⧺ fields_text (head_fields o offset) ⧺ fields_text (arg_fields o) ⧺ rest_text marks n
unfolding item_line rest_fields ◌⧺◌
item_is o offset marks n =
    line_is (codes "opcode") (item_fields o offset marks n)
    ∙ ap (λ (t : List ℕ). (begun (codes "opcode") ++ t) ++ codes "}\n") (fields-append (head_fields o offset) (rest_fields o marks n)
    ∙ ap (λ (t : List ℕ). fields_text (head_fields o offset) ++ t) (fields-append (arg_fields o ⊕ field (codes "marks") (whole marks)) (note_fields n)
    ∙ ap (λ (t : List ℕ). t ++ fields_text (note_fields n)) (fields-append (arg_fields o) (field (codes "marks") (whole marks)))))
    ∙ pieces (begun (codes "opcode")) (fields_text (head_fields o offset)) (fields_text (arg_fields o)) (fields_text (field (codes "marks") (whole marks))) (fields_text (note_fields n)) (codes "}\n")

pub Wrote-item : (a b : Told) (o : Operation) (offset marks : ℕ) (n : Option Note)
    → Wrote a b (begun (codes "opcode") ⧺ fields_text (head_fields o offset) ⧺ fields_text (arg_fields o) ⧺ rest_text marks n) → Wrote a b (item_line o offset marks n)
Wrote-item a b o offset marks n w = rw (item_is o offset marks n) w

pub Broke-item : (a b : Told) (o : Operation) (offset marks : ℕ) (n : Option Note)
    → Broke a b (begun (codes "opcode") ⧺ fields_text (head_fields o offset) ⧺ fields_text (arg_fields o) ⧺ rest_text marks n) → Broke a b (item_line o offset marks n)
Broke-item a b o offset marks n w = rw (item_is o offset marks n) w

pub ruleset item_steps = (Wrote-item, Broke-item, Wrote-then, Broke-next, Broke-longer, Wrote-there, Broke-there, Broke-first)
