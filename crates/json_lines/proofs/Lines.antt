-- Lines by their fields.
use Rattle.std.proofs.Common.{◌≡◌, ℕ, List, [], ◌∷◌, ◌++◌, length, Result, Ok, Err, arith, refl, sym, ap, ◌∙◌, append_assoc, subst}
use Rattle.std.specs.Prelude.{codes, map}
use Rattle.std.proofs.lemmas.List.{append-nil}
use Rattle.std.specs.Str.{IsUtf8, is_utf8}
use Rattle.std.proofs.lemmas.Bool.{false_from_ne_true}
use Rattle.std.proofs.lemmas.Str.{is_utf8-from_IsUtf8, IsUtf8-from_is_utf8}
use Rattle.json.specs.Json.{Json, string}
use Rattle.json.specs.Value.{items_of}
use Rattle.pickle_io.specs.Text.{◌⧺◌}
use Rattle.pickle_io.specs.Device.{Told, Wrote, Broke, Writes, each}
use Rattle.pickle_io.proofs.Devices.{Wrote-none, Wrote-trans, Broke-after, Broke-more, Wrote-then, Broke-next, Broke-longer, Writes-next, Wrote-there, Broke-there, Broke-first, Writes-there, each-nil, each-cons}
use Rattle.json_lines.specs.Json.{value_text, string_text, more_items, more_members}
use Rattle.json_lines.specs.Line.{Field, field, ◌⊕◌, members_of, whole, hex, bytes_field, numbers_json, numbers_text, next_number, fields_text, line, begun, name_text, line_object}
use Rattle.json_lines.proofs.Strings.{plain_string}

-- ---- fields

pub fields-none : fields_text [] ≡ []
unfolding fields_text
fields-none = refl

pub fields-one : (name : List ℕ) (v : Json) → fields_text (field name v) ≡ name_text name ++ value_text v
unfolding fields_text field name_text ◌⧺◌
fields-one name v = append-nil (((codes "," ++ string_text name) ++ codes ":") ++ value_text v)

pub fields-append : (xs ys : List Field) → fields_text (xs ⊕ ys) ≡ fields_text xs ++ fields_text ys
unfolding fields_text ◌⊕◌ ◌⧺◌
fields-append [] ys = refl
fields-append (x ∷ xs) ys =
    let front : List ℕ = ((codes "," ++ string_text x.name) ++ codes ":") ++ value_text x.value in
    ap (λ (t : List ℕ). front ++ t) (fields-append xs ys) ∙ sym (append_assoc front (more_members (members_of xs)) (more_members (members_of ys)))

-- a field, whose value is written after its name
pub Wrote-field : (a b c : Told) (name : List ℕ) (v : Json) → Wrote b c (value_text v) → Wrote a b (name_text name) → Wrote a c (fields_text (field name v))
Wrote-field a b c name v q p = rw (fields-one name v) (Wrote-trans a b c (name_text name) (value_text v) p q)

pub Broke-field : (a b c : Told) (name : List ℕ) (v : Json) → Broke b c (value_text v) → Wrote a b (name_text name) → Broke a c (fields_text (field name v))
Broke-field a b c name v q p = rw (fields-one name v) (Broke-after a b c (name_text name) (value_text v) p q)

pub Broke-name : (a b : Told) (name : List ℕ) (v : Json) → Broke a b (name_text name) → Broke a b (fields_text (field name v))
Broke-name a b name v p = rw (fields-one name v) (Broke-more a b (name_text name) (value_text v) p)

pub Writes-field : {A E : Type 0} (a b c : Told) (r : Result A E) (name : List ℕ) (v : Json) → Writes b c r (value_text v) → Wrote a b (name_text name) → Writes a c r (fields_text (field name v))
Writes-field a b c (Ok x) name v q p = Wrote-field a b c name v q p
Writes-field a b c (Err e) name v q p = Broke-field a b c name v q p

-- bytes, by what they are
bytes_text : (name hex_name bytes : List ℕ) → IsUtf8 bytes → bytes_field name hex_name bytes ≡ field name (string bytes)
unfolding bytes_field
bytes_text name hex_name bytes u = rw (is_utf8-from_IsUtf8 bytes u) refl

bytes_hex : (name hex_name bytes : List ℕ) → ¬ (IsUtf8 bytes) → bytes_field name hex_name bytes ≡ field hex_name (hex bytes)
unfolding bytes_field
bytes_hex name hex_name bytes n = rw (false_from_ne_true (is_utf8 bytes) (λ e. n (IsUtf8-from_is_utf8 bytes e))) refl

pub Writes-text : {A E : Type 0} (a b : Told) (r : Result A E) (name hex_name bytes text : List ℕ) → (text ≡ bytes) × IsUtf8 bytes
    → Writes a b r (fields_text (field name (string text))) → Writes a b r (fields_text (bytes_field name hex_name bytes))
Writes-text a b r name hex_name bytes text h w = rw (bytes_text name hex_name bytes h.1, ← h.0) w

pub Writes-hex : {A E : Type 0} (a b : Told) (r : Result A E) (name hex_name bytes : List ℕ) → ¬ (IsUtf8 bytes)
    → Writes a b r (fields_text (field hex_name (hex bytes))) → Writes a b r (fields_text (bytes_field name hex_name bytes))
Writes-hex a b r name hex_name bytes n w = rw (bytes_hex name hex_name bytes n) w

pub ruleset bytes_steps = (Writes-text, Writes-hex)

pub ruleset field_steps = (Wrote-none, Wrote-field, Broke-field, Broke-name, Writes-field)

-- ---- arrays of numbers

more_numbers : (ns : List ℕ) → more_items (items_of (map whole ns)) ≡ each next_number ns
unfolding next_number ◌⧺◌
more_numbers [] = sym (each-nil next_number)
more_numbers (n ∷ ns) = ap (λ (t : List ℕ). (codes "," ++ value_text (whole n)) ++ t) (more_numbers ns) ∙ sym (each-cons next_number n ns)

pub no_numbers : (a : Told) (ns : List ℕ) → length ns ≡ 0 → Wrote a a (numbers_text ns)
unfolding numbers_text
no_numbers a [] e = Wrote-none a
no_numbers a (n ∷ ns) e = absurd (omega (arith, e))

some_numbers : (n : ℕ) (ns : List ℕ) → value_text (whole n) ⧺ each next_number ns ≡ numbers_text (n ∷ ns)
unfolding numbers_text ◌⧺◌
some_numbers n ns = ap (λ (t : List ℕ). value_text (whole n) ++ t) (sym (more_numbers ns))

pub Writes-numbers : {A E : Type 0} (a b : Told) (r : Result A E) (n : ℕ) (ns : List ℕ) → Writes a b r (value_text (whole n) ⧺ each next_number ns) → Writes a b r (numbers_text (n ∷ ns))
Writes-numbers a b r n ns w = subst (λ (t : List ℕ). Writes a b r t) (some_numbers n ns) w

pub Broke-numbers : (a b : Told) (n : ℕ) (ns : List ℕ) → Broke a b (value_text (whole n) ⧺ each next_number ns) → Broke a b (numbers_text (n ∷ ns))
Broke-numbers a b n ns w = subst (λ (t : List ℕ). Broke a b t) (some_numbers n ns) w

array_is : (ns : List ℕ) → codes "[" ⧺ numbers_text ns ⧺ codes "]" ≡ value_text (numbers_json ns)
unfolding numbers_text numbers_json
array_is ns = refl

pub Writes-array : {A E : Type 0} (a b : Told) (r : Result A E) (ns : List ℕ) → Writes a b r (codes "[" ⧺ numbers_text ns ⧺ codes "]") → Writes a b r (value_text (numbers_json ns))
Writes-array a b r ns w = subst (λ (t : List ℕ). Writes a b r t) (array_is ns) w

pub Broke-array : (a b : Told) (ns : List ℕ) → Broke a b (codes "[" ⧺ numbers_text ns ⧺ codes "]") → Broke a b (value_text (numbers_json ns))
Broke-array a b ns w = subst (λ (t : List ℕ). Broke a b t) (array_is ns) w

pub ruleset array_steps = (Writes-numbers, Broke-numbers, Writes-array, Broke-array, Wrote-none, Wrote-then, Broke-next, Broke-longer, Writes-next, Wrote-there, Broke-there, Broke-first, Writes-there)

-- ---- fields after others

pub Wrote-no_fields : (a : Told) → Wrote a a (fields_text [])
Wrote-no_fields a = rw fields-none (Wrote-none a)

pub Wrote-fields : (a b c : Told) (xs ys : List Field) → Wrote b c (fields_text ys) → Wrote a b (fields_text xs) → Wrote a c (fields_text (xs ⊕ ys))
Wrote-fields a b c xs ys q p = rw (fields-append xs ys) (Wrote-trans a b c (fields_text xs) (fields_text ys) p q)

pub Broke-fields : (a b c : Told) (xs ys : List Field) → Broke b c (fields_text ys) → Wrote a b (fields_text xs) → Broke a c (fields_text (xs ⊕ ys))
Broke-fields a b c xs ys q p = rw (fields-append xs ys) (Broke-after a b c (fields_text xs) (fields_text ys) p q)

pub Broke-first_fields : (a b : Told) (xs ys : List Field) → Broke a b (fields_text xs) → Broke a b (fields_text (xs ⊕ ys))
Broke-first_fields a b xs ys p = rw (fields-append xs ys) (Broke-more a b (fields_text xs) (fields_text ys) p)

pub Writes-fields : {A E : Type 0} (a b c : Told) (r : Result A E) (xs ys : List Field) → Writes b c r (fields_text ys) → Wrote a b (fields_text xs) → Writes a c r (fields_text (xs ⊕ ys))
Writes-fields a b c (Ok x) xs ys q p = Wrote-fields a b c xs ys q p
Writes-fields a b c (Err e) xs ys q p = Broke-fields a b c xs ys q p

pub ruleset fields_steps = (Wrote-no_fields, Wrote-fields, Broke-fields, Broke-first_fields, Writes-fields)

-- ---- lines

kind_name : string_text (codes "kind") ≡ codes "\"kind\""
unfolding ◌⧺◌
kind_name = plain_string (codes "kind") refl

pub line_is : (kind : List ℕ) (fs : List Field) → line kind fs ≡ begun kind ⧺ fields_text fs ⧺ codes "}\n"
unfolding line fields_text begun ◌⊕◌ field ◌⧺◌
line_is kind fs =
    ap (λ (n : List ℕ). ((codes "{" ++ (((n ++ codes ":") ++ string_text kind) ++ more_members (members_of fs))) ++ codes "}") ++ codes "\n") kind_name
    ∙ ap (λ (t : List ℕ). codes "{\"kind\":" ++ t) (append_assoc (string_text kind ++ more_members (members_of fs)) (codes "}") (codes "\n"))

-- an object that is no line
pub object_is : (kind : List ℕ) (fs : List Field) → begun kind ⧺ fields_text fs ⧺ codes "}" ≡ value_text (line_object kind fs)
unfolding fields_text begun ◌⊕◌ field ◌⧺◌
object_is kind fs =
    sym (ap (λ (n : List ℕ). (codes "{" ++ (((n ++ codes ":") ++ string_text kind) ++ more_members (members_of fs))) ++ codes "}") kind_name)

pub Writes-line : {A E : Type 0} (a b : Told) (r : Result A E) (kind : List ℕ) (fs : List Field) → Writes a b r (begun kind ⧺ fields_text fs ⧺ codes "}\n") → Writes a b r (line kind fs)
Writes-line a b r kind fs w = subst (λ (t : List ℕ). Writes a b r t) (sym (line_is kind fs)) w

pub Broke-line : (a b : Told) (kind : List ℕ) (fs : List Field) → Broke a b (begun kind ⧺ fields_text fs ⧺ codes "}\n") → Broke a b (line kind fs)
Broke-line a b kind fs w = subst (λ (t : List ℕ). Broke a b t) (sym (line_is kind fs)) w

pub ruleset line_steps = (Writes-line, Broke-line, Wrote-none, Wrote-then, Broke-next, Broke-longer, Writes-next)
