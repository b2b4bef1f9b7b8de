-- The fields of the line of each event can be read back, and so the line is.
use Rattle.std.proofs.Common.{◌≡◌, ◌-◌, ◌==◌, ℕ, Bool, true, false, List, [], length, take, drop, Option, None, Some, refl, arith}
use Rattle.std.specs.Prelude.{ℤ, ◌&&◌, codes, nat_lt, nat_le, unsigned_abs, slice_get}
use Rattle.std.specs.List.{list_all}
use Rattle.std.specs.Option.{option_map_or}
use Rattle.json_lines.specs.Json.{is_plain}
use Rattle.json_lines.specs.Line.{Field, field, whole}
use Rattle.json_lines.specs.Readable.{ArePlain, ReadsBackAs, IsLineOfJson}
use Rattle.json_lines.proofs.Fields.{fields_are_plain}
use Rattle.json_lines.proofs.Nested.{word, number, held, both, either, Fits, Deep, wider, of_plain, joined, alone, object_fits, mapped, line_reads}
use Rattle.json_lines.proofs.Wholes.{line_read}
use Rattle.pickle_names.specs.declared.coding.Coding.{Coding}
use Rattle.pickle_names.specs.declared.coding.Coding.TheVariants as coding
use Rattle.pickle_names.specs.Value.{decode, decode_all}
use Rattle.pickle_ops.specs.Argument.{long_of}
use Rattle.pickle_ops.specs.declared.kind.Kind.{Kind}
use Rattle.pickle_ops.specs.declared.kind.Kind.TheVariants as kind
use Rattle.pickle_ops.specs.declared.row.Filling.{Filling}
use Rattle.pickle_ops.specs.declared.row.Filling.TheVariants as filling
use Rattle.pickle_ops.specs.Object.{Object}
use Rattle.pickle_calls.specs.Brief.{most_bytes, most_characters, most_objects}
use Rattle.pickle_calls.specs.CallsLine.{event_line as event_text}
use Rattle.pickle_calls.specs.Event.{part}
use Rattle.pickle_calls.specs.declared.event.Event.{Event}
use Rattle.pickle_calls.specs.declared.event.Event.TheVariants as event
use Rattle.pickle_calls.specs.declared.naming.Detail.{Detail}
use Rattle.pickle_calls.specs.declared.naming.Detail.TheVariants as detail
use Rattle.pickle_calls.specs.declared.naming.Naming.{Naming}
use Rattle.pickle_calls.specs.Naming.{Spelled, Pair, NewPair, is_text, inner, pair_renamed, global_pair, inst_pair, stack_pair}
use Rattle.line_buffer.specs.Line.{line_text}
use Rattle.pickle_json.proofs.Readable.{shown}
use Rattle.calls_json.specs.declared.said.Said.{Said}
use Rattle.calls_json.specs.declared.said.Said.TheVariants as said
use Rattle.calls_json.specs.declared.said.Operand.{Operand}
use Rattle.calls_json.specs.declared.said.Operand.TheVariants as operand
use Rattle.calls_json.specs.SaidNames.{text_name, hex_name, raw_name, unicode_name, string_name, object_name, operand_name, operand_more}
use Rattle.calls_json.specs.TextFields.{more_fields, own_fields, hex_fields, is_own, escaped_fields, spelled_fields, whole_fields, front_fields, raw_fields, cut_fields, text_fields, cut_payload, payload_value, integer_name, integer_value, long_value, cut_long, shown_long}
use Rattle.calls_json.specs.NameFields.{said_fields, pair_fields, for_fields, member_fields, import_fields, import_for_fields, id_fields, said_names_fields, known_fields, renamed_fields, names_by_fields, names_fields}
use Rattle.calls_json.specs.ValueFields.{kind_word, double_fields, code_fields, kind_fields, kind_json, id_json, brief_json, briefs_json, all_parts, parts_left, first_parts, shown_parts, parts_fields, one_field, operand_kind, no_operand, operand_fields}
use Rattle.calls_json.specs.EventFields.{extension_fields, callee_kind, callee_fields, made_word, inst_fields, call_fields, call_with_fields, obj_fields, buffer_fields, made_fields, around, made_line, absent_line, made_at, state_line, fill_word, count_fields, filled_line, event_with, event_line}
use Rattle.calls_json.specs.Readable.{EventLinesReadBack}

-- ---- names of fields

text_name_plain : (w : Said) → list_all is_plain (text_name w) ≡ true
unfolding text_name
text_name_plain said.Module = refl
text_name_plain _ = refl

hex_name_plain : (w : Said) → list_all is_plain (hex_name w) ≡ true
unfolding hex_name
hex_name_plain said.Module = refl
hex_name_plain _ = refl

raw_name_plain : (w : Said) → list_all is_plain (raw_name w) ≡ true
unfolding raw_name
raw_name_plain said.Module = refl
raw_name_plain _ = refl

unicode_name_plain : (w : Said) → list_all is_plain (unicode_name w) ≡ true
unfolding unicode_name
unicode_name_plain said.Module = refl
unicode_name_plain _ = refl

string_name_plain : (w : Said) → list_all is_plain (string_name w) ≡ true
unfolding string_name
string_name_plain said.Module = refl
string_name_plain _ = refl

object_name_plain : (w : Said) → list_all is_plain (object_name w) ≡ true
unfolding object_name
object_name_plain said.Module = refl
object_name_plain _ = refl

operand_plain : (w : Operand) → list_all is_plain (operand_name w) ≡ true
unfolding operand_name
operand_plain operand.Args = refl
operand_plain _ = refl

operand_more_plain : (w : Operand) → list_all is_plain (operand_more w) ≡ true
unfolding operand_more
operand_more_plain operand.Args = refl
operand_more_plain _ = refl

-- ---- texts

cut_off : (n : ℕ) → ArePlain (more_fields n)
unfolding more_fields
cut_off n = either (n == 0) [] (field (codes "more") (whole n)) tt (number (codes "more") n refl)

own : (w : Said) (bytes : List ℕ) → ArePlain (own_fields w bytes)
unfolding own_fields
own w bytes = held (text_name w) (hex_name w) bytes (text_name_plain w) (hex_name_plain w)

digits : (name bytes : List ℕ) → list_all is_plain name ≡ true → ArePlain (hex_fields name bytes)
unfolding hex_fields
digits name bytes h = fields_are_plain.hexadecimal name bytes (word name h)

escaped : (name : List ℕ) (w : Said) (bytes : List ℕ) → list_all is_plain name ≡ true → ArePlain (escaped_fields name w bytes)
unfolding escaped_fields
escaped name w bytes h = either (list_all is_own bytes) (own_fields w bytes) (hex_fields name bytes) (own w bytes) (digits name bytes h)

spelled : (w : Said) (c : Coding) (bytes : List ℕ) → ArePlain (spelled_fields w c bytes)
unfolding spelled_fields
spelled w coding.Ascii bytes = own w bytes
spelled w coding.Utf8 bytes = own w bytes
spelled w coding.AnyUtf8 bytes = own w bytes
spelled w coding.RawEscape bytes = escaped (unicode_name w) w bytes (unicode_name_plain w)
spelled w coding.StringEscape bytes = escaped (string_name w) w bytes (string_name_plain w)

in_full : (w : Said) (c : Coding) (bytes : List ℕ) → ArePlain (whole_fields w c bytes)
unfolding whole_fields
in_full w c bytes = either (decode_all c bytes).good (spelled_fields w c bytes) (hex_fields (raw_name w) bytes) (spelled w c bytes) (digits (raw_name w) bytes (raw_name_plain w))

front : (c : Coding) (left : ℕ) (bytes : List ℕ) → ArePlain (front_fields c left bytes)
front c left bytes = both _ _ (spelled said.Value c (take (length bytes - left) bytes)) (cut_off left)

raw : (bytes : List ℕ) → ArePlain (raw_fields bytes)
unfolding raw_fields
raw bytes = both _ _ (digits (raw_name said.Value) (take most_bytes bytes) (raw_name_plain said.Value)) (cut_off (length bytes - most_bytes))

cut : (c : Coding) (bytes : List ℕ) → ArePlain (cut_fields c bytes)
unfolding cut_fields
cut c bytes =
    let left : ℕ = length (decode c most_characters bytes).rest in
    either (decode c most_characters bytes).good (front_fields c left bytes) (raw_fields bytes) (front c left bytes) (raw bytes)

text : (d : Detail) (c : Coding) (bytes : List ℕ) → ArePlain (text_fields d c bytes)
unfolding text_fields
text detail.Cut c bytes = cut c bytes
text detail.Full c bytes = in_full said.Value c bytes

-- ---- payloads and numbers

first_bytes : (q : List ℕ) → ArePlain (cut_payload q)
unfolding cut_payload
first_bytes q = both _ _ (own said.Value (take most_bytes q)) (cut_off (length q - most_bytes))

payload : (d : Detail) (q : List ℕ) → ArePlain (payload_value d q)
unfolding payload_value
payload detail.Cut q = first_bytes q
payload detail.Full q = own said.Value q

integer_named : (exact : Bool) → list_all is_plain (integer_name exact) ≡ true
unfolding integer_name
integer_named true = refl
integer_named false = refl

signed : (z : ℤ) → ArePlain (integer_value z)
unfolding integer_value
signed z =
    let exact : Bool = nat_lt (unsigned_abs z) 9007199254740992 in
    fields_are_plain.integers (integer_name exact) z (word (integer_name exact) (integer_named exact))

long : (bytes : List ℕ) → ArePlain (long_value bytes)
unfolding long_value
long bytes =
    either (nat_le (length bytes) 16) (integer_value (long_of bytes)) (hex_fields (codes "le_hex") bytes) (signed (long_of bytes)) (digits (codes "le_hex") bytes refl)

first_long : (bytes : List ℕ) → ArePlain (cut_long bytes)
unfolding cut_long
first_long bytes = both _ _ (long (take most_bytes bytes)) (cut_off (length bytes - most_bytes))

any_long : (d : Detail) (bytes : List ℕ) → ArePlain (shown_long d bytes)
unfolding shown_long
any_long detail.Cut bytes = first_long bytes
any_long detail.Full bytes = long bytes

-- ---- what is imported or called

name : (w : Said) (s : Option Spelled) (id : ℕ) → ArePlain (said_fields w s id)
unfolding said_fields
name w (Some s) id = in_full w s.coding s.bytes
name w None id = number (object_name w) id (object_name_plain w)

pair : (p : Pair) → ArePlain (pair_fields p)
unfolding pair_fields
pair p = both _ _ (name said.Module p.from p.from_id) (name said.Name p.name p.name_id)

for_pair : (p : Pair) → ArePlain (for_fields p)
unfolding for_fields
for_pair p = both _ _ (name said.ForModule p.from p.from_id) (name said.ForName p.name p.name_id)

member : (new : Option (List ℕ)) (p : Pair) → ArePlain (member_fields new p)
unfolding member_fields
member (Some new) p = own said.Name new
member None p = name said.Name p.name p.name_id

imported : (i : NewPair) (p : Pair) → ArePlain (import_fields i p)
unfolding import_fields
imported i p = both _ _ (own said.Module i.from) (member i.name p)

imported_for : (i : NewPair) (p : Pair) → ArePlain (import_for_fields i p)
unfolding import_for_fields
imported_for i p = both _ _ (imported i p) (for_pair p)

pub object : (at : List ℕ) (id : ℕ) → list_all is_plain at ≡ true → ArePlain (id_fields at id)
unfolding id_fields
object at id h = number at id h

as_said : (at : List ℕ) (id : Option ℕ) (p : Pair) → list_all is_plain at ≡ true → ArePlain (said_names_fields at id p)
as_said at None p h = pair p
as_said at (Some id) p h = either (is_text p.from && is_text p.name) (pair_fields p) (id_fields at id) (pair p) (object at id h)

renamed : (at : List ℕ) (m : Naming) (id : Option ℕ) (i : NewPair) (p : Pair) → list_all is_plain at ≡ true → ArePlain (renamed_fields at m id i p)
renamed at m None i p h = either m.old (import_for_fields i p) (pair_fields p) (imported_for i p) (pair p)
renamed at m (Some id) i p h =
    either (nat_le m.since id && is_text p.name) (known_fields at m.old id i p) (id_fields at id)
    (either m.old (import_fields i p) (said_names_fields at (Some id) p) (imported i p) (as_said at (Some id) p h)) (object at id h)

names_by : (at : List ℕ) (m : Naming) (id : Option ℕ) (new : Option NewPair) (p : Pair) → list_all is_plain at ≡ true → ArePlain (names_by_fields at m id new p)
names_by at m id None p h = as_said at id p h
names_by at m id (Some i) p h = renamed at m id i p h

names : (at : List ℕ) (m : Naming) (id : Option ℕ) (p : Pair) → list_all is_plain at ≡ true → ArePlain (names_fields at m id p)
unfolding names_fields
names at m id p h = names_by at m id (pair_renamed p) p h

-- ---- objects in brief

kind_plain : (k : Kind) → list_all is_plain (kind_word k) ≡ true
unfolding kind_word
kind_plain kind.None = refl
kind_plain _ = refl

double : (bytes : List ℕ) → ArePlain (double_fields bytes)
unfolding double_fields
double bytes = fields_are_plain.hexadecimal (codes "f8_hex") bytes (word (codes "f8_hex") refl)

code : (n : ℤ) → ArePlain (code_fields n)
unfolding code_fields
code n = fields_are_plain.integers (codes "number") n (word (codes "number") refl)

given : (m : Naming) (heap : List Object) (id : ℕ) (k : Kind) (parts : List ℕ) → ArePlain (kind_fields m heap id k parts)
unfolding kind_fields
given m heap id kind.None parts = tt
given m heap id kind.True parts = tt
given m heap id kind.False parts = tt
given m heap id (kind.Int n) parts = signed n
given m heap id (kind.Long bytes) parts = any_long m.detail bytes
given m heap id (kind.IntLine q) parts = payload m.detail q
given m heap id (kind.LongLine q) parts = payload m.detail q
given m heap id (kind.FloatLine q) parts = payload m.detail q
given m heap id (kind.Float bytes) parts = double bytes
given m heap id (kind.LegacyString q) parts = text m.detail coding.Ascii q
given m heap id (kind.LegacyLine q) parts = text m.detail coding.StringEscape (inner q)
given m heap id (kind.Text q) parts = text m.detail coding.AnyUtf8 q
given m heap id (kind.TextLine q) parts = text m.detail coding.RawEscape q
given m heap id (kind.Bytes q) parts = payload m.detail q
given m heap id (kind.ByteArray q) parts = payload m.detail q
given m heap id (kind.Global t) parts = names (codes "object") m (Some id) (global_pair t.first t.second) refl
given m heap id kind.StackGlobal parts = names (codes "object") m (Some id) (stack_pair heap parts) refl
given m heap id (kind.Ext n) parts = code n
given m heap id _ parts = object (codes "object") id refl

kind_fits : (m : Naming) (heap : List Object) (id : ℕ) (k : Kind) (parts : List ℕ) → Fits 1 (kind_json m heap id k parts)
unfolding kind_json
kind_fits m heap id k parts = object_fits 0 (kind_word k) (kind_fields m heap id k parts) (kind_plain k) (of_plain 0 _ (given m heap id k parts))

id_fits : (id : ℕ) → Fits 1 (id_json id)
unfolding id_json
id_fits id = object_fits 0 (codes "object") (id_fields (codes "object") id) refl (of_plain 0 _ (object (codes "object") id refl))

found_fits : (m : Naming) (heap : List Object) (id : ℕ) (found : Option Object) → Fits 1 (option_map_or (λ (o : Object). kind_json m heap id o.kind o.parts) found (id_json id))
found_fits m heap id None = id_fits id
found_fits m heap id (Some o) = kind_fits m heap id o.kind o.parts

brief_fits : (m : Naming) (heap : List Object) (id : ℕ) → Fits 1 (brief_json m heap id)
unfolding brief_json
brief_fits m heap id = found_fits m heap id (slice_get heap id)

briefs_fit : (m : Naming) (heap : List Object) (ids : List ℕ) → Fits 2 (briefs_json m heap ids)
unfolding briefs_json
briefs_fit m heap ids = mapped 1 (brief_json m heap) ids (brief_fits m heap)

-- ---- operands: an array of objects in brief, or one

in_array : (w : Operand) (m : Naming) (heap : List Object) (ids : List ℕ) → Deep 8 (all_parts w m heap ids)
unfolding all_parts
in_array w m heap ids = alone 8 (operand_name w) (briefs_json m heap ids) (operand_plain w) (wider 2 8 _ (omega arith) (briefs_fit m heap ids))

parts_cut : (w : Operand) (n : ℕ) → ArePlain (parts_left w n)
unfolding parts_left
parts_cut w n = either (n == 0) [] (field (operand_more w) (whole n)) tt (number (operand_more w) n (operand_more_plain w))

first_of : (w : Operand) (m : Naming) (heap : List Object) (ids : List ℕ) → Deep 8 (first_parts w m heap ids)
unfolding first_parts
first_of w m heap ids = joined 8 _ _ (in_array w m heap (take most_objects ids)) (of_plain 8 _ (parts_cut w (length ids - most_objects)))

by_detail : (d : Detail) (w : Operand) (m : Naming) (heap : List Object) (ids : List ℕ) → Deep 8 (shown_parts d w m heap ids)
unfolding shown_parts
by_detail detail.Cut w m heap ids = first_of w m heap ids
by_detail detail.Full w m heap ids = in_array w m heap ids

parts_deep : (w : Operand) (m : Naming) (heap : List Object) (ids : List ℕ) → Deep 8 (parts_fields w m heap ids)
unfolding parts_fields
parts_deep w m heap ids = by_detail m.detail w m heap ids

one : (w : Operand) (m : Naming) (heap : List Object) (id : ℕ) (k : Kind) (parts : List ℕ) → Deep 8 (one_field w m heap id k parts)
unfolding one_field
one w m heap id k parts = alone 8 (operand_name w) _ (operand_plain w) (wider 1 8 _ (omega arith) (kind_fits m heap id k parts))

by_kind : (w : Operand) (m : Naming) (heap : List Object) (id : ℕ) (k : Kind) (parts : List ℕ) → Deep 8 (operand_kind w m heap id k parts)
unfolding operand_kind
by_kind w m heap id kind.Tuple parts = parts_deep w m heap parts
by_kind w m heap id k parts = one w m heap id k parts

none : (w : Operand) (id : ℕ) → Deep 8 (no_operand w id)
unfolding no_operand
none w id = alone 8 (operand_name w) (id_json id) (operand_plain w) (wider 1 8 _ (omega arith) (id_fits id))

found_operand : (w : Operand) (m : Naming) (heap : List Object) (id : ℕ) (found : Option Object)
    → Deep 8 (option_map_or (λ (o : Object). operand_kind w m heap id o.kind o.parts) found (no_operand w id))
found_operand w m heap id None = none w id
found_operand w m heap id (Some o) = by_kind w m heap id o.kind o.parts

operand_deep : (w : Operand) (m : Naming) (heap : List Object) (id : ℕ) → Deep 8 (operand_fields w m heap id)
unfolding operand_fields
operand_deep w m heap id = found_operand w m heap id (slice_get heap id)

-- ---- what is called

extension : (n : ℤ) → ArePlain (extension_fields n)
unfolding extension_fields
extension n = fields_are_plain.integers (codes "extension") n (word (codes "extension") refl)

callee_by : (m : Naming) (heap : List Object) (id : ℕ) (k : Kind) (parts : List ℕ) → ArePlain (callee_kind m heap id k parts)
unfolding callee_kind
callee_by m heap id (kind.Global t) parts = names (codes "callee") m (Some id) (global_pair t.first t.second) refl
callee_by m heap id kind.StackGlobal parts = names (codes "callee") m (Some id) (stack_pair heap parts) refl
callee_by m heap id (kind.Ext n) parts = extension n
callee_by m heap id _ parts = object (codes "callee") id refl

found_callee : (m : Naming) (heap : List Object) (id : ℕ) (found : Option Object)
    → ArePlain (option_map_or (λ (o : Object). callee_kind m heap id o.kind o.parts) found (id_fields (codes "callee") id))
found_callee m heap id None = object (codes "callee") id refl
found_callee m heap id (Some o) = callee_by m heap id o.kind o.parts

callee : (m : Naming) (heap : List Object) (id : ℕ) → Deep 8 (callee_fields m heap id)
unfolding callee_fields
callee m heap id = of_plain 8 _ (found_callee m heap id (slice_get heap id))

-- ---- what was made

made_plain : (k : Kind) → list_all is_plain (made_word k) ≡ true
unfolding made_word
made_plain kind.None = refl
made_plain _ = refl

instance : (m : Naming) (heap : List Object) (first second parts : List ℕ) → Deep 8 (inst_fields m heap first second parts)
unfolding inst_fields
instance m heap first second parts = joined 8 _ _ (of_plain 8 _ (names (codes "callee") m None (inst_pair first second) refl)) (parts_deep operand.Args m heap parts)

call : (m : Naming) (heap : List Object) (parts : List ℕ) → Deep 8 (call_fields m heap parts)
unfolding call_fields
call m heap parts = joined 8 _ _ (callee m heap (part 0 parts)) (operand_deep operand.Args m heap (part 1 parts))

call_with : (m : Naming) (heap : List Object) (parts : List ℕ) → Deep 8 (call_with_fields m heap parts)
unfolding call_with_fields
call_with m heap parts = joined 8 _ _ (call m heap parts) (operand_deep operand.Keywords m heap (part 2 parts))

by_class : (m : Naming) (heap : List Object) (parts : List ℕ) → Deep 8 (obj_fields m heap parts)
unfolding obj_fields
by_class m heap parts = joined 8 _ _ (callee m heap (part 0 parts)) (parts_deep operand.Args m heap (drop 1 parts))

buffer : (n : ℕ) → ArePlain (buffer_fields n)
unfolding buffer_fields
buffer n = number (codes "number") n refl

made_deep : (m : Naming) (heap : List Object) (k : Kind) (parts : List ℕ) → Deep 8 (made_fields m heap k parts)
unfolding made_fields
made_deep m heap (kind.Global t) parts = of_plain 8 _ (names (codes "callee") m None (global_pair t.first t.second) refl)
made_deep m heap kind.StackGlobal parts = of_plain 8 _ (names (codes "callee") m None (stack_pair heap parts) refl)
made_deep m heap (kind.Ext n) parts = of_plain 8 _ (extension n)
made_deep m heap (kind.Inst t) parts = instance m heap t.first t.second parts
made_deep m heap kind.Call parts = call m heap parts
made_deep m heap kind.New parts = call m heap parts
made_deep m heap kind.NewEx parts = call_with m heap parts
made_deep m heap kind.Obj parts = by_class m heap parts
made_deep m heap (kind.PersistentLine q) parts = of_plain 8 _ (in_full said.Line coding.Ascii q)
made_deep m heap kind.Persistent parts = operand_deep operand.Id m heap (part 0 parts)
made_deep m heap (kind.Buffer n) parts = of_plain 8 _ (buffer n)
made_deep m heap kind.ReadOnly parts = of_plain 8 _ (object (codes "of") (part 0 parts) refl)
made_deep m heap _ parts = of_plain 8 [] tt

-- ---- lines

around_deep : (offset : ℕ) (fs : List Field) (id : ℕ) (text : Option (List ℕ)) → Deep 8 fs → Deep 8 (around offset fs id text)
unfolding around
around_deep offset fs id text d =
    joined 8 _ _ (joined 8 _ _ (joined 8 _ _ (of_plain 8 _ (number (codes "offset") offset refl)) d) (of_plain 8 _ (object (codes "object") id refl))) (of_plain 8 _ (shown text))

made_reads : (offset : ℕ) (text : Option (List ℕ)) (m : Naming) (heap : List Object) (id : ℕ) (k : Kind) (parts : List ℕ)
    → ReadsBackAs (made_line offset text m heap id k parts) (made_word k) (around offset (made_fields m heap k parts) id text)
unfolding made_line
made_reads offset text m heap id k parts =
    line_reads (made_word k) (around offset (made_fields m heap k parts) id text) (made_plain k) (around_deep offset (made_fields m heap k parts) id text (made_deep m heap k parts))

absent_reads : (offset : ℕ) (text : Option (List ℕ)) (id : ℕ) → ReadsBackAs (absent_line offset text id) (codes "made") (around offset [] id text)
unfolding absent_line
absent_reads offset text id = line_reads (codes "made") (around offset [] id text) refl (around_deep offset [] id text (of_plain 8 [] tt))

state_reads : (offset : ℕ) (text : Option (List ℕ)) (m : Naming) (heap : List Object) (v target : ℕ)
    → ReadsBackAs (state_line offset text m heap v target) (codes "state") (around offset (operand_fields operand.State m heap v) target text)
unfolding state_line
state_reads offset text m heap v target =
    line_reads (codes "state") (around offset (operand_fields operand.State m heap v) target text) refl
    (around_deep offset (operand_fields operand.State m heap v) target text (operand_deep operand.State m heap v))

fill_plain : (f : Filling) → list_all is_plain (fill_word f) ≡ true
unfolding fill_word
fill_plain filling.Append = refl
fill_plain _ = refl

count : (n : ℕ) → ArePlain (count_fields n)
unfolding count_fields
count n = number (codes "count") n refl

filled_reads : (offset : ℕ) (text : Option (List ℕ)) (f : Filling) (n target : ℕ)
    → ReadsBackAs (filled_line offset text f n target) (fill_word f) (around offset (count_fields n) target text)
unfolding filled_line
filled_reads offset text f n target =
    line_reads (fill_word f) (around offset (count_fields n) target text) (fill_plain f) (around_deep offset (count_fields n) target text (of_plain 8 _ (count n)))

found_made : (offset : ℕ) (text : Option (List ℕ)) (m : Naming) (heap : List Object) (id : ℕ) (found : Option Object)
    → IsLineOfJson (option_map_or (λ (o : Object). made_line offset text m heap id o.kind o.parts) found (absent_line offset text id))
found_made offset text m heap id None = line_read _ _ _ (absent_reads offset text id)
found_made offset text m heap id (Some o) = line_read _ _ _ (made_reads offset text m heap id o.kind o.parts)

event_reads : (offset : ℕ) (text : Option (List ℕ)) (m : Naming) (heap : List Object) (e : Event) → IsLineOfJson (event_with offset text m heap e)
unfolding event_with made_at
event_reads offset text m heap (event.Made id) = found_made offset text m heap id (slice_get heap id)
event_reads offset text m heap (event.State v target) = line_read _ _ _ (state_reads offset text m heap v target)
event_reads offset text m heap (event.Filled f n target) = line_read _ _ _ (filled_reads offset text f n target)

whole_event : (offset : ℕ) (m : Naming) (heap : List Object) (e : Event) → IsLineOfJson (event_line offset m heap e)
unfolding event_line
whole_event offset m heap e = event_reads offset (line_text (event_text offset m heap e)) m heap e

pub event_lines_read_back : EventLinesReadBack
event_lines_read_back = record { made = made_reads; absent = absent_reads; state = state_reads; filled = filled_reads; event = whole_event }
