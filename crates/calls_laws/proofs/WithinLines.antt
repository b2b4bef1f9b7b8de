-- No text of an event ends its line.
use Rattle.std.proofs.Common.{◌≡◌, ℕ, zero, suc, ◌+◌, ◌-◌, ◌≤◌, ◌==◌, ◌&&◌, Bool, true, false, List, [], ◌∷◌, length, Option, Some, None, refl, arith, rules}
use Rattle.std.specs.Prelude.{ℤ, pos, negsuc, not, nat_lt, nat_le, codes, decimal, take, drop, slice_get, if◌then◌else◌, ◌/◌, ◌%◌}
use Rattle.std.specs.Option.{option_map_or}
use Rattle.std.specs.Fmt.{digits, digits_onto, digit_glyph, signed_decimal}
use Rattle.hex.specs.Hex.{encode_with}
use Rattle.pickle_io.specs.Text.{◌⧺◌, hexadecimal, quoted}
use Rattle.pickle_io.specs.Device.{each}
use Rattle.pickle_names.specs.declared.coding.Coding.{Coding}
use Rattle.pickle_names.specs.declared.coding.Coding.TheVariants as coding
use Rattle.pickle_names.specs.Value.{Decoded, decode, decode_all, raw_text, whole_text}
use Rattle.pickle_names.specs.Renamed.{Import}
use Rattle.pickle_ops.specs.declared.kind.Kind.{Kind}
use Rattle.pickle_ops.specs.declared.kind.Kind.TheVariants as kind
use Rattle.pickle_ops.specs.declared.row.Filling.{Filling}
use Rattle.pickle_ops.specs.declared.row.Filling.TheVariants as filling
use Rattle.pickle_ops.specs.Object.{Object}
use Rattle.pickle_ops.specs.Argument.{long_of}
use Rattle.pickle_ops.specs.Text.{float_text, long_text}
use Rattle.pickle_text.specs.Column.{blanks, right_aligned}
use Rattle.pickle_text.specs.Words.{id_text, kind_text}
use Rattle.pickle_calls.specs.declared.event.Event.{Event}
use Rattle.pickle_calls.specs.declared.event.Event.TheVariants as event
use Rattle.pickle_calls.specs.Event.{part}
use Rattle.pickle_calls.specs.declared.naming.Detail.{Detail}
use Rattle.pickle_calls.specs.declared.naming.Detail.TheVariants as detail
use Rattle.pickle_calls.specs.declared.naming.Naming.{Naming}
use Rattle.pickle_calls.specs.Naming.{Spelled, Pair, NewPair, member_text, said_text, pair_text, pair_renamed, import_text, import_for, said_names, renamed_text, names_by, names_text, global_pair, inst_pair, stack_pair, inner, is_text}
use Rattle.pickle_calls.specs.Brief.{of_object, kind_name, name_text, over_text, cut_quoted, cut_after, cut_value, cut_text, cut_long, shown_quoted, payload_after, shown_text, text_after, shown_long, long_after, kind_brief, brief_text, next_brief, comma_list, more_text, cut_list, shown_list, briefs_text, kind_value, value_text, most_bytes, most_objects, most_characters}
use Rattle.pickle_calls.specs.CallsLine.{inst_text, call_text, call_with_text, obj_text, made_words, made_text, made_at, state_text, fill_keyword, fill_link, filled_text, event_text}
use Rattle.calls_laws.specs.LineLaws.{is_within_line}
use Rattle.calls_laws.proofs.LinesApart.{both_hold, joined, digits as byte_digits, quotes_stay}

abbrev pub Stays : List ℕ → Type 0
Stays text = is_within_line text ≡ true

pub then_stays : (a b : List ℕ) → Stays a → Stays b → Stays (a ⧺ b)
unfolding ◌⧺◌
then_stays a b p q = joined a b p q

pub if_stays : (c : Bool) (a b : List ℕ) → Stays a → Stays b → Stays (if c then a else b)
if_stays true a b p q = p
if_stays false a b p q = q

-- ---- numbers

no_newline : (n : ℕ) → 11 ≤ n → not (n == 10) ≡ true
no_newline n h = go (n == 10) refl
  where
    go : (b : Bool) → (n == 10) ≡ b → not b ≡ true
    go false e = refl
    go true e = let at : n ≡ 10 = search rules in absurd (omega (arith, h, at))

glyph_stays : (d : ℕ) → not (digit_glyph false d == 10) ≡ true
glyph_stays d = go (nat_lt d 10)
  where
    go : (b : Bool) → not ((if b then 48 + d else (87 + d)) == 10) ≡ true
    go true = no_newline (48 + d) (omega arith)
    go false = no_newline (87 + d) (omega arith)

onto_stays : (k n : ℕ) (acc : List ℕ) → Stays acc → Stays (digits_onto k 10 false n acc)
onto_stays zero n acc p = p
onto_stays (suc k) n acc p =
    let next : Stays (digit_glyph false (n % 10) ∷ acc) = both_hold (not (digit_glyph false (n % 10) == 10)) (is_within_line acc) (glyph_stays (n % 10)) p in
    if_stays (n / 10 == 0) (digit_glyph false (n % 10) ∷ acc) (digits_onto k 10 false (n / 10) (digit_glyph false (n % 10) ∷ acc)) next (onto_stays k (n / 10) (digit_glyph false (n % 10) ∷ acc) next)

pub decimal_stays : (n : ℕ) → Stays (decimal n)
unfolding digits
decimal_stays n = onto_stays 64 n [] refl

pub signed_stays : (z : ℤ) → Stays (signed_decimal z)
signed_stays (pos n) = decimal_stays n
signed_stays (negsuc n) = decimal_stays (suc n)

pub hexadecimal_stays : (bytes : List ℕ) → Stays (hexadecimal bytes)
unfolding hexadecimal encode_with
hexadecimal_stays [] = refl
hexadecimal_stays (b ∷ bytes) = joined (hexadecimal (b ∷ [])) (hexadecimal bytes) (byte_digits b) (hexadecimal_stays bytes)

pub id_stays : (id : ℕ) → Stays (id_text id)
unfolding id_text
id_stays id = then_stays (codes "#") (decimal id) refl (decimal_stays id)

blanks_stay : (n : ℕ) → Stays (blanks n)
blanks_stay zero = refl
blanks_stay (suc n) = blanks_stay n

pub right_stays : (width : ℕ) (text : List ℕ) → Stays text → Stays (right_aligned width text)
unfolding right_aligned
right_stays width text p = then_stays (blanks (width - length text)) text (blanks_stay (width - length text)) p

-- ---- names

whole_stays : (c : Coding) (bytes : List ℕ) → Stays (whole_text c bytes)
unfolding whole_text raw_text
whole_stays c bytes = if_stays (decode_all c bytes).good (quoted (decode_all c bytes).value) (codes "raw " ⧺ quoted bytes) (quotes_stay (decode_all c bytes).value) (then_stays (codes "raw ") (quoted bytes) refl (quotes_stay bytes))

said_stays : (s : Option Spelled) (id : ℕ) → Stays (said_text s id)
unfolding said_text
said_stays (Some s) id = whole_stays s.coding s.bytes
said_stays None id = id_stays id

two_stay : (a b : List ℕ) → Stays a → Stays b → Stays (a ⧺ codes " " ⧺ b)
two_stay a b p q = then_stays (a ⧺ codes " ") b (then_stays a (codes " ") p refl) q

pair_stays : (p : Pair) → Stays (pair_text p)
unfolding pair_text
pair_stays p = two_stay (said_text p.from p.from_id) (said_text p.name p.name_id) (said_stays p.from p.from_id) (said_stays p.name p.name_id)

member_stays : (name : Option (List ℕ)) (p : Pair) → Stays (member_text name p)
member_stays (Some name) p = quotes_stay name
member_stays None p = said_stays p.name p.name_id

import_stays : (i : NewPair) (p : Pair) → Stays (import_text i p)
unfolding import_text
import_stays i p = two_stay (quoted i.from) (member_text i.name p) (quotes_stay i.from) (member_stays i.name p)

import_for_stays : (i : NewPair) (p : Pair) → Stays (import_for i p)
unfolding import_for
import_for_stays i p = then_stays (import_text i p ⧺ codes " for ") (pair_text p) (then_stays (import_text i p) (codes " for ") (import_stays i p) refl) (pair_stays p)

said_names_stay : (object : Option ℕ) (p : Pair) → Stays (said_names object p)
said_names_stay None p = pair_stays p
said_names_stay (Some id) p = if_stays (is_text p.from && is_text p.name) (pair_text p) (id_text id) (pair_stays p) (id_stays id)

renamed_stays : (m : Naming) (object : Option ℕ) (i : NewPair) (p : Pair) → Stays (renamed_text m object i p)
renamed_stays m None i p = if_stays m.old (import_for i p) (pair_text p) (import_for_stays i p) (pair_stays p)
renamed_stays m (Some id) i p =
    if_stays (nat_le m.since id && is_text p.name) (if m.old then import_text i p else said_names (Some id) p) (id_text id)
    (if_stays m.old (import_text i p) (said_names (Some id) p) (import_stays i p) (said_names_stay (Some id) p)) (id_stays id)

pub names_stay : (m : Naming) (object : Option ℕ) (p : Pair) → Stays (names_text m object p)
unfolding names_text
names_stay m object p = go (pair_renamed p)
  where
    go : (i : Option NewPair) → Stays (names_by m object i p)
    go None = said_names_stay object p
    go (Some i) = renamed_stays m object i p

object_stays : (text : Kind → List ℕ → List ℕ) (heap : List Object) (id : ℕ) → ((k : Kind) (parts : List ℕ) → Stays (text k parts)) → Stays (of_object text heap id)
object_stays text heap id h = go (slice_get heap id)
  where
    go : (x : Option Object) → Stays (option_map_or (λ (o : Object). text o.kind o.parts) x (id_text id))
    go None = id_stays id
    go (Some o) = h o.kind o.parts

ext_stays : (n : ℤ) → Stays (kind_text (kind.Ext n))
unfolding kind_text
ext_stays n = then_stays (codes "ext ") (signed_decimal n) refl (signed_stays n)

kind_name_stays : (m : Naming) (heap : List Object) (id : ℕ) (k : Kind) (parts : List ℕ) → Stays (kind_name m heap id k parts)
unfolding kind_name
kind_name_stays m heap id (kind.Global names) parts = names_stay m (Some id) (global_pair names.first names.second)
kind_name_stays m heap id kind.StackGlobal parts = names_stay m (Some id) (stack_pair heap parts)
kind_name_stays m heap id (kind.Ext n) parts = ext_stays n
kind_name_stays m heap id _ parts = id_stays id

name_stays : (m : Naming) (heap : List Object) (id : ℕ) → Stays (name_text m heap id)
unfolding name_text
name_stays m heap id = object_stays (kind_name m heap id) heap id (kind_name_stays m heap id)

-- ---- objects in brief

over_stays : (n : ℕ) → Stays (over_text n)
unfolding over_text
over_stays n = if_stays (n == 0) [] (codes "+" ⧺ decimal n) refl (then_stays (codes "+") (decimal n) refl (decimal_stays n))

cut_quoted_stays : (q : List ℕ) → Stays (cut_quoted q)
unfolding cut_quoted
cut_quoted_stays q = then_stays (quoted (take most_bytes q)) (over_text (length q - most_bytes)) (quotes_stay (take most_bytes q)) (over_stays (length q - most_bytes))

cut_after_stays : (keyword q : List ℕ) → Stays keyword → Stays (cut_after keyword q)
unfolding cut_after
cut_after_stays keyword q p = then_stays keyword (cut_quoted q) p (cut_quoted_stays q)

cut_value_stays : (d : Decoded) (bytes : List ℕ) → Stays (cut_value d bytes)
cut_value_stays d bytes =
    if_stays d.good (quoted d.value ⧺ over_text (length d.rest)) (cut_after (codes "raw ") bytes)
    (then_stays (quoted d.value) (over_text (length d.rest)) (quotes_stay d.value) (over_stays (length d.rest))) (cut_after_stays (codes "raw ") bytes refl)

cut_text_stays : (c : Coding) (bytes : List ℕ) → Stays (cut_text c bytes)
unfolding cut_text
cut_text_stays c bytes = cut_value_stays (decode c most_characters bytes) bytes

long_stays : (bytes : List ℕ) → Stays (long_text bytes)
unfolding long_text
long_stays bytes = if_stays (nat_le (length bytes) 16) (signed_decimal (long_of bytes)) (codes "le:" ⧺ hexadecimal bytes) (signed_stays (long_of bytes)) (then_stays (codes "le:") (hexadecimal bytes) refl (hexadecimal_stays bytes))

cut_long_stays : (bytes : List ℕ) → Stays (cut_long bytes)
unfolding cut_long
cut_long_stays bytes = then_stays (long_text (take most_bytes bytes)) (over_text (length bytes - most_bytes)) (long_stays (take most_bytes bytes)) (over_stays (length bytes - most_bytes))

quoted_stays : (how : Detail) (q : List ℕ) → Stays (shown_quoted how q)
unfolding shown_quoted
quoted_stays detail.Cut q = cut_quoted_stays q
quoted_stays detail.Full q = quotes_stay q

payload_stays : (how : Detail) (keyword q : List ℕ) → Stays keyword → Stays (payload_after how keyword q)
unfolding payload_after
payload_stays how keyword q p = then_stays keyword (shown_quoted how q) p (quoted_stays how q)

text_stays : (how : Detail) (c : Coding) (bytes : List ℕ) → Stays (shown_text how c bytes)
unfolding shown_text
text_stays detail.Cut c bytes = cut_text_stays c bytes
text_stays detail.Full c bytes = whole_stays c bytes

text_after_stays : (how : Detail) (keyword : List ℕ) (c : Coding) (bytes : List ℕ) → Stays keyword → Stays (text_after how keyword c bytes)
unfolding text_after
text_after_stays how keyword c bytes p = then_stays keyword (shown_text how c bytes) p (text_stays how c bytes)

shown_long_stays : (how : Detail) (bytes : List ℕ) → Stays (shown_long how bytes)
unfolding shown_long
shown_long_stays detail.Cut bytes = cut_long_stays bytes
shown_long_stays detail.Full bytes = long_stays bytes

long_after_stays : (how : Detail) (bytes : List ℕ) → Stays (long_after how bytes)
unfolding long_after
long_after_stays how bytes = then_stays (codes "int ") (shown_long how bytes) refl (shown_long_stays how bytes)

int_stays : (n : ℤ) → Stays (kind_text (kind.Int n))
unfolding kind_text
int_stays n = then_stays (codes "int ") (signed_decimal n) refl (signed_stays n)

float_stays : (bytes : List ℕ) → Stays (kind_text (kind.Float bytes))
unfolding kind_text float_text
float_stays bytes = then_stays (codes "float ") (codes "f8:" ⧺ hexadecimal bytes) refl (then_stays (codes "f8:") (hexadecimal bytes) refl (hexadecimal_stays bytes))

global_stays : (m : Naming) (id : ℕ) (p : Pair) → Stays (codes "global " ⧺ names_text m (Some id) p)
global_stays m id p = then_stays (codes "global ") (names_text m (Some id) p) refl (names_stay m (Some id) p)

plain_stays : (k : Kind) → Stays (kind_text kind.None) × (Stays (kind_text kind.True) × Stays (kind_text kind.False))
unfolding kind_text
plain_stays k = (refl, (refl, refl))

kind_brief_stays : (m : Naming) (heap : List Object) (id : ℕ) (k : Kind) (parts : List ℕ) → Stays (kind_brief m heap id k parts)
unfolding kind_brief
kind_brief_stays m heap id kind.None parts = (plain_stays kind.None).0
kind_brief_stays m heap id kind.True parts = (plain_stays kind.None).1.0
kind_brief_stays m heap id kind.False parts = (plain_stays kind.None).1.1
kind_brief_stays m heap id (kind.Int n) parts = int_stays n
kind_brief_stays m heap id (kind.Long bytes) parts = long_after_stays m.detail bytes
kind_brief_stays m heap id (kind.IntLine q) parts = payload_stays m.detail (codes "int-line ") q refl
kind_brief_stays m heap id (kind.LongLine q) parts = payload_stays m.detail (codes "long-line ") q refl
kind_brief_stays m heap id (kind.FloatLine q) parts = payload_stays m.detail (codes "float-line ") q refl
kind_brief_stays m heap id (kind.Float bytes) parts = float_stays bytes
kind_brief_stays m heap id (kind.LegacyString q) parts = text_after_stays m.detail (codes "string ") coding.Ascii q refl
kind_brief_stays m heap id (kind.LegacyLine q) parts = text_after_stays m.detail (codes "string ") coding.StringEscape (inner q) refl
kind_brief_stays m heap id (kind.Text q) parts = text_stays m.detail coding.AnyUtf8 q
kind_brief_stays m heap id (kind.TextLine q) parts = text_stays m.detail coding.RawEscape q
kind_brief_stays m heap id (kind.Bytes q) parts = payload_stays m.detail (codes "bytes ") q refl
kind_brief_stays m heap id (kind.ByteArray q) parts = payload_stays m.detail (codes "bytearray ") q refl
kind_brief_stays m heap id (kind.Global names) parts = global_stays m id (global_pair names.first names.second)
kind_brief_stays m heap id kind.StackGlobal parts = global_stays m id (stack_pair heap parts)
kind_brief_stays m heap id (kind.Ext n) parts = ext_stays n
kind_brief_stays m heap id _ parts = id_stays id

brief_stays : (m : Naming) (heap : List Object) (id : ℕ) → Stays (brief_text m heap id)
unfolding brief_text
brief_stays m heap id = object_stays (kind_brief m heap id) heap id (kind_brief_stays m heap id)

next_stays : (m : Naming) (heap : List Object) (ids : List ℕ) → Stays (each (next_brief m heap) ids)
unfolding next_brief each
next_stays m heap [] = refl
next_stays m heap (id ∷ ids) = joined (next_brief m heap id) (each (next_brief m heap) ids) (then_stays (codes ", ") (brief_text m heap id) refl (brief_stays m heap id)) (next_stays m heap ids)

comma_stays : (m : Naming) (heap : List Object) (ids : List ℕ) → Stays (comma_list m heap ids)
comma_stays m heap [] = refl
comma_stays m heap (id ∷ ids) = then_stays (brief_text m heap id) (each (next_brief m heap) ids) (brief_stays m heap id) (next_stays m heap ids)

more_stays : (n : ℕ) → Stays (more_text n)
unfolding more_text
more_stays n = if_stays (n == 0) [] (codes ", +" ⧺ decimal n) refl (then_stays (codes ", +") (decimal n) refl (decimal_stays n))

list_stays : (how : Detail) (m : Naming) (heap : List Object) (ids : List ℕ) → Stays (shown_list how m heap ids)
unfolding shown_list cut_list
list_stays detail.Cut m heap ids =
    then_stays (comma_list m heap (take most_objects ids)) (more_text (length ids - most_objects)) (comma_stays m heap (take most_objects ids)) (more_stays (length ids - most_objects))
list_stays detail.Full m heap ids = comma_stays m heap ids

briefs_stay : (m : Naming) (heap : List Object) (ids : List ℕ) → Stays (briefs_text m heap ids)
unfolding briefs_text
briefs_stay m heap ids =
    let list : List ℕ = shown_list m.detail m heap ids in
    then_stays (codes "(" ⧺ list) (codes ")") (then_stays (codes "(") list refl (list_stays m.detail m heap ids)) refl

kind_value_stays : (m : Naming) (heap : List Object) (id : ℕ) (k : Kind) (parts : List ℕ) → Stays (kind_value m heap id k parts)
unfolding kind_value
kind_value_stays m heap id kind.Tuple parts = briefs_stay m heap parts
kind_value_stays m heap id k parts = kind_brief_stays m heap id k parts

pub value_stays : (m : Naming) (heap : List Object) (id : ℕ) → Stays (value_text m heap id)
unfolding value_text
value_stays m heap id = object_stays (kind_value m heap id) heap id (kind_value_stays m heap id)

-- ---- events

call_stays : (m : Naming) (keyword : List ℕ) (heap : List Object) (parts : List ℕ) → Stays keyword → Stays (call_text m keyword heap parts)
unfolding call_text
call_stays m keyword heap parts p =
    two_stay (keyword ⧺ name_text m heap (part 0 parts)) (value_text m heap (part 1 parts))
    (then_stays keyword (name_text m heap (part 0 parts)) p (name_stays m heap (part 0 parts))) (value_stays m heap (part 1 parts))

call_with_stays : (m : Naming) (heap : List Object) (parts : List ℕ) → Stays (call_with_text m heap parts)
unfolding call_with_text
call_with_stays m heap parts = two_stay (call_text m (codes "new ") heap parts) (value_text m heap (part 2 parts)) (call_stays m (codes "new ") heap parts refl) (value_stays m heap (part 2 parts))

inst_stays : (m : Naming) (heap : List Object) (first second parts : List ℕ) → Stays (inst_text m heap first second parts)
unfolding inst_text
inst_stays m heap first second parts =
    two_stay (codes "inst " ⧺ names_text m None (inst_pair first second)) (briefs_text m heap parts)
    (then_stays (codes "inst ") (names_text m None (inst_pair first second)) refl (names_stay m None (inst_pair first second))) (briefs_stay m heap parts)

obj_stays : (m : Naming) (heap : List Object) (parts : List ℕ) → Stays (obj_text m heap parts)
unfolding obj_text
obj_stays m heap parts =
    two_stay (codes "call " ⧺ name_text m heap (part 0 parts)) (briefs_text m heap (drop 1 parts))
    (then_stays (codes "call ") (name_text m heap (part 0 parts)) refl (name_stays m heap (part 0 parts))) (briefs_stay m heap (drop 1 parts))

imports_stay : (m : Naming) (p : Pair) → Stays (codes "import " ⧺ names_text m None p)
imports_stay m p = then_stays (codes "import ") (names_text m None p) refl (names_stay m None p)

made_words_stay : (m : Naming) (heap : List Object) (k : Kind) (parts : List ℕ) → Stays (made_words m heap k parts)
unfolding made_words
made_words_stay m heap (kind.Global names) parts = imports_stay m (global_pair names.first names.second)
made_words_stay m heap kind.StackGlobal parts = imports_stay m (stack_pair heap parts)
made_words_stay m heap (kind.Ext n) parts = then_stays (codes "import ext ") (signed_decimal n) refl (signed_stays n)
made_words_stay m heap (kind.Inst names) parts = inst_stays m heap names.first names.second parts
made_words_stay m heap kind.Call parts = call_stays m (codes "call ") heap parts refl
made_words_stay m heap kind.New parts = call_stays m (codes "new ") heap parts refl
made_words_stay m heap kind.NewEx parts = call_with_stays m heap parts
made_words_stay m heap kind.Obj parts = obj_stays m heap parts
made_words_stay m heap (kind.PersistentLine q) parts = then_stays (codes "persistent ") (whole_text coding.Ascii q) refl (whole_stays coding.Ascii q)
made_words_stay m heap kind.Persistent parts = then_stays (codes "persistent ") (value_text m heap (part 0 parts)) refl (value_stays m heap (part 0 parts))
made_words_stay m heap (kind.Buffer n) parts = then_stays (codes "buffer ") (decimal n) refl (decimal_stays n)
made_words_stay m heap kind.ReadOnly parts = then_stays (codes "readonly ") (id_text (part 0 parts)) refl (id_stays (part 0 parts))
made_words_stay m heap _ parts = refl

made_stays : (m : Naming) (heap : List Object) (id : ℕ) (o : Object) → Stays (made_text m heap id o)
unfolding made_text
made_stays m heap id o =
    then_stays (made_words m heap o.kind o.parts ⧺ codes " as ") (id_text id) (then_stays (made_words m heap o.kind o.parts) (codes " as ") (made_words_stay m heap o.kind o.parts) refl) (id_stays id)

made_at_stays : (m : Naming) (heap : List Object) (id : ℕ) → Stays (made_at m heap id)
made_at_stays m heap id = go (slice_get heap id)
  where
    go : (x : Option Object) → Stays (option_map_or (made_text m heap id) x [])
    go None = refl
    go (Some o) = made_stays m heap id o

state_stays : (m : Naming) (heap : List Object) (value target : ℕ) → Stays (state_text m heap value target)
unfolding state_text
state_stays m heap value target =
    then_stays (codes "state " ⧺ value_text m heap value ⧺ codes " to ") (id_text target)
    (then_stays (codes "state " ⧺ value_text m heap value) (codes " to ") (then_stays (codes "state ") (value_text m heap value) refl (value_stays m heap value)) refl) (id_stays target)

keyword_stays : (f : Filling) → Stays (fill_keyword f) × Stays (fill_link f)
unfolding fill_keyword fill_link
keyword_stays filling.Append = (refl, refl)
keyword_stays filling.SetItem = (refl, refl)
keyword_stays filling.Add = (refl, refl)
keyword_stays filling.Build = (refl, refl)

filled_stays : (f : Filling) (count target : ℕ) → Stays (filled_text f count target)
unfolding filled_text
filled_stays f count target =
    then_stays (fill_keyword f ⧺ decimal count ⧺ fill_link f) (id_text target)
    (then_stays (fill_keyword f ⧺ decimal count) (fill_link f) (then_stays (fill_keyword f) (decimal count) (keyword_stays f).0 (decimal_stays count)) (keyword_stays f).1) (id_stays target)

pub event_stays : (m : Naming) (heap : List Object) (e : Event) → Stays (event_text m heap e)
unfolding event_text
event_stays m heap (event.Made id) = made_at_stays m heap id
event_stays m heap (event.State value target) = state_stays m heap value target
event_stays m heap (event.Filled f count target) = filled_stays f count target
