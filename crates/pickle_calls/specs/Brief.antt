-- Objects in brief: what is named by its names, plain values by what they are, and all else by its number. An object is never
-- looked into but for the two names of what is imported.
-- Source: own.
use Rattle.std.specs.Prelude.{ℕ, ◌-◌, ◌==◌, if◌then◌else◌, List, [], ◌∷◌, length, take, slice_get, codes, decimal, Some}
use Rattle.std.specs.Option.{option_map_or}
use Rattle.pickle_io.specs.Text.{◌⧺◌, quoted}
use Rattle.pickle_io.specs.Device.{each}
use Rattle.pickle_ops.specs.Text.{long_text}
use Rattle.pickle_ops.specs.declared.kind.Kind.{Kind}
use Rattle.pickle_ops.specs.declared.kind.Kind.TheVariants as kind
use Rattle.pickle_ops.specs.Object.{Object}
use Rattle.pickle_text.specs.Words.{id_text, kind_text}
use Rattle.pickle_names.specs.declared.coding.Coding.{Coding}
use Rattle.pickle_names.specs.declared.coding.Coding.TheVariants as coding
use Rattle.pickle_names.specs.Value.{Decoded, decode, whole_text}
use Rattle.pickle_calls.specs.declared.naming.Detail.{Detail}
use Rattle.pickle_calls.specs.declared.naming.Detail.TheVariants as detail
use Rattle.pickle_calls.specs.declared.naming.Naming.{Naming}
use Rattle.pickle_calls.specs.Naming.{inner, global_pair, stack_pair, names_text}

-- the text of an object by its kind and its parts; its number where there is no such object
abbrev pub of_object : (Kind → List ℕ → List ℕ) → List Object → ℕ → List ℕ
of_object text heap id = option_map_or (λ (o : Object). text o.kind o.parts) (slice_get heap id) (id_text id)

-- ---- names

-- what is imported is named by its module and its name, or by its code; any other object by its number
unfoldable pub kind_name : Naming → List Object → ℕ → Kind → List ℕ → List ℕ
kind_name m heap id (kind.Global names) parts = names_text m (Some id) (global_pair names.first names.second)
kind_name m heap id kind.StackGlobal parts = names_text m (Some id) (stack_pair heap parts)
kind_name m heap id (kind.Ext n) parts = kind_text (kind.Ext n)
kind_name m heap id _ parts = id_text id

unfoldable pub name_text : Naming → List Object → ℕ → List ℕ
name_text m heap id = of_object (kind_name m heap id) heap id

-- ---- texts that are cut

-- at how many bytes a payload is cut, and at how many objects a list
abbrev pub most_bytes : ℕ
most_bytes = 64

abbrev pub most_objects : ℕ
most_objects = 16

-- how many bytes more there are, if any
unfoldable pub over_text : ℕ → List ℕ
over_text n = if n == 0 then [] else codes "+" ⧺ decimal n

-- the first bytes of a payload in quotes, and how many more there are
unfoldable pub cut_quoted : List ℕ → List ℕ
cut_quoted q = quoted (take most_bytes q) ⧺ over_text (length q - most_bytes)

-- the same after a keyword
unfoldable pub cut_after : List ℕ → List ℕ → List ℕ
cut_after keyword q = keyword ⧺ cut_quoted q

-- at how many characters a text is cut
abbrev pub most_characters : ℕ
most_characters = 64

-- the first characters of a text by their value, and how many more bytes there are
abbrev pub cut_decoded : Decoded → List ℕ
cut_decoded d = quoted d.value ⧺ over_text (length d.rest)

-- the same, or where one of the characters cannot be read, the first bytes
abbrev pub cut_value : Decoded → List ℕ → List ℕ
cut_value d bytes = if d.good then cut_decoded d else cut_after (codes "raw ") bytes

unfoldable pub cut_text : Coding → List ℕ → List ℕ
cut_text c bytes = cut_value (decode c most_characters bytes) bytes

-- the number of the first bytes, or these bytes, and how many more there are
unfoldable pub cut_long : List ℕ → List ℕ
cut_long bytes = long_text (take most_bytes bytes) ⧺ over_text (length bytes - most_bytes)

-- ---- texts that are cut or shown in full

-- a payload in quotes, after a keyword
unfoldable pub shown_quoted : Detail → List ℕ → List ℕ
shown_quoted detail.Cut q = cut_quoted q
shown_quoted detail.Full q = quoted q

unfoldable pub payload_after : Detail → List ℕ → List ℕ → List ℕ
payload_after how keyword q = keyword ⧺ shown_quoted how q

-- a text by its value, or where it cannot be read by its bytes
unfoldable pub shown_text : Detail → Coding → List ℕ → List ℕ
shown_text detail.Cut c bytes = cut_text c bytes
shown_text detail.Full c bytes = whole_text c bytes

unfoldable pub text_after : Detail → List ℕ → Coding → List ℕ → List ℕ
text_after how keyword c bytes = keyword ⧺ shown_text how c bytes

-- a long number
unfoldable pub shown_long : Detail → List ℕ → List ℕ
shown_long detail.Cut bytes = cut_long bytes
shown_long detail.Full bytes = long_text bytes

unfoldable pub long_after : Detail → List ℕ → List ℕ
long_after how bytes = codes "int " ⧺ shown_long how bytes

-- ---- objects in brief

-- most as in the line of an object; texts by their value, and one of Unicode alone
unfoldable pub kind_brief : Naming → List Object → ℕ → Kind → List ℕ → List ℕ
kind_brief m heap id kind.None parts = kind_text kind.None
kind_brief m heap id kind.True parts = kind_text kind.True
kind_brief m heap id kind.False parts = kind_text kind.False
kind_brief m heap id (kind.Int n) parts = kind_text (kind.Int n)
kind_brief m heap id (kind.Long bytes) parts = long_after m.detail bytes
kind_brief m heap id (kind.IntLine q) parts = payload_after m.detail (codes "int-line ") q
kind_brief m heap id (kind.LongLine q) parts = payload_after m.detail (codes "long-line ") q
kind_brief m heap id (kind.FloatLine q) parts = payload_after m.detail (codes "float-line ") q
kind_brief m heap id (kind.Float bytes) parts = kind_text (kind.Float bytes)
kind_brief m heap id (kind.LegacyString q) parts = text_after m.detail (codes "string ") coding.Ascii q
kind_brief m heap id (kind.LegacyLine q) parts = text_after m.detail (codes "string ") coding.StringEscape (inner q)
kind_brief m heap id (kind.Text q) parts = shown_text m.detail coding.AnyUtf8 q
kind_brief m heap id (kind.TextLine q) parts = shown_text m.detail coding.RawEscape q
kind_brief m heap id (kind.Bytes q) parts = payload_after m.detail (codes "bytes ") q
kind_brief m heap id (kind.ByteArray q) parts = payload_after m.detail (codes "bytearray ") q
kind_brief m heap id (kind.Global names) parts = codes "global " ⧺ names_text m (Some id) (global_pair names.first names.second)
kind_brief m heap id kind.StackGlobal parts = codes "global " ⧺ names_text m (Some id) (stack_pair heap parts)
kind_brief m heap id (kind.Ext n) parts = kind_text (kind.Ext n)
kind_brief m heap id _ parts = id_text id

-- an object in brief
unfoldable pub brief_text : Naming → List Object → ℕ → List ℕ
brief_text m heap id = of_object (kind_brief m heap id) heap id

-- ---- objects in a row

-- one object more, after a comma
unfoldable pub next_brief : Naming → List Object → ℕ → List ℕ
next_brief m heap id = codes ", " ⧺ brief_text m heap id

-- objects with commas between them
abbrev pub comma_list : Naming → List Object → List ℕ → List ℕ
comma_list m heap [] = []
comma_list m heap (id ∷ ids) = brief_text m heap id ⧺ each (next_brief m heap) ids

-- how many objects more there are, if any
unfoldable pub more_text : ℕ → List ℕ
more_text n = if n == 0 then [] else codes ", +" ⧺ decimal n

-- the first objects, and how many more there are
unfoldable pub cut_list : Naming → List Object → List ℕ → List ℕ
cut_list m heap ids = comma_list m heap (take most_objects ids) ⧺ more_text (length ids - most_objects)

-- the first objects, or all
unfoldable pub shown_list : Detail → Naming → List Object → List ℕ → List ℕ
shown_list detail.Cut m heap ids = cut_list m heap ids
shown_list detail.Full m heap ids = comma_list m heap ids

-- objects in brackets
unfoldable pub briefs_text : Naming → List Object → List ℕ → List ℕ
briefs_text m heap ids = codes "(" ⧺ shown_list m.detail m heap ids ⧺ codes ")"

-- an object that is given to a call, or becomes a state: of a tuple its parts, of any other object what it is in brief
unfoldable pub kind_value : Naming → List Object → ℕ → Kind → List ℕ → List ℕ
kind_value m heap id kind.Tuple parts = briefs_text m heap parts
kind_value m heap id k parts = kind_brief m heap id k parts

unfoldable pub value_text : Naming → List Object → ℕ → List ℕ
value_text m heap id = of_object (kind_value m heap id) heap id
