-- Which imports lead to the unpickler that loads the pickle: to its class, its table of opcodes, its memo, its file, the frames of its caller, the
-- registries that EXT asks, or the tables by which names are found. A pickle that has one may change what its next opcodes do.
-- Source: Lib/pickle.py, `_Unpickler`, `_Unframer`; Modules/_pickle.c, `Unpickler`, `UnpicklerMemoProxy`; the modules of the standard library that hand
-- out objects, frames, modules and files, as their documentation says. The rows are this project's own. What runs code that it is given is not among
-- them.
use Rattle.std.specs.Prelude.{ℕ, ◌==◌, ◌&&◌, ◌||◌, not, nat_lt, if◌then◌else◌, Bool, true, false, List, [], ◌∷◌, length, take, drop, slice_get, codes, zero, suc, Option, Some, None}
use Rattle.std.specs.Option.{option_map_or}
use Rattle.std.specs.List.{list_all, list_any}
use Rattle.std.specs.Str.{bytes_eq}
use Rattle.pickle_io.specs.Text.{◌⧺◌}
use Rattle.pickle_names.specs.declared.coding.Coding.{Coding}
use Rattle.pickle_names.specs.declared.coding.Coding.TheVariants as coding
use Rattle.pickle_names.specs.Value.{decode_all}
use Rattle.pickle_ops.specs.declared.kind.Kind.{Kind}
use Rattle.pickle_ops.specs.declared.kind.Kind.TheVariants as kind
use Rattle.pickle_ops.specs.Object.{Object}
use Rattle.pickle_text.specs.Column.{newline}
use Rattle.pickle_text.specs.Words.{id_text}
use Rattle.pickle_calls.specs.Naming.{inner}
use Rattle.pickle_calls.specs.declared.event.Event.{Event}
use Rattle.pickle_calls.specs.declared.event.Event.TheVariants as event
use Rattle.pickle_further.specs.declared.leads.TheConstants.{LEADING}

-- ---- names

abbrev pub is_point : ℕ → Bool
is_point c = c == 46

abbrev pub ends_part : List ℕ → Bool
ends_part [] = true
ends_part (c ∷ rest) = is_point c

-- a dotted name begins with these parts
abbrev pub begins : List ℕ → List ℕ → Bool
begins parts name = if nat_lt (length name) (length parts) then false else bytes_eq (take (length parts) name) parts && ends_part (drop (length parts) name)

-- a rest of it does that stands behind a point
abbrev pub begins_behind : List ℕ → List ℕ → Bool
begins_behind parts [] = false
begins_behind parts (c ∷ name) = (is_point c && begins parts name) || begins_behind parts name

-- these parts stand in it side by side
abbrev pub has_parts : List ℕ → List ℕ → Bool
has_parts parts name = begins parts name || begins_behind parts name

-- the parts behind a point begin a dotted name
abbrev pub rest_begins : List ℕ → List ℕ → Bool
rest_begins [] name = false
rest_begins (c ∷ parts) name = is_point c && begins parts name

-- the first of these parts are a whole module, and the others begin the name of its member
abbrev pub begins_over : List ℕ → List ℕ → List ℕ → Bool
begins_over parts from name =
    if nat_lt (length parts) (length from) then false else bytes_eq (take (length from) parts) from && rest_begins (drop (length from) parts) name

-- by a row: these parts stand side by side in the name of a module or of its member, or the module's name and the member's begin with them
abbrev pub row_leads : List ℕ → List ℕ → List ℕ → Bool
row_leads parts from name = has_parts parts from || has_parts parts name || begins_over parts from name

unfoldable pub names_lead : List ℕ → List ℕ → Bool
names_lead from name = list_any (λ r. row_leads r.now from name) LEADING

-- ---- imports

abbrev pub is_no_backslash : ℕ → Bool
is_no_backslash c = not (c == 92)

abbrev pub if_plain : List ℕ → Option (List ℕ)
if_plain text = if list_all is_no_backslash text then Some text else None

-- a text that can be read: CPython raises at any other, but a program may choose how errors are handled, and so may a pickle (codecs.register_error)
abbrev pub if_read : Coding → List ℕ → Option (List ℕ)
if_read c text = if (decode_all c text).good then Some text else None

abbrev pub and_read : Coding → Option (List ℕ) → Option (List ℕ)
and_read c (Some text) = if_read c text
and_read c None = None

-- the name that a text is; none where it cannot be read, is spelled with escapes, as no pickler spells a name, or is no text
abbrev pub name_of : Kind → Option (List ℕ)
name_of (kind.Text text) = if_read coding.AnyUtf8 text
name_of (kind.TextLine text) = if_plain text
name_of (kind.LegacyString text) = if_read coding.Ascii text
name_of (kind.LegacyLine line) = and_read coding.Ascii (if_plain (inner line))
name_of _ = None

abbrev pub name_at : List Object → Option ℕ → Option (List ℕ)
name_at heap None = None
name_at heap (Some id) = option_map_or (λ (o : Object). name_of o.kind) (slice_get heap id) None

-- an import by names that the bytes do not say may be any
abbrev pub pair_leads : Option (List ℕ) → Option (List ℕ) → Bool
pair_leads (Some from) (Some name) = names_lead from name
pair_leads (Some from) None = true
pair_leads None name = true

abbrev pub coded_lead : Coding → List ℕ → List ℕ → Bool
coded_lead c from name = pair_leads (if_read c from) (if_read c name)

-- an import by two lines, which INST calls at once
abbrev pub lines_lead : Kind → Bool
lines_lead (kind.Global names) = coded_lead coding.Utf8 names.first names.second
lines_lead (kind.Inst names) = coded_lead coding.Ascii names.first names.second
lines_lead _ = false

abbrev pub is_by_parts : Kind → Bool
is_by_parts kind.StackGlobal = true
is_by_parts _ = false

abbrev pub parts_lead : List Object → List ℕ → Bool
parts_lead heap parts = pair_leads (name_at heap (slice_get parts 0)) (name_at heap (slice_get parts 1))

-- an object of this kind is an import that leads there. What an extension imports the registry says
abbrev pub kind_leads : List Object → Kind → List ℕ → Bool
kind_leads heap k parts = lines_lead k || (is_by_parts k && parts_lead heap parts)

unfoldable pub leads_at : List Object → ℕ → Bool
leads_at heap id = option_map_or (λ (o : Object). kind_leads heap o.kind o.parts) (slice_get heap id) false

abbrev pub or_first : Option ℕ → Option ℕ → Option ℕ
or_first (Some id) next = Some id
or_first None next = next

abbrev pub if_leads : Bool → ℕ → Option ℕ
if_leads b id = if b then Some id else None

-- the first of the first n of which this is true
unfoldable pub first_of : (ℕ → Bool) → ℕ → Option ℕ
first_of is zero = None
first_of is (suc n) = or_first (first_of is n) (if_leads (is n) n)

-- the first of all objects
abbrev pub first_leading : List Object → Option ℕ
first_leading heap = first_of (leads_at heap) (length heap)

-- the object that an event makes
abbrev pub event_leads : List Object → Option Event → Option ℕ
event_leads heap (Some (event.Made id)) = if_leads (leads_at heap id) id
event_leads heap (Some (event.State value target)) = None
event_leads heap (Some (event.Filled f count target)) = None
event_leads heap None = None

-- ---- the line

unfoldable pub warning_words : List ℕ
warning_words = codes "warning: "

unfoldable pub leads_words : List ℕ
leads_words = codes " leads to the unpickler"

unfoldable pub warning_line : ℕ → List ℕ
warning_line id = warning_words ⧺ id_text id ⧺ leads_words ⧺ newline

abbrev pub warning_text : Option ℕ → List ℕ
warning_text None = []
warning_text (Some id) = warning_line id

abbrev pub warned_status : Option ℕ → ℕ → ℕ
warned_status None status = status
warned_status (Some id) status = 1
