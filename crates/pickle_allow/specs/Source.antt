-- What objects come of, by name.
-- Source: Lib/pickle.py (CPython 3.11): `load_global`, `load_stack_global`, `find_class` with `fix_imports`; that what calls made goes by the name of
-- what began them, own.
use Rattle.std.specs.Prelude.{ℕ, ℤ, nat_lt, if◌then◌else◌, true, false, List, [], ◌∷◌, ◌++◌, length, slice_get, codes, Option, Some, None}
use Rattle.std.specs.Option.{option_map, option_map_or, unwrap_or}
use Rattle.std.specs.Fmt.{signed_decimal}
use Rattle.pickle_names.specs.declared.coding.Coding.{Coding}
use Rattle.pickle_names.specs.declared.coding.Coding.TheVariants as coding
use Rattle.pickle_names.specs.Value.{Decoded, decode_all}
use Rattle.pickle_names.specs.Renamed.{Import, renamed}
use Rattle.pickle_ops.specs.declared.kind.Kind.{Kind}
use Rattle.pickle_ops.specs.declared.kind.Kind.TheVariants as kind
use Rattle.pickle_ops.specs.Object.{Object}
use Rattle.pickle_allow.specs.Allow.{Source}

-- ---- names

-- a text, if it can be read
abbrev pub if_good : Decoded → Option (List ℕ)
if_good d = if d.good then Some d.value else None

-- the most bytes of one half of a name. A longer one names nothing here, so no list has it: a pickle may ask for one name a million times
abbrev pub longest_name : ℕ
longest_name = 1024

abbrev pub short_text : Coding → List ℕ → Option (List ℕ)
short_text coding bytes = if nat_lt longest_name (length bytes) then None else if_good (decode_all coding bytes)

-- of a line, which is UTF-8
abbrev pub line_text : List ℕ → Option (List ℕ)
line_text line = short_text coding.Utf8 line

-- of a literal: names on the stack are texts in UTF-8, as picklers write them from protocol 4 on, where STACK_GLOBAL is. Strings of Python 2, which
-- are read in an encoding that the environment says, and lines with escapes name nothing here
abbrev pub literal_text : Kind → Option (List ℕ)
literal_text (kind.Text bytes) = short_text coding.AnyUtf8 bytes
literal_text _ = None

abbrev pub text_at : List Object → ℕ → Option (List ℕ)
text_at heap id = option_map_or (λ (o : Object). literal_text o.kind) (slice_get heap id) None

-- of the part of this number, if there is one
abbrev pub of_part : {A : Type 0} → (ℕ → Option A) → Option ℕ → Option A
of_part look None = None
of_part look (Some id) = look id

abbrev pub part_text : List Object → List ℕ → ℕ → Option (List ℕ)
part_text heap parts i = of_part (text_at heap) (slice_get parts i)

-- what `find_class` imports for these names by this protocol, as module, point and member
abbrev pub imported : ℕ → List ℕ → List ℕ → Import
imported proto from name = unwrap_or (if nat_lt proto 3 then renamed from name else None) (record { from = from; name = name })

abbrev pub dotted : Import → List ℕ
dotted i = i.from ++ 46 ∷ i.name

abbrev pub import_name : ℕ → Option (List ℕ) → Option (List ℕ) → Option (List ℕ)
import_name proto (Some from) (Some name) = Some (dotted (imported proto from name))
import_name proto (Some from) None = None
import_name proto None name = None

-- what is no import has a word in place of a name; there is no point in it, as there is in each name of an import. Of an extension: `ext`, a blank and
-- its code
abbrev pub extension_word : ℤ → List ℕ
extension_word code = codes "ext " ++ signed_decimal code

abbrev pub persistent_word : List ℕ
persistent_word = codes "persistent"

abbrev pub buffer_word : List ℕ
buffer_word = codes "buffer"

-- ---- sources

abbrev pub itself : List ℕ → Source
itself name = record { name = name; made = false }

abbrev pub made_of : Option Source → Option Source
made_of None = None
made_of (Some s) = Some (record { name = s.name; made = true })

-- of the object of this number, of which it is listed
abbrev pub source_at : List (Option Source) → ℕ → Option Source
source_at from id = unwrap_or (slice_get from id) None

-- of the first part of an object: the function, or the class
abbrev pub callee_source : List (Option Source) → List ℕ → Option Source
callee_source from parts = of_part (source_at from) (slice_get parts 0)

-- of an object, by those of the objects before it; literals, containers, views and what INST makes have none
abbrev pub source_of : ℕ → List Object → List (Option Source) → Kind → List ℕ → Option Source
source_of proto heap from (kind.Global names) parts = option_map itself (import_name proto (line_text names.first) (line_text names.second))
source_of proto heap from kind.StackGlobal parts = option_map itself (import_name proto (part_text heap parts 0) (part_text heap parts 1))
source_of proto heap from (kind.Ext n) parts = Some (itself (extension_word n))
source_of proto heap from (kind.PersistentLine line) parts = Some (itself persistent_word)
source_of proto heap from kind.Persistent parts = Some (itself persistent_word)
source_of proto heap from (kind.Buffer n) parts = Some (itself buffer_word)
source_of proto heap from kind.Call parts = made_of (callee_source from parts)
source_of proto heap from kind.New parts = made_of (callee_source from parts)
source_of proto heap from kind.NewEx parts = made_of (callee_source from parts)
source_of proto heap from kind.Obj parts = made_of (callee_source from parts)
source_of proto heap from _ parts = None

-- with more objects, one after another
abbrev pub with_more : ℕ → List Object → List (Option Source) → List Object → List (Option Source)
with_more proto heap from [] = from
with_more proto heap from (o ∷ objects) = with_more proto heap (from ++ source_of proto heap from o.kind o.parts ∷ []) objects
