-- The names of what is imported, as they are said and as Python 3 reads them.
-- Source: Lib/pickle.py: `find_class` takes names for those of Python 2 below protocol 3 (`fix_imports` is on by default); `load` begins with
-- protocol 0, and each PROTO sets it. How names are shown is this project's own.
use Rattle.std.specs.Prelude.{ℕ, ◌-◌, ◌&&◌, not, nat_lt, nat_le, if◌then◌else◌, Bool, true, false, List, length, take, drop, slice_get, codes, Option, Some, None}
use Rattle.std.specs.Option.{option_map, option_map_or}
use Rattle.pickle_io.specs.Text.{◌⧺◌, quoted}
use Rattle.pickle_names.specs.declared.coding.Coding.{Coding}
use Rattle.pickle_names.specs.declared.coding.Coding.TheVariants as coding
use Rattle.pickle_names.specs.Value.{decode_all, short_value, whole_text}
use Rattle.pickle_names.specs.Renamed.{Import, renamed, module_renamed}
use Rattle.pickle_ops.specs.declared.row.Row.{Row}
use Rattle.pickle_ops.specs.declared.row.Row.TheVariants as row
use Rattle.pickle_ops.specs.declared.kind.Kind.{Kind}
use Rattle.pickle_ops.specs.declared.kind.Kind.TheVariants as kind
use Rattle.pickle_ops.specs.Object.{Object}
use Rattle.pickle_calls.specs.declared.naming.Detail.{Detail}
use Rattle.pickle_calls.specs.declared.naming.Naming.{Naming}
use Rattle.pickle_calls.specs.declared.name.SpelledText.{SpelledText}
use Rattle.pickle_calls.specs.declared.name.NamePair.{NamePair}
use Rattle.pickle_calls.specs.declared.name.Imported.{Imported}
use Rattle.pickle_text.specs.Words.{id_text}
use Rattle.pickle_calls.specs.Event.{part}

-- ---- which names are those of Python 2

-- a pickle begins, when there are this many objects
abbrev pub begin : Detail → ℕ → Naming
begin how objects = record { detail = how; old = true; since = objects }

-- names are read as of Python 2 or not, from these objects on where they were not before
abbrev pub turned : Bool → ℕ → Naming → Naming
turned true objects m = if m.old then m else record m { old = true; since = objects }
turned false objects m = if m.old then record m { old = false; since = objects } else m

-- after an item, when there are this many objects: after STOP the next pickle begins
abbrev pub naming_after : Row → ℕ → Naming → Naming
naming_after (row.Protocol n) objects m = turned (nat_lt n 3) objects m
naming_after row.Stop objects m = begin m.detail objects
naming_after _ objects m = m

-- whether it may change
abbrev pub turns : Row → Bool
turns (row.Protocol n) = true
turns row.Stop = true
turns _ = false

-- ---- texts

-- a text as it is in a pickle
pub record Spelled : Type 0 where
  pub coding : Coding
  pub bytes : List ℕ

-- what is between quotes
abbrev pub inner : List ℕ → List ℕ
inner q = take (length q - 2) (drop 1 q)

-- an object that is a text
abbrev pub spelled_of : Kind → Option Spelled
spelled_of (kind.Text q) = Some (record { coding = coding.AnyUtf8; bytes = q })
spelled_of (kind.TextLine q) = Some (record { coding = coding.RawEscape; bytes = q })
spelled_of (kind.LegacyString q) = Some (record { coding = coding.Ascii; bytes = q })
spelled_of (kind.LegacyLine q) = Some (record { coding = coding.StringEscape; bytes = inner q })
spelled_of _ = None

abbrev pub spelled_at : List Object → ℕ → Option Spelled
spelled_at heap id = option_map_or (λ (o : Object). spelled_of o.kind) (slice_get heap id) None

abbrev pub in_utf8 : List ℕ → Option Spelled
in_utf8 q = Some (record { coding = coding.Utf8; bytes = q })

abbrev pub in_ascii : List ℕ → Option Spelled
in_ascii q = Some (record { coding = coding.Ascii; bytes = q })

-- ---- two names

-- a name by its value; what is no text by its number
unfoldable pub said_text : Option Spelled → ℕ → List ℕ
said_text (Some s) id = whole_text s.coding s.bytes
said_text None id = id_text id

-- the names of a module and of a member; where one is no text, the object that it is
pub record Pair : Type 0 where
  pub from : Option Spelled
  pub from_id : ℕ
  pub name : Option Spelled
  pub name_id : ℕ

unfoldable pub pair_text : Pair → List ℕ
pair_text p = said_text p.from p.from_id ⧺ codes " " ⧺ said_text p.name p.name_id

abbrev pub short_of : Option Spelled → Option (List ℕ)
short_of (Some s) = short_value s.coding s.bytes
short_of None = None

-- a text that can be read; or no text, which is a name by the time that it is looked up
abbrev pub may_be_name : Option Spelled → Bool
may_be_name (Some s) = (decode_all s.coding s.bytes).good
may_be_name None = true

-- what is imported: from which module, and which member of it, or the one that the names say
pub record NewPair : Type 0 where
  pub from : List ℕ
  pub name : Option (List ℕ)

abbrev pub by_both : Import → NewPair
by_both i = record { from = i.from; name = Some i.name }

abbrev pub by_module : List ℕ → NewPair
by_module from = record { from = from; name = None }

-- a member that is a long text has no row of its own, and that of one which a call makes is not known; its module may have one
abbrev pub renamed_by : Option (List ℕ) → Option (List ℕ) → Bool → Option NewPair
renamed_by (Some from) (Some name) named = option_map by_both (renamed from name)
renamed_by (Some from) None named = if named then option_map by_module (module_renamed from) else None
renamed_by None name named = None

-- what Python 3 imports for them where they are names of Python 2, if that is not what they say
unfoldable pub pair_renamed : Pair → Option NewPair
pair_renamed p = renamed_by (short_of p.from) (short_of p.name) (may_be_name p.name)

abbrev pub member_text : Option (List ℕ) → Pair → List ℕ
member_text (Some name) p = quoted name
member_text None p = said_text p.name p.name_id

unfoldable pub import_text : NewPair → Pair → List ℕ
import_text i p = quoted i.from ⧺ codes " " ⧺ member_text i.name p

unfoldable pub import_for : NewPair → Pair → List ℕ
import_for i p = import_text i p ⧺ codes " for " ⧺ pair_text p

abbrev pub is_text : Option Spelled → Bool
is_text (Some s) = true
is_text None = false

-- the names as they are said; of what was imported as this object they are shown where both are texts, and else its number, so that
-- nothing reads as two objects
abbrev pub said_names : Option ℕ → Pair → List ℕ
said_names None p = pair_text p
said_names (Some id) p = if is_text p.from && is_text p.name then pair_text p else id_text id

-- what is imported now, where it is another import than the names say, and these; or these alone, where they are read as they are
abbrev pub now_text : Bool → NewPair → Pair → List ℕ
now_text old i p = if old then import_for i p else said_names None p

-- what was imported as this object, where it was another import; or its names
abbrev pub known_text : Bool → ℕ → NewPair → Pair → List ℕ
known_text old id i p = if old then import_text i p else said_names (Some id) p

-- another import than the names say: of what is imported now, both; of what was imported as this object, what it is, or where it is not
-- known any more how names were read then, or the member is no text, its number
abbrev pub renamed_text : Naming → Option ℕ → NewPair → Pair → List ℕ
renamed_text m None i p = now_text m.old i p
renamed_text m (Some id) i p = if nat_le m.since id && is_text p.name then known_text m.old id i p else id_text id

abbrev pub names_by : Naming → Option ℕ → Option NewPair → Pair → List ℕ
names_by m object None p = said_names object p
names_by m object (Some i) p = renamed_text m object i p

-- the same of a module that is read so
abbrev pub names_from : Naming → Option ℕ → List ℕ → Pair → List ℕ
names_from m object from p = names_by m object (renamed_by (Some from) (short_of p.name) (may_be_name p.name)) p

-- names of what is imported now, or was as this object
unfoldable pub names_text : Naming → Option ℕ → Pair → List ℕ
names_text m object p = names_by m object (pair_renamed p) p

-- the names are what they say, whatever other import there were
abbrev pub is_as_said : Naming → Option ℕ → Bool
is_as_said m None = not m.old
is_as_said m (Some id) = not m.old && nat_le m.since id

-- the names of GLOBAL, of INST, and of STACK_GLOBAL
abbrev pub global_pair : List ℕ → List ℕ → Pair
global_pair first second = record { from = in_utf8 first; from_id = 0; name = in_utf8 second; name_id = 0 }

abbrev pub inst_pair : List ℕ → List ℕ → Pair
inst_pair first second = record { from = in_ascii first; from_id = 0; name = in_ascii second; name_id = 0 }

abbrev pub stack_pair : List Object → List ℕ → Pair
stack_pair heap parts =
    record { from = spelled_at heap (part 0 parts); from_id = part 0 parts; name = spelled_at heap (part 1 parts); name_id = part 1 parts }

-- ---- as the functions have them

abbrev pub spelled_view : SpelledText → Spelled
spelled_view s = record { coding = s.coding; bytes = s.bytes.now }

abbrev pub pair_view : NamePair → Pair
pair_view p = record { from = option_map spelled_view p.from; from_id = p.from_id; name = option_map spelled_view p.name; name_id = p.name_id }

abbrev pub new_view : Imported → NewPair
new_view i = record { from = i.from.now; name = option_map (λ n. n.now) i.name }
