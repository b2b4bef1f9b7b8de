-- The names of what is imported or called, as fields: which of them are shown `Naming` of `pickle_calls` says for the texts for people.
-- Source: own.
use Rattle.std.specs.Prelude.{ℕ, ◌&&◌, nat_le, if◌then◌else◌, Bool, List, Option, Some, None}
use Rattle.json_lines.specs.Line.{Field, field, ◌⊕◌, whole}
use Rattle.pickle_calls.specs.declared.naming.Naming.{Naming}
use Rattle.pickle_calls.specs.Naming.{Spelled, Pair, NewPair, is_text, pair_renamed}
use Rattle.calls_json.specs.declared.said.Said.{Said}
use Rattle.calls_json.specs.declared.said.Said.TheVariants as said
use Rattle.calls_json.specs.SaidNames.{object_name}
use Rattle.calls_json.specs.TextFields.{own_fields, whole_fields}

-- a name by its text, or where it is no text by its object
unfoldable pub said_fields : Said → Option Spelled → ℕ → List Field
said_fields w (Some s) id = whole_fields w s.coding s.bytes
said_fields w None id = field (object_name w) (whole id)

unfoldable pub pair_fields : Pair → List Field
pair_fields p = said_fields said.Module p.from p.from_id ⊕ said_fields said.Name p.name p.name_id

-- the names that the pickle says, where Python 3 imports something else for them
unfoldable pub for_fields : Pair → List Field
for_fields p = said_fields said.ForModule p.from p.from_id ⊕ said_fields said.ForName p.name p.name_id

unfoldable pub member_fields : Option (List ℕ) → Pair → List Field
member_fields (Some name) p = own_fields said.Name name
member_fields None p = said_fields said.Name p.name p.name_id

unfoldable pub import_fields : NewPair → Pair → List Field
import_fields i p = own_fields said.Module i.from ⊕ member_fields i.name p

unfoldable pub import_for_fields : NewPair → Pair → List Field
import_for_fields i p = import_fields i p ⊕ for_fields p

-- an object by its number, under a name
unfoldable pub id_fields : List ℕ → ℕ → List Field
id_fields word id = field word (whole id)

-- the names as they are said; of what was imported as this object its number where one of them is no text
abbrev pub said_names_fields : List ℕ → Option ℕ → Pair → List Field
said_names_fields word None p = pair_fields p
said_names_fields word (Some id) p = if is_text p.from && is_text p.name then pair_fields p else id_fields word id

abbrev pub now_fields : Bool → NewPair → Pair → List Field
now_fields old i p = if old then import_for_fields i p else pair_fields p

abbrev pub known_fields : List ℕ → Bool → ℕ → NewPair → Pair → List Field
known_fields word old id i p = if old then import_fields i p else said_names_fields word (Some id) p

abbrev pub renamed_fields : List ℕ → Naming → Option ℕ → NewPair → Pair → List Field
renamed_fields word m None i p = now_fields m.old i p
renamed_fields word m (Some id) i p = if nat_le m.since id && is_text p.name then known_fields word m.old id i p else id_fields word id

abbrev pub names_by_fields : List ℕ → Naming → Option ℕ → Option NewPair → Pair → List Field
names_by_fields word m object None p = said_names_fields word object p
names_by_fields word m object (Some i) p = renamed_fields word m object i p

-- the names of what is imported now, or was imported as this object, which may have a number under this name instead
unfoldable pub names_fields : List ℕ → Naming → Option ℕ → Pair → List Field
names_fields word m object p = names_by_fields word m object (pair_renamed p) p
