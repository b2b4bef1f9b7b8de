-- Which lines and texts may import something. Python imports what stands before the first point of a name before it looks at the rest: so a name
-- whose beginning may be a module's is taken for one, whatever follows. And a loader may have a `find_class` of its own, which has an answer before
-- anything is imported: torch's has one for the names of its storages, whatever the module is called. So a name that contains `Storage` is taken
-- for one that has an answer.
-- Source: Lib/pickle.py: `load_global`, `load_inst` (lines of UTF-8 without escapes), `load_unicode` (escapes). Lib/importlib/_bootstrap.py:
-- `_find_and_load_unlocked` (what is before the last point is imported first). Lib/importlib/_bootstrap_external.py: a module is a file of its name,
-- or in one; Lib/zipimport.py: of a name with `/`, in an archive (with a backslash on Windows). That none has a blank or one of these signs in its
-- name is this project's own. torch/serialization.py (1.11 to 2.x): `find_class` in `_load` and `_legacy_load`.
use Rattle.std.specs.Prelude.{ℕ, ◌==◌, ◌&&◌, ◌||◌, not, eqb, nat_lt, nat_le, if◌then◌else◌, Bool, true, false, List, [], ◌∷◌, length, codes}
use Rattle.std.specs.List.{list_all, starts_with}
use Rattle.pickle_names.specs.declared.coding.Coding.TheVariants as coding
use Rattle.pickle_names.specs.Value.{decode_all}

-- " & ' ( ) * ,
abbrev pub is_sign : ℕ → Bool
is_sign byte = byte == 34 || ((nat_le 38 byte && nat_le byte 42) || byte == 44)

-- : ; < = > ? [ ] { | }
abbrev pub is_bracket : ℕ → Bool
is_bracket byte = (nat_le 58 byte && nat_le byte 63) || (byte == 91 || (byte == 93 || (nat_le 123 byte && nat_le byte 125)))

-- no blank, no control character, none of these signs
abbrev pub is_fine : ℕ → Bool
is_fine byte = nat_lt 32 byte && (not (byte == 127) && (not (is_sign byte) && not (is_bracket byte)))

abbrev pub is_no_backslash : ℕ → Bool
is_no_backslash byte = not (byte == 92)

-- what is imported first ends before a point. A byte that is in no module's name ends it, too
abbrev pub ends_head : ℕ → Bool
ends_head byte = byte == 46 || not (is_fine byte)

-- what is imported first may be a module. (Of a name that begins with a point Python looks for a file of the rest.)
unfoldable pub head_is_fine : List ℕ → Bool
head_is_fine [] = true
head_is_fine (byte ∷ rest) = if ends_head byte then byte == 46 else head_is_fine rest

-- `Storage` stands somewhere in it
unfoldable pub holds_storage : List ℕ → Bool
holds_storage [] = false
holds_storage (byte ∷ text) = starts_with eqb (byte ∷ text) (codes "Storage") || holds_storage text

-- a text, of a module or of what is in it: with a backslash it may be spelled by escapes
abbrev pub text_names : List ℕ → Bool
text_names text = if length text == 0 then false else if list_all is_no_backslash text then head_is_fine text || holds_storage text else true

-- a line, which has no escapes
abbrev pub line_names : List ℕ → Bool
line_names line = if length line == 0 then false else if head_is_fine line then (decode_all coding.Utf8 line).good else false

-- two lines, the second of which names what is in the module
abbrev pub lines_import : List ℕ → List ℕ → Bool
lines_import module_line member_line = line_names module_line || holds_storage member_line
