-- Lines, each of which is an object with a kind and further fields, and which fields say what.
-- Source: the objects of RFC 8259, section 4; that a line is one of them is the form named JSON Lines. Kinds and fields are own.
use Rattle.std.specs.Prelude.{ℕ, ℤ, nat_lt, if◌then◌else◌, List, [], ◌∷◌, ◌++◌, codes, decimal, unsigned_abs, map}
use Rattle.std.specs.Fmt.{signed_decimal}
use Rattle.std.specs.Str.{is_utf8}
use Rattle.json.specs.Json.{Json, number, string, array, object, Members, no_members, member}
use Rattle.json.specs.Value.{items_of}
use Rattle.pickle_io.specs.Text.{◌⧺◌, hexadecimal}
use Rattle.json_lines.specs.Json.{value_text, string_text, items_text, more_members}

-- ---- fields

pub record Field : Type 0 where
  pub name : List ℕ
  pub value : Json

-- a field alone. It stays closed in proofs
unfoldable pub field : List ℕ → Json → List Field
field name value = record { name = name; value = value } ∷ []

-- fields and then others. It stays closed in proofs, so that they are known by their parts
infixl 10 ◌⊕◌
unfoldable pub ◌⊕◌ : List Field → List Field → List Field
a ⊕ b = a ++ b

abbrev pub members_of : List Field → Members
members_of [] = no_members
members_of (f ∷ fs) = member f.name f.value (members_of fs)

-- ---- what fields say

-- a whole number; from 2^53 on as text, since readers that take numbers as doubles would round it (section 6)
unfoldable pub whole : ℕ → Json
whole n = if nat_lt n 9007199254740992 then number (decimal n) else string (decimal n)

unfoldable pub integer : ℤ → Json
integer z = if nat_lt (unsigned_abs z) 9007199254740992 then number (signed_decimal z) else string (signed_decimal z)

-- bytes in hexadecimal
unfoldable pub hex : List ℕ → Json
hex bytes = string (hexadecimal bytes)

-- bytes: as text where they are UTF-8, else in hexadecimal under another name
unfoldable pub bytes_field : List ℕ → List ℕ → List ℕ → List Field
bytes_field name hex_name bytes = if is_utf8 bytes then field name (string bytes) else field hex_name (hex bytes)

-- whole numbers, one after another
unfoldable pub numbers_json : List ℕ → Json
numbers_json ns = array (items_of (map whole ns))

-- ---- lines

-- fields after others
unfoldable pub fields_text : List Field → List ℕ
fields_text fs = more_members (members_of fs)

-- the first field of each line
abbrev pub kind_field : List ℕ → List Field
kind_field kind = field (codes "kind") (string kind)

-- the object of a line
abbrev pub line_object : List ℕ → List Field → Json
line_object kind fs = object (members_of (kind_field kind ⊕ fs))

unfoldable pub line : List ℕ → List Field → List ℕ
line kind fs = value_text (line_object kind fs) ⧺ codes "\n"

-- ---- how a line is put together

-- up to its kind
unfoldable pub begun : List ℕ → List ℕ
begun kind = codes "{\"kind\":" ⧺ string_text kind

-- the numbers of an array, and one after another
unfoldable pub numbers_text : List ℕ → List ℕ
numbers_text ns = items_text (items_of (map whole ns))

unfoldable pub next_number : ℕ → List ℕ
next_number n = codes "," ⧺ value_text (whole n)

-- what is before the value of a further field
unfoldable pub name_text : List ℕ → List ℕ
name_text name = codes "," ⧺ string_text name ⧺ codes ":"
