-- The text of JSON: in ASCII, without white space between its tokens. The values are those of the kit's grammar of JSON, in which a string has
-- the bytes of its characters in UTF-8, and a number its text.
-- Source: RFC 8259, sections 2 to 7; which characters are escaped is this project's own choice among those that section 7 leaves.
use Rattle.std.specs.Prelude.{ℕ, ◌+◌, ◌-◌, ◌/◌, ◌%◌, ◌==◌, ◌&&◌, not, nat_le, nat_lt, if◌then◌else◌, Bool, true, false, List, [], ◌∷◌, codes}
use Rattle.std.specs.Char.{digit_char}
use Rattle.std.specs.Str.{chars}
use Rattle.json.specs.Json.{Json, null, boolean, number, string, array, object, Items, no_items, item, Members, no_members, member}
use Rattle.pickle_io.specs.Text.{◌⧺◌}
use Rattle.pickle_io.specs.Device.{each}

-- ---- strings (section 7)

-- a unit of UTF-16, by its four hexadecimal digits
unfoldable pub unit_text : ℕ → List ℕ
unit_text u = 92 ∷ 117 ∷ digit_char (u / 4096) ∷ digit_char (u / 256 % 16) ∷ digit_char (u / 16 % 16) ∷ digit_char (u % 16) ∷ []

-- a character beyond 0xffff, by its surrogate pair
unfoldable pub pair_text : ℕ → List ℕ
pair_text c = unit_text (0xd800 + (c - 0x10000) / 1024) ⧺ unit_text (0xdc00 + (c - 0x10000) % 1024)

-- a character: the quotation mark and the backslash come after a backslash, the others of ASCII that print stand for themselves, and all
-- others are escaped
unfoldable pub char_text : ℕ → List ℕ
char_text c =
    if c == 34 then codes "\\\""
    else if c == 92 then codes "\\\\"
    else if nat_le 32 c && nat_le c 126 then c ∷ []
    else if nat_lt c 0x10000 then unit_text c
    else pair_text c

unfoldable pub chars_text : List ℕ → List ℕ
chars_text cs = each char_text cs

-- a string by the bytes of its characters in UTF-8
unfoldable pub string_text : List ℕ → List ℕ
string_text s = codes "\"" ⧺ chars_text (chars s) ⧺ codes "\""

-- a byte that is a character which stands for itself
abbrev pub is_plain : ℕ → Bool
is_plain b = (nat_le 32 b && nat_le b 126) && (not (b == 34) && not (b == 92))

-- ---- values (sections 3 to 6)

abbrev mutual
  pub value_text : Json → List ℕ
  value_text null = codes "null"
  value_text (boolean true) = codes "true"
  value_text (boolean false) = codes "false"
  value_text (number s) = s
  value_text (string s) = string_text s
  value_text (array js) = codes "[" ⧺ items_text js ⧺ codes "]"
  value_text (object ms) = codes "{" ⧺ members_text ms ⧺ codes "}"

  -- the first of them has no comma before it
  pub items_text : Items → List ℕ
  items_text no_items = []
  items_text (item j js) = value_text j ⧺ more_items js

  pub more_items : Items → List ℕ
  more_items no_items = []
  more_items (item j js) = codes "," ⧺ value_text j ⧺ more_items js

  pub members_text : Members → List ℕ
  members_text no_members = []
  members_text (member name j ms) = string_text name ⧺ codes ":" ⧺ value_text j ⧺ more_members ms

  pub more_members : Members → List ℕ
  more_members no_members = []
  more_members (member name j ms) = codes "," ⧺ string_text name ⧺ codes ":" ⧺ value_text j ⧺ more_members ms
