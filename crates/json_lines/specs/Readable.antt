-- A line is read back as the object that it is, by the kit's grammar of JSON, and it is one line.
-- Source: the grammar of RFC 8259, as the kit's crate `json` defines it.
use Rattle.std.specs.Prelude.{◌≡◌, ◌≤◌, ◌&&◌, nat_le, Bool, true, ℕ, ℤ, List, [], ◌∷◌, ◌++◌, Some, ⊤}
use Rattle.std.specs.List.{list_all}
use Rattle.std.specs.Str.{IsUtf8}
use Rattle.json.specs.Json.{Json, null, boolean, number, string, array, object, Items, no_items, item, Members, no_members, member, document, max_depth}
use Rattle.json.specs.Print.{IsNumber}
use Rattle.json.specs.Tree.{depth}
use Rattle.json_lines.specs.Line.{Field, field, ◌⊕◌, members_of, whole, integer, hex, bytes_field, line_object, line}

-- each string is UTF-8, and each text of a number is one
abbrev mutual
  pub HasTexts : Json → Type 0
  HasTexts null = ⊤
  HasTexts (boolean b) = ⊤
  HasTexts (number s) = IsNumber s
  HasTexts (string s) = IsUtf8 s
  HasTexts (array js) = ItemsHaveTexts js
  HasTexts (object ms) = MembersHaveTexts ms

  pub ItemsHaveTexts : Items → Type 0
  ItemsHaveTexts no_items = ⊤
  ItemsHaveTexts (item j js) = HasTexts j × ItemsHaveTexts js

  pub MembersHaveTexts : Members → Type 0
  MembersHaveTexts no_members = ⊤
  MembersHaveTexts (member name j ms) = IsUtf8 name × (HasTexts j × MembersHaveTexts ms)

-- a line is read back
abbrev pub LinesReadBack : Type 0
LinesReadBack = (kind : List ℕ) (fs : List Field) → IsUtf8 kind → MembersHaveTexts (members_of fs) → depth (line_object kind fs) ≤ max_depth
    → document (line kind fs) ≡ Some (line_object kind fs)

-- ---- one line

-- a character of ASCII that prints
abbrev pub is_printed : ℕ → Bool
is_printed c = nat_le 32 c && nat_le c 126

-- a text is such characters and then a newline: it has no newline but this one
pub record IsOneLine (text : List ℕ) : Type 0 where
  pub front : List ℕ
  pub prints : list_all is_printed front ≡ true
  pub ends : text ≡ front ++ 10 ∷ []

-- a line is one
abbrev pub LinesEndOnce : Type 0
LinesEndOnce = (kind : List ℕ) (fs : List Field) → IsUtf8 kind → MembersHaveTexts (members_of fs) → IsOneLine (line kind fs)

-- a text is read back as the object with this kind and these fields, in this order, and is one line
pub record ReadsBackAs (text kind : List ℕ) (fs : List Field) : Type 0 where
  pub read : document text ≡ Some (line_object kind fs)
  pub one : IsOneLine text

-- a text is such a line, whatever its kind and its fields
abbrev pub IsLineOfJson : List ℕ → Type 0
IsLineOfJson text = (kind : List ℕ) × (fs : List Field) × ReadsBackAs text kind fs

abbrev pub AreLinesOfJson : List (List ℕ) → Type 0
AreLinesOfJson [] = ⊤
AreLinesOfJson (text ∷ texts) = IsLineOfJson text × AreLinesOfJson texts

abbrev pub all_texts : List (List ℕ) → List ℕ
all_texts [] = []
all_texts (text ∷ texts) = text ++ all_texts texts

-- a text is such lines, one after another
pub record IsJsonLines (whole : List ℕ) : Type 0 where
  pub texts : List (List ℕ)
  pub are_lines : AreLinesOfJson texts
  pub in_order : whole ≡ all_texts texts

-- ---- lines of plain fields

-- a field can be read back, and its value is no array and no object
pub record IsPlain (f : Field) : Type 0 where
  pub name : IsUtf8 f.name
  pub value : HasTexts f.value
  pub flat : depth f.value ≡ 0

abbrev pub ArePlain : List Field → Type 0
ArePlain [] = ⊤
ArePlain (f ∷ fs) = IsPlain f × ArePlain fs

-- a line of such fields is read back
abbrev pub PlainLinesReadBack : Type 0
PlainLinesReadBack = (kind : List ℕ) (fs : List Field) → IsUtf8 kind → ArePlain fs → document (line kind fs) ≡ Some (line_object kind fs)

-- fields are plain that say whole numbers of any size, texts, or bytes; and so are such fields one after another
pub record FieldsArePlain : Type 0 where
  pub wholes : (name : List ℕ) (n : ℕ) → IsUtf8 name → ArePlain (field name (whole n))
  pub integers : (name : List ℕ) (z : ℤ) → IsUtf8 name → ArePlain (field name (integer z))
  pub texts : (name text : List ℕ) → IsUtf8 name → IsUtf8 text → ArePlain (field name (string text))
  pub hexadecimal : (name bytes : List ℕ) → IsUtf8 name → ArePlain (field name (hex bytes))
  pub bytes : (name hex_name bytes : List ℕ) → IsUtf8 name → IsUtf8 hex_name → ArePlain (bytes_field name hex_name bytes)
  pub joined : (xs ys : List Field) → ArePlain xs → ArePlain ys → ArePlain (xs ⊕ ys)
