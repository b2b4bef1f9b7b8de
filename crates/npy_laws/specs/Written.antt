-- An `.npy` file as numpy writes it.
-- Source: numpy's lib/format.py: `_write_array_header` (the keys of the literal are sorted), `_wrap_header` (blanks and a newline behind it),
-- `dtype_to_descr`, `write_array`; and Python's `repr` of a tuple of numbers.
use Rattle.std.specs.Prelude.{◌≡◌, ◌⊎◌, ℕ, ◌+◌, ◌-◌, ◌*◌, ◌%◌, ◌==◌, ◌&&◌, eqb, Bool, true, false, List, [], ◌∷◌, ◌++◌, length, get_or, ⊤}
use Rattle.std.specs.List.{fold, list_all}
use Rattle.npy_form.specs.Text.{is_digit}
use Rattle.npy_form.specs.Item.{is_order, is_plain, is_time, is_word}
use Rattle.npy_form.specs.Npy.{begins_as_array, is_version, text_start, header_size, front_word, order_word, true_word, false_word, shape_word, back_word}

pub record Array : Type 0 where
  pub descr : List ℕ  -- what the items are, as the header has it between quotes
  pub size : ℕ  -- how many bytes one of them has
  pub is_object : Bool
  pub fortran_order : Bool
  pub shape : List ℕ
  pub content : List ℕ  -- what is behind the header

-- ---- numbers

-- the number that digits tell, behind a value
abbrev pub value_behind : ℕ → List ℕ → ℕ
value_behind value digits = fold (λ n digit. n * 10 + (digit - 48)) value digits

-- the digits of a number: no zero is in front
pub record IsDecimal (text : List ℕ) (n : ℕ) : Type 0 where
  pub first : ℕ
  pub others : List ℕ
  pub spelled : text ≡ first ∷ others
  pub digit : is_digit first ≡ true
  pub digits : list_all is_digit others ≡ true
  pub plain : first ≡ 48 → others ≡ []
  pub value : value_behind (first - 48) others ≡ n

-- ---- items

-- letters and digits up to a bracket, which is the last byte
abbrev pub ends_unit : List ℕ → Bool
ends_unit [] = false
ends_unit (byte ∷ []) = byte == 93
ends_unit (byte ∷ next ∷ rest) = is_word byte && ends_unit (next ∷ rest)

-- a unit of times, in brackets
abbrev pub is_unit : List ℕ → Bool
is_unit [] = false
is_unit (byte ∷ rest) = byte == 91 && ends_unit rest

-- how large an item is of which a kind and a number are told, and what stands behind the number: texts are told in fours, times may have a unit
abbrev pub IsSized : ℕ → ℕ → List ℕ → ℕ → Type 0
IsSized kind n behind size =
    ((is_plain kind ≡ true) × ((behind ≡ []) × (size ≡ n))) ⊎ (((kind ≡ 85) × ((behind ≡ []) × (size ≡ n * 4))) ⊎ ((is_time kind ≡ true) × (((behind ≡ []) ⊎ (is_unit behind ≡ true)) × (size ≡ n))))

-- numbers, texts, times or bytes
pub record IsPlain (descr : List ℕ) (size : ℕ) : Type 0 where
  pub order : ℕ
  pub kind : ℕ
  pub digits : List ℕ
  pub behind : List ℕ
  pub told : ℕ
  pub spelled : descr ≡ order ∷ kind ∷ (digits ++ behind)
  pub ordered : is_order order ≡ true
  pub number : IsDecimal digits told
  pub sized : IsSized kind told behind size

-- or objects, '|O'
abbrev pub IsDescr : List ℕ → ℕ → Bool → Type 0
IsDescr descr size true = (descr ≡ 124 ∷ 79 ∷ []) × (size ≡ 0)
IsDescr descr size false = IsPlain descr size

-- ---- shape

-- a comma, a blank and a number, for each axis
abbrev pub AreAxes : List ℕ → List ℕ → Type 0
AreAxes text [] = text ≡ []
AreAxes text (n ∷ ns) = (digits rest : List ℕ) × (text ≡ 44 ∷ 32 ∷ (digits ++ rest)) × IsDecimal digits n × AreAxes rest ns

-- what is in the brackets: a comma is behind a number that is alone
abbrev pub IsShape : List ℕ → List ℕ → Type 0
IsShape text [] = text ≡ []
IsShape text (n ∷ []) = (digits : List ℕ) × (text ≡ digits ++ (44 ∷ [])) × IsDecimal digits n
IsShape text (n ∷ m ∷ ns) = (digits rest : List ℕ) × (text ≡ digits ++ rest) × IsDecimal digits n × AreAxes rest (m ∷ ns)

-- how many items there are: one where there is no axis
abbrev pub count_of : List ℕ → ℕ
count_of shape = fold (λ count n. count * n) 1 shape

-- ---- the literal

abbrev pub flag_word : Bool → List ℕ
flag_word true = true_word
flag_word false = false_word

abbrev pub literal_of : List ℕ → Bool → List ℕ → List ℕ
literal_of descr flag axes = front_word ++ (39 ∷ (descr ++ (order_word ++ (flag_word flag ++ (shape_word ++ (axes ++ (41 ∷ back_word)))))))

-- ---- the file

-- objects have a pickle behind the header, and anything else as many bytes as there are items
abbrev pub IsFilled : Bool → Array → Type 0
IsFilled true a = ⊤
IsFilled false a = length a.content ≡ count_of a.shape * a.size

pub record IsNpy (bytes : List ℕ) (a : Array) : Type 0 where
  pub front : List ℕ  -- what it begins with, the version, and how long the header is
  pub axes : List ℕ
  pub blanks : List ℕ
  pub spelled : bytes ≡ front ++ (literal_of a.descr a.fortran_order axes ++ (blanks ++ (10 ∷ a.content)))
  pub begins : begins_as_array bytes ≡ true
  pub version : is_version (get_or bytes 6 0) (get_or bytes 7 0) ≡ true
  pub front_size : length front ≡ text_start bytes
  pub size_told : length front + (length (literal_of a.descr a.fortran_order axes) + (length blanks + 1)) ≡ header_size bytes
  pub even : header_size bytes % 16 ≡ 0
  pub items : IsDescr a.descr a.size a.is_object
  pub shaped : IsShape axes a.shape
  pub blank : list_all (eqb 32) blanks ≡ true
  pub filled : IsFilled a.is_object a
