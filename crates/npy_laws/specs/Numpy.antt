-- What numpy's reader makes of bytes, where it raises nothing: the header, and what it takes for items or gives to an unpickler.
-- Source: numpy's lib/format.py: `read_magic`, `_check_version`, `_read_array_header` (the length of the header is little-endian; the keys are these
-- three), `descr_to_dtype`, `read_array`; and `_convert_from_str` of descriptor.c. numpy also raises where a kind has no items of the
-- size that is told, and where too few bytes are behind the header.
use Rattle.std.specs.Prelude.{ℕ, ◌+◌, ◌-◌, ◌*◌, ◌==◌, ◌&&◌, ◌||◌, nat_le, if◌then◌else◌, Bool, true, false, List, [], ◌∷◌, length, take, drop, get_or, Option, Some, None}
use Rattle.npy_form.specs.Text.{is_digit}
use Rattle.npy_form.specs.Item.{is_order, is_plain, is_time}
use Rattle.npy_form.specs.Npy.{begins_as_array, is_version, text_start, header_size, behind_header}
use Rattle.npy_laws.specs.Written.{is_unit, count_of}
use Rattle.npy_laws.specs.Literal.{Told, read_literal}

-- ---- the type of items

pub record Dtype : Type 0 where
  pub size : ℕ
  pub is_object : Bool

-- '<', '>', '|' or '='
abbrev pub behind_order : List ℕ → List ℕ
behind_order [] = []
behind_order (byte ∷ rest) = if is_order byte || byte == 61 then rest else byte ∷ rest

-- the number at the front, as C's `strtol` reads it, and what is behind it
abbrev pub number_front : ℕ → List ℕ → ℕ
number_front value [] = value
number_front value (byte ∷ rest) = if is_digit byte then number_front (value * 10 + (byte - 48)) rest else value

abbrev pub behind_number : List ℕ → List ℕ
behind_number [] = []
behind_number (byte ∷ rest) = if is_digit byte then behind_number rest else byte ∷ rest

abbrev pub is_nothing : List ℕ → Bool
is_nothing bytes = length bytes == 0

-- texts are told in fours; behind times a unit may stand
abbrev pub numbered : ℕ → List ℕ → Option Dtype
numbered kind rest =
    if is_nothing (behind_number rest) || (is_time kind && is_unit (behind_number rest))
    then Some (record { size = if kind == 85 then number_front 0 rest * 4 else number_front 0 rest; is_object = false })
    else None

-- a kind and a number; or objects. Of other texts (names, fields) nothing is said
abbrev pub dtype_behind : List ℕ → Option Dtype
dtype_behind [] = None
dtype_behind (kind ∷ rest) =
    if kind == 79 then (if is_nothing rest then Some (record { size = 0; is_object = true }) else None)
    else (if (is_plain kind || (kind == 85 || is_time kind)) && is_digit (get_or rest 0 0) then numbered kind rest else None)

abbrev pub dtype_of : List ℕ → Option Dtype
dtype_of descr = dtype_behind (behind_order descr)

-- ---- the array

pub record Loaded : Type 0 where
  pub descr : List ℕ
  pub fortran_order : Bool
  pub shape : List ℕ
  pub size : ℕ
  pub unpickled : Option (List ℕ)  -- what an unpickler is given to read, if one is called
  pub items : List ℕ  -- what is taken for items as it is

abbrev pub loaded : List ℕ → Bool → List ℕ → Dtype → List ℕ → Loaded
loaded descr flag shape dtype behind =
    record {
      descr = descr;
      fortran_order = flag;
      shape = shape;
      size = dtype.size;
      unpickled = if dtype.is_object then Some behind else None;
      items = if dtype.is_object then [] else take (count_of shape * dtype.size) behind;
    }

abbrev pub with_dtype : List ℕ → List ℕ → Bool → List ℕ → Option Dtype → Option Loaded
with_dtype bytes descr flag shape None = None
with_dtype bytes descr flag shape (Some dtype) = Some (loaded descr flag shape dtype (behind_header bytes))

abbrev pub with_keys : List ℕ → Option (List ℕ) → Option Bool → Option (List ℕ) → Option Loaded
with_keys bytes (Some descr) (Some flag) (Some shape) = with_dtype bytes descr flag shape (dtype_of descr)
with_keys bytes d f s = None

abbrev pub with_told : List ℕ → Option Told → Option Loaded
with_told bytes None = None
with_told bytes (Some t) = with_keys bytes t.descr t.fortran_order t.shape

abbrev pub header_text : List ℕ → List ℕ
header_text bytes = take (header_size bytes - text_start bytes) (drop (text_start bytes) bytes)

unfoldable pub numpy_reads : List ℕ → Option Loaded
numpy_reads bytes =
    if begins_as_array bytes && (is_version (get_or bytes 6 0) (get_or bytes 7 0) && nat_le (header_size bytes) (length bytes))
    then with_told bytes (read_literal (header_text bytes))
    else None
