-- What Python 3 imports for the names of Python 2.
-- Source: Lib/pickle.py, `find_class`: `NAME_MAPPING` of `Lib/_compat_pickle.py`, and where that has no row, `IMPORT_MAPPING`.
use Rattle.std.specs.Prelude.{ℕ, ◌/◌, ◌==◌, ◌&&◌, if◌then◌else◌, Bool, false, List, [], ◌∷◌, length, slice_get, slice_index, Option, Some, None}
use Rattle.std.specs.List.{list_any}
use Rattle.std.specs.Str.{bytes_eq}
use Rattle.std.specs.Option.{option_map, option_map_or}
use Rattle.pickle_names.specs.declared.old_names.NewNames.{NewNames}
use Rattle.pickle_names.specs.declared.old_names.TheConstants.{FIRST_LETTERS, MIDDLE_LETTERS}
use Rattle.pickle_names.specs.declared.rows.TheConstants.{NAMES, MODULES}

-- what is imported: from which module, and which member of it
pub record Import : Type 0 where
  pub from : List ℕ
  pub name : List ℕ

abbrev pub import_of : NewNames → Import
import_of r = record { from = r.from.now; name = r.name.now }

-- by the first row of a module, with the name as it is
abbrev pub by_modules : {R : Type 0} → (R → List ℕ) → (R → List ℕ) → List R → List ℕ → List ℕ → Option Import
by_modules old new [] from name = None
by_modules old new (r ∷ rows) from name = if bytes_eq from (old r) then Some (record { from = new r; name = name }) else by_modules old new rows from name

-- by the first row for both names, and where there is none, otherwise
abbrev pub by_names : {R : Type 0} → (R → Import) → (R → Import) → List R → Option Import → List ℕ → List ℕ → Option Import
by_names old new [] otherwise from name = otherwise
by_names old new (r ∷ rows) otherwise from name =
    if bytes_eq from (old r).from && bytes_eq name (old r).name then Some (new r) else by_names old new rows otherwise from name

-- what is imported for names of Python 2, where that is not what they say
unfoldable pub renamed : List ℕ → List ℕ → Option Import
renamed from name =
    by_names (λ r. record { from = r.0.now; name = r.1.now }) (λ r. record { from = r.2.now; name = r.3.now }) NAMES
    (by_modules (λ r. r.0.now) (λ r. r.1.now) MODULES from name) from name

-- the module of a member that is longer than any with a row: by the first row of the module alone
abbrev pub from_of : Import → List ℕ
from_of i = i.from

unfoldable pub module_renamed : List ℕ → Option (List ℕ)
module_renamed from = option_map from_of (by_modules (λ r. r.0.now) (λ r. r.1.now) MODULES from [])

-- ---- which modules have a row

-- the first letters of modules of this length
abbrev pub first_letters : ℕ → List ℕ
first_letters n = option_map_or (λ letters. letters.now) (slice_get FIRST_LETTERS n) []

-- the letters in their middle
abbrev pub middle_letters : ℕ → List ℕ
middle_letters n = option_map_or (λ letters. letters.now) (slice_get MIDDLE_LETTERS n) []

abbrev pub is_among : List ℕ → ℕ → Bool
is_among letters b = list_any (λ c. c == b) letters

-- a module is as long as one that has a row, begins like one, and has the letter of one in its middle
abbrev pub may_have_row : List ℕ → Bool
may_have_row [] = false
may_have_row (b ∷ rest) =
    is_among (first_letters (length (b ∷ rest))) b && is_among (middle_letters (length (b ∷ rest))) (slice_index (b ∷ rest) (length (b ∷ rest) / 2))
