-- Imports. Python has a statement for names that are identifiers; for others, and where a loader imports something else for names of Python 2,
-- the source asks the loader, by the function `find_class` that it defines.
-- Source: the Python reference, "The import statement"; Lib/pickle.py, `find_class`.
use Rattle.std.specs.Prelude.{ℕ, ◌==◌, ◌&&◌, not, nat_lt, if◌then◌else◌, Bool, false, List, length, codes, decimal, is_some}
use Rattle.pickle_io.specs.Text.{◌⧺◌}
use Rattle.pickle_names.specs.Renamed.{renamed}
use Rattle.source_texts.specs.Name.{member_name}

-- a loader imports something else for names that are read by this protocol
abbrev pub is_renamed : ℕ → List ℕ → List ℕ → Bool
is_renamed protocol from member = if nat_lt protocol 3 then is_some (renamed from member) else false

abbrev pub is_statement : (List ℕ → Bool) → (List ℕ → Bool) → ℕ → List ℕ → List ℕ → Bool
is_statement modules names protocol from member = (modules from && names member) && not (is_renamed protocol from member)

-- `from datetime import date as date_12`
unfoldable pub from_text : (List ℕ → Bool) → List ℕ → List ℕ → ℕ → List ℕ
from_text names from member id = codes "from " ⧺ from ⧺ codes " import " ⧺ member ⧺ (codes " as " ⧺ member_name names member id)

unfoldable pub protocol_word : List ℕ
protocol_word = codes ", protocol="

unfoldable pub find_end : ℕ → List ℕ
find_end protocol = protocol_word ⧺ decimal protocol ⧺ codes ")"

unfoldable pub find_word : List ℕ
find_word = codes " = find_class("

-- a loader refuses a line that is empty before it imports, as this does
unfoldable pub no_name : List ℕ
no_name = codes "unpickle(b'')"

-- a name in a line
unfoldable pub name_literal : (List ℕ → List ℕ) → List ℕ → List ℕ
name_literal text bytes = if length bytes == 0 then no_name else text bytes

-- ` = find_class('builtins', 'str.join', protocol=4)`
unfoldable pub found_call : (List ℕ → List ℕ) → ℕ → List ℕ → List ℕ → List ℕ
found_call text protocol from member = find_word ⧺ name_literal text from ⧺ codes ", " ⧺ name_literal text member ⧺ find_end protocol

unfoldable pub found_text : (List ℕ → List ℕ) → (List ℕ → Bool) → ℕ → List ℕ → List ℕ → ℕ → List ℕ
found_text text names protocol from member id = member_name names member id ⧺ found_call text protocol from member

unfoldable pub import_text : (List ℕ → List ℕ) → (List ℕ → Bool) → (List ℕ → Bool) → ℕ → List ℕ → List ℕ → ℕ → List ℕ
import_text text modules names protocol from member id =
    if is_statement modules names protocol from member
    then from_text names from member id
    else found_text text names protocol from member id

-- of two objects
unfoldable pub found_object : (ℕ → List ℕ) → ℕ → ℕ → ℕ → List ℕ
found_object say protocol from member = find_word ⧺ say from ⧺ codes ", " ⧺ say member ⧺ find_end protocol
