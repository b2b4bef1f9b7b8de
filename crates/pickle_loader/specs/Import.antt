-- A line of an import is only the line of such an import, wherever it stands in the text of `calls`.
-- Source: own.
use Rattle.std.specs.Prelude.{◌≡◌, ℕ, ◌^◌, ◌<◌, Bool, true, List, length, slice_get, codes, decimal, Option, Some, None}
use Rattle.pickle_io.specs.Text.{◌⧺◌, quoted}
use Rattle.pickle_names.specs.Value.{decode_all}
use Rattle.pickle_ops.specs.Object.{Object}
use Rattle.pickle_io.specs.declared.hole.Hole.{Hole}
use Rattle.pickle_io.specs.Holes.{in_file}
use Rattle.pickle_calls.specs.declared.event.Event.TheVariants as event
use Rattle.pickle_text.specs.Column.{right_aligned, newline}
use Rattle.pickle_text.specs.Words.{id_text}
use Rattle.pickle_calls.specs.Manner.{Manner}
use Rattle.pickle_calls.specs.Naming.{Spelled, Pair, NewPair}
use Rattle.pickle_text.specs.Output.{Output}
use Rattle.calls_laws.specs.LineLaws.{cut_lines, names_of, import_said}
use Rattle.pickle_further.specs.declared.way.Pickles.{Pickles}
use Rattle.pickle_further.specs.declared.way.Way.{Way}
use Rattle.pickle_further.specs.Going.{Standing, going}
use Rattle.pickle_further.specs.CallsText.{IsCallsText}
use Rattle.pickle_loader.specs.Text.{IsAmong}
use Rattle.pickle_loader.specs.EventLine.{IsOfItem}

-- the line of an import of this object by these names; while they are names of Python 2, with what Python 3 imports for them
abbrev pub import_line : Bool → Option NewPair → List ℕ → List ℕ → ℕ → ℕ → List ℕ
import_line old other from name offset id =
    right_aligned 5 (decimal offset) ⧺ codes ": " ⧺ (codes "import " ⧺ import_said old other from name ⧺ codes " as " ⧺ id_text id) ⧺ newline

-- a text can be read, and is said as this one
abbrev pub IsSaid : Option Spelled → List ℕ → Type 0
IsSaid (Some s) text = ((decode_all s.coding s.bytes).good ≡ true) × (quoted (decode_all s.coding s.bytes).value ≡ quoted text)
IsSaid None text = ⊥

-- an item of a reading imports an object by names that are said as these; its offset and the number of the object are written as these
pub record IsImport (holes : List Hole) (from name : List ℕ) (offset id : ℕ) (w : Way) (q : Standing) : Type 0 where
  pub made : ℕ
  pub event : (going w q).gone.event ≡ Some (event.Made made)
  pub object : Object
  pub there : slice_get (going w q).state.heap made ≡ Some object
  pub pair : Pair
  pub names : names_of (going w q).state.heap object ≡ Some pair
  pub from_is : IsSaid pair.from from
  pub name_is : IsSaid pair.name name
  pub number_is : decimal made ≡ decimal id
  pub offset_is : right_aligned 5 (decimal (in_file holes q.at.offset)) ≡ right_aligned 5 (decimal offset)

-- this item of a reading that is in the text is such an import, and this is its line
pub record ImportsIt (how : Manner) (p : Pickles) (bytes : List ℕ) (line from name : List ℕ) (offset id : ℕ) : Type 0 where
  pub item : IsOfItem how p bytes line
  pub import : IsImport how.holes from name offset id item.way item.standing

-- whatever bytes are read, and in each way: a line of an import by these names, wherever it stands in the text, is the line of an item that
-- imports by names said as these; the number of the object and the offset are written alike
abbrev pub OnlyImportsSayImport : Type 0
OnlyImportsSayImport = (how : Manner) (p : Pickles) (bytes : List ℕ) (o : Output) → IsCallsText how p bytes o → length bytes < 2 ^ 64
    → (old : Bool) (other : Option NewPair) (from name : List ℕ) (offset id : ℕ) → IsAmong (import_line old other from name offset id) (cut_lines o.text)
    → ImportsIt how p bytes (import_line old other from name offset id) from name offset id
