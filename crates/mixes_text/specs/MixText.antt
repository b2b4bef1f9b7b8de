-- What loaders may take that mix ways to do with frames, as lines.
-- Source: own.
use Rattle.std.specs.Prelude.{ℕ, ◌==◌, if◌then◌else◌, Bool, true, false, List, [], length, codes, decimal, Option, Some, None, Result, Ok, Err}
use Rattle.pickle_io.specs.Text.{◌⧺◌}
use Rattle.pickle_io.specs.Device.{each}
use Rattle.pickle_io.specs.declared.hole.Hole.{Hole}
use Rattle.pickle_io.specs.Holes.{in_file}
use Rattle.pickle_ops.specs.declared.fault.FrontFault.{FrontFault}
use Rattle.pickle_ops.specs.Spelling.{Operation}
use Rattle.pickle_ops.specs.Table.{name_of}
use Rattle.pickle_ops.specs.Text.{arg_text}
use Rattle.pickle_lenient.specs.declared.taken.Frames.TheVariants as frames
use Rattle.pickle_lenient.specs.declared.taken.Taken.{Taken}
use Rattle.pickle_text.specs.Column.{right_aligned, newline}
use Rattle.pickle_calls.specs.Manner.{Manner}
use Rattle.pickle_text.specs.Output.{Output}
use Rattle.pickle_further.specs.declared.way.Pickles.{Pickles}
use Rattle.pickle_further.specs.declared.way.Pickles.TheVariants as pickles
use Rattle.pickle_further.specs.Parts.{first_mixed}
use Rattle.pickle_mixes.specs.declared.place.Place.{Place}
use Rattle.pickle_mixes.specs.Acting.{item_at, acting_places}

-- ---- how it is told

pub record MixWords : Type 0 where
  -- above the opcodes
  pub above : List ℕ
  -- of an opcode at an offset in the file
  pub taken : ℕ → Operation → List ℕ
  -- below so many opcodes
  pub below : ℕ → List ℕ
  -- where there are too many ways to read the bytes
  pub too_many : List ℕ

-- ---- the lines for people

unfoldable pub above_words : List ℕ
above_words = codes "a loader that mixes frames may take:"

unfoldable pub above_line : List ℕ
above_line = above_words ⧺ newline

abbrev pub behind_name : List ℕ → Option (List ℕ) → List ℕ
behind_name name None = name
behind_name name (Some arg) = name ⧺ codes " " ⧺ arg

-- its name, and after a blank the text of its argument
unfoldable pub op_text : Operation → List ℕ
op_text o = behind_name (name_of o.opcode) (arg_text o)

-- where it is, at the right of five places
unfoldable pub taken_line : ℕ → Operation → List ℕ
taken_line offset o = right_aligned 5 (decimal offset) ⧺ codes ": " ⧺ op_text o ⧺ newline

unfoldable pub below_line : ℕ → List ℕ
below_line count = decimal count ⧺ codes " opcodes" ⧺ newline

unfoldable pub many_words : List ℕ
many_words = codes "too many ways to mix frames"

unfoldable pub many_line : List ℕ
many_line = many_words ⧺ newline

abbrev pub mixes_for_people : MixWords
mixes_for_people = record { above = above_line; taken = taken_line; below = below_line; too_many = many_line }

-- ---- the text

-- the item at a place
abbrev pub item_text : MixWords → List Hole → Place → Result Taken FrontFault → List ℕ
item_text say holes p (Ok t) = say.taken (in_file holes p.offset) t.op
item_text say holes p (Err f) = []

unfoldable pub place_text : MixWords → List Hole → List ℕ → Place → List ℕ
place_text say holes bytes p = item_text say holes p (item_at bytes frames.Held p)

abbrev pub found_text : MixWords → List Hole → List ℕ → Option (List Place) → List ℕ
found_text say holes bytes (Some places) = say.above ⧺ (each (place_text say holes bytes) places ⧺ say.below (length places))
found_text say holes bytes None = say.too_many

-- whether pickles behind the first STOP are read
abbrev pub goes_on : Pickles → Bool
goes_on pickles.First = false
goes_on pickles.All = true
goes_on pickles.OneMemo = true

unfoldable pub all_text : MixWords → List Hole → Bool → List ℕ → List ℕ
all_text say holes many bytes = found_text say holes bytes (acting_places many bytes)

-- where frames may be mixed
abbrev pub mixed_text : MixWords → List Hole → Pickles → List ℕ → Option ℕ → List ℕ
mixed_text say holes p bytes (Some offset) = all_text say holes (goes_on p) bytes
mixed_text say holes p bytes None = []

-- behind lines with this status: with status 0 no loader goes on
abbrev pub mixes_behind : MixWords → Manner → Pickles → List ℕ → ℕ → List ℕ
mixes_behind say how p bytes status = if status == 0 then [] else mixed_text say how.holes p bytes (first_mixed how.detail p bytes)

-- lines with those of mixes
abbrev pub with_mixes : MixWords → Manner → Pickles → List ℕ → Output → Output
with_mixes say how p bytes o = record { text = o.text ⧺ mixes_behind say how p bytes o.status; status = o.status }
