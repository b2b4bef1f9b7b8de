-- The text of whether a loader of some bytes reaches something, and what is left of it where it is not finished.
-- Source: own.
use Rattle.std.specs.Prelude.{◌≡◌, ℕ, Bool, true, false, List, [], codes, decimal}
use Rattle.pickle_io.specs.Text.{◌⧺◌}
use Rattle.pickle_io.specs.Device.{Told}
use Rattle.pickle_ops.specs.Spelling.{Operation}
use Rattle.pickle_text.specs.Column.{newline}
use Rattle.pickle_text.specs.Output.{Output}
use Rattle.pickle_text.specs.declared.stop.TextStop.{TextStop}
use Rattle.pickle_text.specs.declared.stop.TextStop.TheVariants as cut
use Rattle.pickle_reach.specs.declared.granted.Granted.{Granted}
use Rattle.pickle_reach.specs.declared.answer.Reach.{Reach}
use Rattle.pickle_reach.specs.declared.answer.Reach.TheVariants as answer
use Rattle.pickle_reach.specs.Reach.{IsReach, IsOpAt}
use Rattle.pickle_script.specs.GateText.{WroteText, BrokeText}
use Rattle.pickle_script.specs.PlaceText.{op_text}
use Rattle.pickle_script.specs.declared.stop.Stop.{Stop}
use Rattle.pickle_script.specs.declared.stop.Stop.TheVariants as stop

-- ---- its lines

unfoldable pub nothing_words : List ℕ
nothing_words = codes "nothing reached: every loader ends by "

unfoldable pub whatever_words : List ℕ
whatever_words = codes ", whatever follows"

abbrev pub whatever_text : Bool → List ℕ
whatever_text true = whatever_words
whatever_text false = []

-- the greatest offset at which a loader may stand, and whether nothing is reached whatever bytes follow
unfoldable pub nothing_line : ℕ → Bool → List ℕ
nothing_line offset settled = nothing_words ⧺ decimal offset ⧺ whatever_text settled ⧺ newline

unfoldable pub reached_words : List ℕ
reached_words = codes "reached at "

-- where the opcode is by which something is reached, its name, and after a blank the text of its argument
unfoldable pub reached_line : ℕ → Operation → List ℕ
reached_line offset o = reached_words ⧺ decimal offset ⧺ codes ": " ⧺ op_text o ⧺ newline

unfoldable pub ways_line : List ℕ
ways_line = codes "too many ways to read the bytes\n"

-- ---- the text

abbrev pub nothing_output : ℕ → Bool → Output
nothing_output offset settled = record { text = nothing_line offset settled; status = 0 }

abbrev pub reached_output : ℕ → Operation → Output
reached_output offset o = record { text = reached_line offset o; status = 1 }

abbrev pub ways_output : Output
ways_output = record { text = ways_line; status = 1 }

-- of an answer, with the operation by which a loader reaches something
abbrev pub IsReachOutput : List ℕ → Reach → Output → Type 0
IsReachOutput bytes (answer.Nothing offset settled) o = o ≡ nothing_output offset settled
IsReachOutput bytes (answer.At spot frames) o = (op : Operation) × IsOpAt bytes spot frames op × (o ≡ reached_output spot.offset op)
IsReachOutput bytes answer.TooMany o = o ≡ ways_output

-- of bytes that are given to a loader, which was given this besides
abbrev pub IsReachText : Granted → List ℕ → Output → Type 0
IsReachText g bytes o = (r : Reach) × IsReach g bytes r × IsReachOutput bytes r o

-- ---- not finished

-- it is said once all is read: a beginning was written where the sink failed, and nothing where memory ran out
abbrev pub CutsReach : Granted → List ℕ → Told → Told → TextStop → Type 0
CutsReach g bytes old new cut.Failed = BrokeText (IsReachText g bytes) old new
CutsReach g bytes old new cut.Memory = new ≡ old

abbrev pub StopsReach : Granted → List ℕ → Told → Told → Stop → Type 0
StopsReach g bytes old new stop.Read = ⊥
StopsReach g bytes old new stop.Write = CutsReach g bytes old new cut.Failed
StopsReach g bytes old new stop.TooLarge = CutsReach g bytes old new cut.Memory
StopsReach g bytes old new stop.Memory = CutsReach g bytes old new cut.Memory
