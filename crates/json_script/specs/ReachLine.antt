-- Whether a loader of some bytes reaches something, as a line of JSON.
-- Source: own.
use Rattle.std.specs.Prelude.{◌≡◌, ℕ, Bool, List}
use Rattle.pickle_ops.specs.Spelling.{Operation}
use Rattle.pickle_lenient.specs.declared.taken.Frames.{Frames}
use Rattle.pickle_text.specs.Output.{Output}
use Rattle.pickle_reach.specs.declared.granted.Granted.{Granted}
use Rattle.pickle_reach.specs.declared.spot.Spot.{Spot}
use Rattle.pickle_reach.specs.declared.answer.Reach.{Reach}
use Rattle.pickle_reach.specs.declared.answer.Reach.TheVariants as answer
use Rattle.pickle_reach.specs.Reach.{IsReach, IsOpAt}
use Rattle.pickle_json.specs.ReachFields.{reached_line, nothing_line, ways_line}

abbrev pub nothing_output : ℕ → Bool → Output
nothing_output offset settled = record { text = nothing_line offset settled; status = 0 }

abbrev pub reached_output : Spot → Frames → Operation → Output
reached_output s f o = record { text = reached_line s f o; status = 1 }

abbrev pub ways_output : Output
ways_output = record { text = ways_line; status = 1 }

-- of an answer, with the operation by which a loader reaches something
abbrev pub IsReachOutput : List ℕ → Reach → Output → Type 0
IsReachOutput bytes (answer.Nothing offset settled) o = o ≡ nothing_output offset settled
IsReachOutput bytes (answer.At spot frames) o = (op : Operation) × IsOpAt bytes spot frames op × (o ≡ reached_output spot frames op)
IsReachOutput bytes answer.TooMany o = o ≡ ways_output

-- of bytes that are given to a loader, which was given this besides
abbrev pub IsReachLine : Granted → List ℕ → Output → Type 0
IsReachLine g bytes o = (r : Reach) × IsReach g bytes r × IsReachOutput bytes r o
