-- What a caller asks for by options, a bit each, and by the holes that it gives.
-- Source: own.
use Rattle.std.specs.Prelude.{ℕ, ◌+◌, ◌==◌, ◌&&◌, bit_and, not, nat_le, nat_lt, if◌then◌else◌, Bool, true, false, List, [], ◌∷◌, map, Option, Some, None}
use Rattle.pickle_io.specs.declared.hole.Hole.{Hole}
use Rattle.pickle_io.specs.Holes.{may_follow}
use Rattle.pickle_calls.specs.declared.naming.Detail.{Detail}
use Rattle.pickle_calls.specs.declared.naming.Detail.TheVariants as detail
use Rattle.pickle_reach.specs.declared.granted.Granted.{Granted}
use Rattle.pickle_further.specs.declared.way.Pickles.{Pickles}
use Rattle.pickle_further.specs.declared.way.Pickles.TheVariants as pickles
use Rattle.library_answers.specs.declared.asked.GivenHole.{GivenHole}

-- ---- options

abbrev pub is_given : ℕ → ℕ → Bool
is_given options bit = not (bit_and options bit == 0)

-- several pickles that follow one another
abbrev pub is_many : ℕ → Bool
is_many options = is_given options 1

-- frames are not looked at
abbrev pub is_loose : ℕ → Bool
is_loose options = is_given options 2

-- they say how an input is read, and nothing else
abbrev pub are_modes : ℕ → Bool
are_modes options = nat_lt options 4

-- the pickles that are read, where the first alone is wanted and where the memo is kept
abbrev pub pickles_by : Bool → Bool → Option Pickles
pickles_by false false = Some pickles.All
pickles_by true false = Some pickles.First
pickles_by false true = Some pickles.OneMemo
pickles_by true true = None

abbrev pub pickles_of : ℕ → Option Pickles
pickles_of options = if nat_le options 31 then pickles_by (is_given options 4) (is_given options 8) else None

-- of an input, where no option says how a session reads it
abbrev pub pickles_of_input : ℕ → Option Pickles
pickles_of_input options = if is_loose options then None else pickles_of options

abbrev pub detail_by : Bool → Detail
detail_by true = detail.Full
detail_by false = detail.Cut

-- how much of an argument is shown
abbrev pub detail_of : ℕ → Detail
detail_of options = detail_by (is_given options 16)

-- what a loader was given besides the bytes, where these are options for that
abbrev pub granted_of : ℕ → Option Granted
granted_of options = if nat_lt options 8 then Some (record { extensions = is_given options 1; persistent = is_given options 2; buffers = is_given options 4 }) else None

-- ---- holes

abbrev pub hole_of : GivenHole → Hole
hole_of given = record { offset = given.offset; size = given.size }

-- each stands behind those before it, and the first at or behind this offset
abbrev pub stand_from : ℕ → List GivenHole → Bool
stand_from from [] = true
stand_from from (given ∷ more) = may_follow from (hole_of given) && stand_from (given.offset + given.size) more

abbrev pub holes_of : List GivenHole → List Hole
holes_of given = map hole_of given

-- the pickles that are read, where the holes are in order
abbrev pub pickles_left : ℕ → List GivenHole → Option Pickles
pickles_left options given = if stand_from 0 given then pickles_of_input options else None
