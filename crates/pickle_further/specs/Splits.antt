-- Where loaders part that read alike so far: of one frame some have bytes in a buffer, and others were shown them and have them in none.
-- Source: Modules/_pickle.c, `_Unpickler_ReadFromFile`: what a file shows ahead (`peek`) stays in the file. What is taken `taken` says, with its
-- sources.
use Rattle.std.specs.Prelude.{ℕ, ◌==◌, ◌||◌, nat_lt, if◌then◌else◌, Bool, true, false, List, Option, Some, None, Result, Ok, Err}
use Rattle.pickle_ops.specs.declared.fault.FrontFault.{FrontFault}
use Rattle.pickle_lenient.specs.declared.taken.Frames.{Frames}
use Rattle.pickle_lenient.specs.declared.taken.Taken.{Taken}
use Rattle.pickle_lenient.specs.Stream.{taken}
use Rattle.pickle_further.specs.declared.splits.Leaves.{Leaves}

-- what an item leaves, if one is taken
abbrev pub leaves_by : Result Taken FrontFault → Option Leaves
leaves_by (Ok t) = Some (record { lost = t.lost; left = t.left })
leaves_by (Err f) = None

abbrev pub leaves : Frames → ℕ → List ℕ → Option Leaves
leaves f left bytes = leaves_by (taken f left bytes)

-- with bytes in the buffer some of them are lost; or without them a frame begins; or only one of both takes an item
abbrev pub are_apart : Option Leaves → Option Leaves → Bool
are_apart (Some a) (Some b) = a.lost || nat_lt 0 b.left
are_apart (Some a) None = true
are_apart None (Some b) = true
are_apart None None = false

-- those with so many bytes in the buffer and those with none
unfoldable pub splits : Frames → ℕ → List ℕ → Bool
splits f left bytes = if left == 0 then false else are_apart (leaves f left bytes) (leaves f 0 bytes)
