-- What the reader of lenient fronts answers.
use Rattle.std.specs.Prelude.{◌≡◌, ℕ, ◌<◌, ◌≤◌, Bool, true, false, List, length, Ok, Err, ⊤}
use Rattle.pickle_ops.specs.declared.row.Row.{Row}
use Rattle.pickle_ops.specs.declared.fault.FrontFault.{FrontFault}
use Rattle.pickle_ops.specs.declared.fault.FrontFault.TheVariants as fault
use Rattle.pickle_ops.specs.Spelling.{Operation}
use Rattle.pickle_doc.specs.DocUnit.{frame_op}
use Rattle.pickle_lenient.specs.Row.{is_far}
use Rattle.pickle_lenient.specs.declared.fault.NotTaken.{NotTaken}
use Rattle.pickle_lenient.specs.declared.fault.NotTaken.TheVariants as stop
use Rattle.pickle_lenient.specs.Lenient.{lenient, faulty}

-- this is what loaders read; GET and PUT of a number of more than 64 bits come as the FRAME of 0
pub record IsLenient (bytes : List ℕ) (o : Operation) (r : Row) (size : ℕ) : Type 0 where
  pub is : lenient bytes ≡ Ok (record { op = o; row = r; size = size })
  pub some : 0 < size
  pub within : size ≤ length bytes
  pub far : is_far r ≡ true → o ≡ frame_op 0

-- they end at this fault, or memory ran out
abbrev pub IsNotLenient : List ℕ → NotTaken → Type 0
IsNotLenient bytes (stop.Fault f) = lenient bytes ≡ Err f
IsNotLenient bytes stop.Memory = ⊤

-- the same of bytes whose front has this fault
pub record IsFaulty (bytes : List ℕ) (f : FrontFault) (o : Operation) (r : Row) (size : ℕ) : Type 0 where
  pub is : faulty bytes f ≡ Ok (record { op = o; row = r; size = size })
  pub some : 0 < size
  pub within : size ≤ length bytes
  pub far : is_far r ≡ true → o ≡ frame_op 0

abbrev pub IsNotFaulty : List ℕ → FrontFault → NotTaken → Type 0
IsNotFaulty bytes f (stop.Fault g) = faulty bytes f ≡ Err g
IsNotFaulty bytes f stop.Memory = ⊤

-- bytes with this fault at their front hold the whole of it
abbrev pub ends_at : FrontFault → Bool
ends_at fault.Ended = false
ends_at fault.Truncated = false
ends_at _ = true
