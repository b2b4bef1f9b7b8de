-- What becomes of a source that is read whole, where it has no more bytes than a limit.
use Rattle.std.specs.Prelude.{◌≡◌, ◌+◌, ◌<◌, ◌≤◌, ℕ, List, length, Option}
use Rattle.std.specs.Io.KnownBytes.{Consumes, IsAtEnd}
use Rattle.pickle_io.specs.Device.{KeepsOrForgets}
use Rattle.pickle_io.specs.declared.whole.ReadStop.{ReadStop}
use Rattle.pickle_io.specs.declared.whole.ReadStop.TheVariants as stop

-- these are all bytes that a source had yet to give, and they are no more than the limit
pub record IsWhole (old new : Option (List ℕ)) (limit : ℕ) (bytes : List ℕ) : Type 0 where
  pub gave : Consumes old new bytes
  pub ended : IsAtEnd new
  pub within : length bytes ≤ limit

-- a source gave these bytes, and then it gave none: it has yet to give the rest, or no longer reports what it has
abbrev pub GaveBefore : Option (List ℕ) → Option (List ℕ) → List ℕ → Type 0
GaveBefore old new bytes = (between : Option (List ℕ)) × Consumes old between bytes × KeepsOrForgets between new

-- what a source gave where it is not read whole: before a failure no more than the limit, one byte past a limit that is
-- too small, and where there was no memory some bytes within the limit
abbrev pub StopsSo : Option (List ℕ) → Option (List ℕ) → ℕ → ReadStop → Type 0
StopsSo old new limit stop.Failed = (bytes : List ℕ) × (length bytes ≤ limit) × GaveBefore old new bytes
StopsSo old new limit stop.TooLarge = (bytes : List ℕ) × (length bytes ≡ limit + 1) × Consumes old new bytes
StopsSo old new limit stop.Memory = (bytes : List ℕ) × (0 < length bytes) × (length bytes ≤ limit) × Consumes old new bytes
