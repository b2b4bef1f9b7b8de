-- What became of a listing that was to be written: of the document that bytes read as, as many pickles or as one, and with all items loose
-- or with frames.
use Rattle.std.specs.Prelude.{ℕ, Bool, List}
use Rattle.pickle_io.specs.Device.{Told}
use Rattle.pickle_text.specs.declared.stop.TextStop.{TextStop}
use Rattle.pickle_text.specs.Output.{Completes, Breaks, Begins, Cuts}
use Rattle.pickle_json.specs.Listing.{listing}

-- the whole listing was written, and this is its status
abbrev pub IsListed : Bool → Bool → List ℕ → Told → Told → ℕ → Type 0
IsListed many loose bytes old new status = Completes listing many loose bytes old new status

-- a beginning of it was written, and then the sink failed
abbrev pub BreaksListing : Bool → Bool → List ℕ → Told → Told → Type 0
BreaksListing many loose bytes old new = Breaks listing many loose bytes old new

-- a beginning of it was written, and no failure came
abbrev pub BeginsListing : Bool → Bool → List ℕ → Told → Told → Type 0
BeginsListing many loose bytes old new = Begins listing many loose bytes old new

-- a beginning of it was written, and then the sink failed, or memory ran out
abbrev pub CutsListing : Bool → Bool → List ℕ → Told → Told → TextStop → Type 0
CutsListing many loose bytes old new e = Cuts listing many loose bytes old new e
