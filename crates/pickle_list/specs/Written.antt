-- What became of a listing that was to be written.
use Rattle.std.specs.Prelude.{ℕ, Bool, List}
use Rattle.pickle_io.specs.Device.{Told}
use Rattle.pickle_doc.specs.Document.{Contents}
use Rattle.pickle_text.specs.declared.stop.TextStop.{TextStop}
use Rattle.pickle_text.specs.declared.stop.TextStop.TheVariants as stop
use Rattle.pickle_text.specs.Output.{WroteOutput, BrokeOutput, BeganOutput, Completes, Breaks, Begins, Cuts}
use Rattle.pickle_list.specs.ArgTexts.{ArgTexts, short_args}
use Rattle.pickle_list.specs.Listing.{listing, listing_in}

-- ---- of a document

-- the whole listing was written, and this is its status
abbrev pub WroteListing : Contents → Told → Told → ℕ → Type 0
WroteListing d old new status = WroteOutput listing d old new status

-- a beginning of it was written, and no failure came
abbrev pub BeganListing : Contents → Told → Told → Type 0
BeganListing d old new = BeganOutput listing d old new

-- a beginning of it was written, and then the sink failed, or memory ran out
abbrev pub CutListing : Contents → Told → Told → TextStop → Type 0
CutListing d old new stop.Failed = BrokeOutput listing d old new
CutListing d old new stop.Memory = BeganListing d old new

-- ---- of bytes: the listing of the document that they read as, as many pickles or as one, and with all items loose or with frames

abbrev pub IsListedIn : ArgTexts → Bool → Bool → List ℕ → Told → Told → ℕ → Type 0
IsListedIn args many loose bytes old new status = Completes (listing_in args) many loose bytes old new status

abbrev pub BreaksListingIn : ArgTexts → Bool → Bool → List ℕ → Told → Told → Type 0
BreaksListingIn args many loose bytes old new = Breaks (listing_in args) many loose bytes old new

abbrev pub BeginsListingIn : ArgTexts → Bool → Bool → List ℕ → Told → Told → Type 0
BeginsListingIn args many loose bytes old new = Begins (listing_in args) many loose bytes old new

abbrev pub CutsListingIn : ArgTexts → Bool → Bool → List ℕ → Told → Told → TextStop → Type 0
CutsListingIn args many loose bytes old new e = Cuts (listing_in args) many loose bytes old new e

-- with each argument's own text
abbrev pub IsListed : Bool → Bool → List ℕ → Told → Told → ℕ → Type 0
IsListed many loose bytes old new status = IsListedIn short_args many loose bytes old new status

abbrev pub CutsListing : Bool → Bool → List ℕ → Told → Told → TextStop → Type 0
CutsListing many loose bytes old new e = CutsListingIn short_args many loose bytes old new e
