-- What became of the text of imports and calls that was to be written: that of the document that the bytes read as, as several
-- pickles or as one.
-- Source: own.
use Rattle.std.specs.Prelude.{ℕ, Bool, false, List}
use Rattle.pickle_io.specs.Device.{Told}
use Rattle.pickle_text.specs.declared.stop.TextStop.{TextStop}
use Rattle.pickle_calls.specs.Manner.{Manner}
use Rattle.pickle_text.specs.Output.{Breaks, Begins, Cuts}
use Rattle.pickle_calls.specs.Telling.{Telling}
use Rattle.pickle_calls.specs.Calls.{calls_in}

abbrev pub BreaksCalls : Telling → Manner → Bool → List ℕ → Told → Told → Type 0
BreaksCalls f how many bytes old new = Breaks (calls_in f how) many false bytes old new

abbrev pub BeginsCalls : Telling → Manner → Bool → List ℕ → Told → Told → Type 0
BeginsCalls f how many bytes old new = Begins (calls_in f how) many false bytes old new

abbrev pub CutsCalls : Telling → Manner → Bool → List ℕ → Told → Told → TextStop → Type 0
CutsCalls f how many bytes old new e = Cuts (calls_in f how) many false bytes old new e
