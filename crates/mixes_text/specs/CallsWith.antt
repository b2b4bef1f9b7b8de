-- The whole text of `calls`: its lines, and those of mixes behind them.
-- Source: own.
use Rattle.std.specs.Prelude.{◌≡◌, ℕ, List}
use Rattle.pickle_io.specs.Device.{Told, Wrote}
use Rattle.pickle_text.specs.declared.stop.TextStop.{TextStop}
use Rattle.pickle_calls.specs.Manner.{Manner}
use Rattle.pickle_text.specs.Output.{Output}
use Rattle.pickle_further.specs.declared.way.Pickles.{Pickles}
use Rattle.pickle_further.specs.Parts.{Wording, people}
use Rattle.pickle_further.specs.CallsText.{IsCallsTextIn, CutsText}
use Rattle.mixes_text.specs.MixText.{MixWords, mixes_for_people, with_mixes}

-- this is the whole text of bytes
abbrev pub IsCallsIn : Wording → MixWords → Manner → Pickles → List ℕ → Output → Type 0
IsCallsIn tell say how p bytes o = (x : Output) × IsCallsTextIn tell how p bytes x × (o ≡ with_mixes say how p bytes x)

-- it was written, and this is its status
abbrev pub CompletesCallsIn : Wording → MixWords → Manner → Pickles → List ℕ → Told → Told → ℕ → Type 0
CompletesCallsIn tell say how p bytes old new status = (o : Output) × IsCallsIn tell say how p bytes o × Wrote old new o.text × (status ≡ o.status)

-- a beginning of it was written
abbrev pub CutsCallsIn : Wording → MixWords → Manner → Pickles → List ℕ → Told → Told → TextStop → Type 0
CutsCallsIn tell say how p bytes old new e = (o : Output) × IsCallsIn tell say how p bytes o × CutsText old new o.text e

-- ---- as lines for people

abbrev pub IsCalls : Manner → Pickles → List ℕ → Output → Type 0
IsCalls how p bytes o = IsCallsIn people mixes_for_people how p bytes o

abbrev pub CompletesCalls : Manner → Pickles → List ℕ → Told → Told → ℕ → Type 0
CompletesCalls how p bytes old new status = CompletesCallsIn people mixes_for_people how p bytes old new status

abbrev pub CutsCalls : Manner → Pickles → List ℕ → Told → Told → TextStop → Type 0
CutsCalls how p bytes old new e = CutsCallsIn people mixes_for_people how p bytes old new e
