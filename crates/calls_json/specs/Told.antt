-- How what a pickle would import and call is told to programs, and what became of it.
-- Source: own.
use Rattle.std.specs.Prelude.{◌≡◌, refl, ℕ, List}
use Rattle.pickle_io.specs.Device.{Told, Wrote}
use Rattle.pickle_io.specs.Text.{◌⧺◌}
use Rattle.pickle_text.specs.declared.stop.TextStop.{TextStop}
use Rattle.pickle_calls.specs.Manner.{Manner}
use Rattle.pickle_text.specs.Output.{Output}
use Rattle.pickle_calls.specs.Telling.{Telling}
use Rattle.pickle_further.specs.declared.way.Pickles.{Pickles}
use Rattle.pickle_further.specs.Parts.{Words, Wording, wording}
use Rattle.pickle_further.specs.CallsText.{CutsText}
use Rattle.mixes_text.specs.CallsWith.{IsCallsIn}
use Rattle.calls_json.specs.EventFields.{line_of}
use Rattle.calls_json.specs.MixFields.{mixes_for_programs}
use Rattle.calls_json.specs.LastFields.{end_text, heading_line, part_end, leads_text, warnings_text, loss_line, mixed_line, status_line}

abbrev pub for_programs : Telling
for_programs = record { line = line_of; silent = λ offset m heap. refl; last = end_text }

abbrev pub words_for_programs : Words
words_for_programs = record {
  heading = heading_line;
  closed = part_end;
  leading = leads_text;
  warning = warnings_text;
  losing = loss_line;
  mixing = mixed_line;
}

abbrev pub programs : Wording
programs = wording for_programs words_for_programs

-- the lines of a text with the last one, which has the status
abbrev pub with_last : Output → Output
with_last o = record { text = o.text ⧺ status_line o.status; status = o.status }

-- these are the lines of bytes
abbrev pub IsCallsLines : Manner → Pickles → List ℕ → Output → Type 0
IsCallsLines how p bytes o = (x : Output) × IsCallsIn programs mixes_for_programs how p bytes x × (o ≡ with_last x)

-- they were written, and this is the status
abbrev pub CompletesLines : Manner → Pickles → List ℕ → Told → Told → ℕ → Type 0
CompletesLines how p bytes old new status = (o : Output) × IsCallsLines how p bytes o × Wrote old new o.text × (status ≡ o.status)

-- a beginning of them was written
abbrev pub CutsLines : Manner → Pickles → List ℕ → Told → Told → TextStop → Type 0
CutsLines how p bytes old new e = (o : Output) × IsCallsLines how p bytes o × CutsText old new o.text e
