-- The text of what bytes would import and call, with its status, in each reading.
-- Source: own.
use Rattle.std.specs.Prelude.{◌≡◌, ℕ, ◌||◌, true, false, List, [], if◌then◌else◌, Option, Some, None, is_some, Result, Ok, Err}
use Rattle.std.specs.Option.{option_map}
use Rattle.pickle_io.specs.Text.{◌⧺◌}
use Rattle.pickle_io.specs.Device.{Told, Wrote, Broke, WroteAllBut}
use Rattle.pickle_doc.specs.Document.{Contents, ReadsAs}
use Rattle.pickle_doc.specs.Place.{ops_of}
use Rattle.pickle_machine.specs.State.{State, start}
use Rattle.pickle_machine.specs.Run.{run}
use Rattle.pickle_calls.specs.declared.end.Ending.TheVariants as ending
use Rattle.pickle_text.specs.declared.stop.TextStop.{TextStop}
use Rattle.pickle_text.specs.declared.stop.TextStop.TheVariants as stop
use Rattle.pickle_calls.specs.Manner.{Manner, ending_in}
use Rattle.pickle_text.specs.Output.{Output}
use Rattle.pickle_calls.specs.CallsLine.{ending_status}
use Rattle.pickle_calls.specs.Calls.{calls_in, calls_end}
use Rattle.pickle_further.specs.declared.way.Pickles.{Pickles}
use Rattle.pickle_further.specs.declared.way.Pickles.TheVariants as pickles
use Rattle.pickle_calls.specs.declared.naming.Detail.{Detail}
use Rattle.pickle_io.specs.Holes.{in_file}
use Rattle.pickle_further.specs.Leads.{first_leading, or_first, warned_status}
use Rattle.pickle_further.specs.Deep.{first_deep}
use Rattle.pickle_further.specs.Going.{Standing, Tale, tale_from}
use Rattle.pickle_further.specs.Parts.{ignoring, buffering, holding, are_many, standing_first, loss_at, Wording, people, lost_by_in, first_mixed, mixed_text_in, parts_in}

-- ---- of a document

-- the first import of the lines that leads to the unpickler
abbrev pub leading_in : Option State → Option ℕ
leading_in None = None
leading_in (Some s) = first_leading s.heap

unfoldable pub document_leads : Contents → Option ℕ
document_leads d = leading_in (run (start d.many) (ops_of d) (calls_end d).place)

-- the first tuple that is nested too deep
abbrev pub deep_in : Option State → Option ℕ
deep_in None = None
deep_in (Some s) = first_deep s.heap

unfoldable pub document_deep : Contents → Option ℕ
document_deep d = deep_in (run (start d.many) (ops_of d) (calls_end d).place)

abbrev pub document_warnings_in : Wording → Contents → List ℕ
document_warnings_in tell d = tell.words.warning (document_leads d) (document_deep d)

abbrev pub document_warnings : Contents → List ℕ
document_warnings d = document_warnings_in people d

-- the lines up to the end, a line where an import leads to the unpickler or a tuple is nested too deep, and what is behind the end; the status is 1
-- there, or that of the first
abbrev pub document_calls_in : Wording → Manner → Pickles → Contents → Output
document_calls_in tell how p d = record {
  text = ((calls_in tell.telling how d).text ⧺ document_warnings_in tell d) ⧺ parts_in tell how p d;
  status = warned_status (or_first (document_leads d) (document_deep d)) (calls_in tell.telling how d).status;
}

abbrev pub document_calls : Manner → Pickles → Contents → Output
document_calls how p d = document_calls_in people how p d

-- ---- of bytes that one unpickler reads on and on

abbrev pub tale_calls_in : Wording → Manner → List ℕ → Tale → Output
tale_calls_in tell how bytes t = record {
  text = (t.lines.text ⧺ tell.telling.last bytes t.lines.imports t.lines.calls (ending_in how.holes (ending.Closed 0 t.closing))) ⧺ tell.words.leading t.leads;
  status = warned_status t.leads (ending_status (ending.Closed 0 t.closing));
}

abbrev pub tale_calls : Manner → List ℕ → Tale → Output
tale_calls how bytes t = tale_calls_in people how bytes t

abbrev pub first_loss : Detail → List ℕ → Option ℕ
first_loss how bytes = option_map (λ (p : Standing). p.at.offset) (loss_at how (buffering pickles.OneMemo) bytes)

unfoldable pub loss_text_in : Wording → Manner → List ℕ → ℕ → List ℕ
loss_text_in tell how bytes offset =
    tell.words.losing (in_file how.holes offset) ⧺ (lost_by_in tell how (buffering pickles.OneMemo) bytes ⧺ lost_by_in tell how (holding pickles.OneMemo) bytes)

abbrev pub loss_text : Manner → List ℕ → ℕ → List ℕ
loss_text how bytes offset = loss_text_in people how bytes offset

abbrev pub losses_text_in : Wording → Manner → List ℕ → Option ℕ → List ℕ
losses_text_in tell how bytes None = []
losses_text_in tell how bytes (Some offset) = loss_text_in tell how bytes offset

abbrev pub losses_text : Manner → List ℕ → Option ℕ → List ℕ
losses_text how bytes loss = losses_text_in people how bytes loss

-- what those do that lose bytes, and from where others may mix frames
abbrev pub kept_behind_in : Wording → Manner → List ℕ → Option ℕ → Option ℕ → List ℕ
kept_behind_in tell how bytes loss mixed = losses_text_in tell how bytes loss ⧺ mixed_text_in tell how.holes mixed

abbrev pub kept_behind : Manner → List ℕ → Option ℕ → Option ℕ → List ℕ
kept_behind how bytes loss mixed = kept_behind_in people how bytes loss mixed

-- the status is 1 where bytes are lost, or frames may be mixed
abbrev pub kept_status : Option ℕ → Option ℕ → ℕ → ℕ
kept_status loss mixed status = if is_some loss || is_some mixed then 1 else status

abbrev pub kept_with : Wording → Manner → List ℕ → Option ℕ → Option ℕ → Output → Output
kept_with tell how bytes loss mixed o = record { text = o.text ⧺ kept_behind_in tell how bytes loss mixed; status = kept_status loss mixed o.status }

unfoldable pub kept_calls_in : Wording → Manner → List ℕ → Output
kept_calls_in tell how bytes =
    kept_with tell how bytes (first_loss how.detail bytes) (first_mixed how.detail pickles.OneMemo bytes)
    (tale_calls_in tell how bytes (tale_from tell.telling how.holes (ignoring pickles.OneMemo) (standing_first how.detail pickles.OneMemo bytes)))

abbrev pub kept_calls : Manner → List ℕ → Output
kept_calls how bytes = kept_calls_in people how bytes

-- ---- of bytes

-- this is their text: that of the document that they read as, or with the memo kept that of the bytes
abbrev pub IsCallsTextIn : Wording → Manner → Pickles → List ℕ → Output → Type 0
IsCallsTextIn tell how pickles.OneMemo bytes o = o ≡ kept_calls_in tell how bytes
IsCallsTextIn tell how pickles.First bytes o = (d : Contents) × ReadsAs false bytes d × (o ≡ document_calls_in tell how pickles.First d)
IsCallsTextIn tell how pickles.All bytes o = (d : Contents) × ReadsAs true bytes d × (o ≡ document_calls_in tell how pickles.All d)

abbrev pub IsCallsText : Manner → Pickles → List ℕ → Output → Type 0
IsCallsText how p bytes o = IsCallsTextIn people how p bytes o

-- ---- what became of it

-- a text was written, or a beginning of it, and then the sink failed or memory ran out
abbrev pub CutsText : Told → Told → List ℕ → TextStop → Type 0
CutsText old new text stop.Failed = Broke old new text
CutsText old new text stop.Memory = (rest : List ℕ) × WroteAllBut old new text rest

abbrev pub PutsText : {A : Type 0} → Told → Told → List ℕ → Result A TextStop → Type 0
PutsText old new text (Ok x) = Wrote old new text
PutsText old new text (Err e) = CutsText old new text e

-- the whole text was written, and this is its status
abbrev pub CompletesTextIn : Wording → Manner → Pickles → List ℕ → Told → Told → ℕ → Type 0
CompletesTextIn tell how p bytes old new status = (o : Output) × IsCallsTextIn tell how p bytes o × Wrote old new o.text × (status ≡ o.status)

abbrev pub CompletesText : Manner → Pickles → List ℕ → Told → Told → ℕ → Type 0
CompletesText how p bytes old new status = CompletesTextIn people how p bytes old new status

-- a beginning of it was written
abbrev pub CutsCallsTextIn : Wording → Manner → Pickles → List ℕ → Told → Told → TextStop → Type 0
CutsCallsTextIn tell how p bytes old new e = (o : Output) × IsCallsTextIn tell how p bytes o × CutsText old new o.text e

abbrev pub CutsCallsText : Manner → Pickles → List ℕ → Told → Told → TextStop → Type 0
CutsCallsText how p bytes old new e = CutsCallsTextIn people how p bytes old new e

-- ---- the same of a document

abbrev pub CompletesDocument : Wording → Manner → Pickles → List ℕ → Told → Told → ℕ → Type 0
CompletesDocument tell how p bytes old new status =
    (d : Contents) × ReadsAs (are_many p) bytes d × Wrote old new (document_calls_in tell how p d).text × (status ≡ (document_calls_in tell how p d).status)

abbrev pub CutsDocument : Wording → Manner → Pickles → List ℕ → Told → Told → TextStop → Type 0
CutsDocument tell how p bytes old new e = (d : Contents) × ReadsAs (are_many p) bytes d × CutsText old new (document_calls_in tell how p d).text e
