-- The text of whether a pickle passes by the entries of a list, and what is left where a text was to be written.
-- Source: own.
use Rattle.std.specs.Prelude.{◌≡◌, ◌≤◌, ◌↔◌, ℕ, false, List, [], length, drop, codes, decimal}
use Rattle.pickle_io.specs.Text.{◌⧺◌}
use Rattle.pickle_io.specs.Device.{Told, Wrote, Broke}
use Rattle.pickle_doc.specs.Document.{Contents, ReadsAs, AreBytes, size_limit}
use Rattle.pickle_calls.specs.declared.end.Ending.{Ending}
use Rattle.pickle_calls.specs.declared.end.Ending.TheVariants as ending
use Rattle.pickle_text.specs.Output.{Output}
use Rattle.pickle_text.specs.Closing.{closing_line}
use Rattle.pickle_allow.specs.declared.list.Entry.{Entry}
use Rattle.pickle_gate.specs.declared.verdict.Verdict.{Verdict}
use Rattle.pickle_gate.specs.declared.verdict.Verdict.TheVariants as verdict
use Rattle.pickle_gate.specs.Gate.{Passes}
use Rattle.pickle_gate.specs.Verdict.{verdict_of}
use Rattle.pickle_gate.specs.Line.{line_at}
use Rattle.pickle_script.specs.FormText.{other_line}
use Rattle.pickle_script.specs.GivenHoles.{before_colon}
use Rattle.pickle_script.specs.declared.stop.Stop.{Stop}
use Rattle.pickle_script.specs.declared.stop.Stop.TheVariants as stop

-- ---- a pickle

-- the words of a line of `calls`: what is behind its offset, a colon and a blank
abbrev pub words_of : List ℕ → List ℕ
words_of line = drop 2 (drop (before_colon line) line)

unfoldable pub forbidden_words : List ℕ
forbidden_words = codes ": not allowed: "

-- where an item is that is not allowed, and its words
unfoldable pub forbidden_line : ℕ → List ℕ → List ℕ
forbidden_line offset words = decimal offset ⧺ forbidden_words ⧺ words

-- the line of `calls` for the item that is not allowed
abbrev pub line_for : Contents → Verdict → List ℕ
line_for d (verdict.Forbidden place offset) = line_at d place
line_for d _ = []

-- the last line of `calls`. Of one pickle, behind which there are no bytes, nothing else is said there
abbrev pub end_line : Ending → List ℕ
end_line (ending.Closed kept c) = closing_line c
end_line (ending.Unsure offset) = []

-- it passes; or the item that is not allowed, the line of `form`, or the last one of `calls`
abbrev pub verdict_text : List ℕ → Verdict → List ℕ
verdict_text line verdict.Passes = codes "passes\n"
verdict_text line (verdict.Forbidden place offset) = forbidden_line offset (words_of line)
verdict_text line (verdict.Other o) = other_line o
verdict_text line (verdict.Ends e) = end_line e

abbrev pub verdict_status : Verdict → ℕ
verdict_status verdict.Passes = 0
verdict_status _ = 1

abbrev pub verdict_output : Contents → Verdict → Output
verdict_output d v = record { text = verdict_text (line_for d v) v; status = verdict_status v }

-- what is said of a document by the entries of a list
abbrev pub gate_output : List Entry → Contents → Output
gate_output list d = verdict_output d (verdict_of list d)

-- of the document of one pickle that the bytes read as
abbrev pub IsVerdictText : List Entry → List ℕ → Output → Type 0
IsVerdictText list bytes o = (d : Contents) × ReadsAs false bytes d × (o ≡ gate_output list d)

-- ---- the answer

-- all of a text was written, which `Is` means, and this is its status
abbrev pub WroteText : (Output → Type 0) → Told → Told → ℕ → Type 0
WroteText Is old new status = (o : Output) × Is o × Wrote old new o.text × (status ≡ o.status)

-- a beginning of it was written, and then the sink failed
abbrev pub BrokeText : (Output → Type 0) → Told → Told → Type 0
BrokeText Is old new = (o : Output) × Is o × Broke old new o.text

-- what a stop leaves of it: it is said once all is read, so that nothing was written where memory ran out
abbrev pub StopsGate : (Output → Type 0) → Told → Told → Stop → Type 0
StopsGate Is old new stop.Read = ⊥
StopsGate Is old new stop.Write = BrokeText Is old new
StopsGate Is old new stop.TooLarge = new ≡ old
StopsGate Is old new stop.Memory = new ≡ old

-- ---- laws

-- by the entries of a list the status is 0 exactly where the bytes pass
abbrev pub ZeroWherePassing : Type 0
ZeroWherePassing = (list : List Entry) (bytes : List ℕ) (o : Output) → AreBytes bytes → length bytes ≤ size_limit → IsVerdictText list bytes o
    → (o.status ≡ 0) ↔ Passes list bytes
