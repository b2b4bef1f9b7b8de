-- Which lines of `calls` are those of events: the ones that begin with an offset, wherever they stand in the text.
-- Source: own.
use Rattle.std.specs.Prelude.{◌≡◌, ◌≢◌, ◌⊎◌, ℕ, ◌^◌, ◌<◌, true, List, [], length, codes, Option, Some}
use Rattle.std.specs.List.{list_all}
use Rattle.pickle_io.specs.Text.{◌⧺◌}
use Rattle.pickle_ops.specs.Object.{Object}
use Rattle.pickle_ops.specs.Shape.{is_digit}
use Rattle.pickle_doc.specs.Document.{Contents, ReadsAs}
use Rattle.pickle_doc.specs.Place.{ops_of}
use Rattle.pickle_machine.specs.State.{State, start}
use Rattle.pickle_machine.specs.Run.{run}
use Rattle.pickle_lenient.specs.declared.taken.Frames.{Frames}
use Rattle.pickle_io.specs.declared.hole.Hole.{Hole}
use Rattle.pickle_calls.specs.declared.event.Event.{Event}
use Rattle.pickle_calls.specs.declared.naming.Naming.{Naming}
use Rattle.pickle_text.specs.declared.closing.Closing.{Closing}
use Rattle.pickle_text.specs.Column.{blanks}
use Rattle.pickle_calls.specs.Begins.{begins_text}
use Rattle.pickle_text.specs.Closing.{kept_line, closing_line}
use Rattle.pickle_calls.specs.Manner.{Manner}
use Rattle.pickle_text.specs.Output.{Output}
use Rattle.pickle_calls.specs.CallsLine.{event_line, totals_line, unsure_line}
use Rattle.calls_laws.specs.LineLaws.{cut_lines}
use Rattle.pickle_further.specs.declared.way.Pickles.{Pickles}
use Rattle.pickle_further.specs.declared.way.Way.{Way}
use Rattle.pickle_further.specs.Going.{Standing, going}
use Rattle.pickle_further.specs.Parts.{ends_line, header, mixed_text, are_many, standing_at, standing_first, loss_line}
use Rattle.pickle_further.specs.Leads.{warning_text}
use Rattle.pickle_further.specs.Deep.{warnings_text}
use Rattle.pickle_further.specs.CallsText.{IsCallsText}
use Rattle.pickle_loader.specs.Onward.{stands}
use Rattle.pickle_loader.specs.Text.{line_gone, IsAmong, is_in_text}

-- in front are blanks, if any, then digits, a colon and a blank
pub record BeginsWithOffset (line : List ℕ) : Type 0 where
  pub width : ℕ
  pub digits : List ℕ
  pub text : List ℕ
  pub are_some : digits ≢ []
  pub are_digits : list_all is_digit digits ≡ true
  pub line_is : line ≡ blanks width ⧺ digits ⧺ codes ": " ⧺ text

abbrev pub LacksOffset : List ℕ → Type 0
LacksOffset line = BeginsWithOffset line → ⊥

-- where a reading begins that is in the text: at the first byte, or where the machine stands before an item of the document
abbrev pub IsStart : Manner → Pickles → List ℕ → Standing → Type 0
IsStart how p bytes q = (q ≡ standing_first how.detail p bytes)
    ⊎ ((d : Contents) × (k : ℕ) × (s : State) × ReadsAs (are_many p) bytes d × (run (start d.many) (ops_of d) k ≡ Some s) × (q ≡ standing_at how.detail d k s))

-- this is the line of an item of a reading that is in the text
pub record IsOfItem (how : Manner) (p : Pickles) (bytes line : List ℕ) : Type 0 where
  pub way : Way
  pub from_here : Standing
  pub place : ℕ
  pub standing : Standing
  pub pickles : way.pickles ≡ p
  pub in_text : is_in_text way.pickles way.frames ≡ true
  pub begins : IsStart how p bytes from_here
  pub stands : stands way from_here place ≡ Some standing
  pub line_is : line_gone how.holes standing (going way standing) ≡ line

-- the line of each event begins so, and none that heads or closes a part: whatever bytes are read, and in each way, whichever line of the text
-- begins so is that of an item
pub record EventLinesApart : Type 0 where
  pub event : (offset : ℕ) (m : Naming) (heap : List Object) (e : Event) → BeginsWithOffset (event_line offset m heap e)
  pub begins : (bytes : List ℕ) → LacksOffset (begins_text bytes)
  pub totals : (imports calls : ℕ) → LacksOffset (totals_line imports calls)
  pub kept : (count : ℕ) → LacksOffset (kept_line count)
  pub closing : (c : Closing) → LacksOffset (closing_line c)
  pub unsure : (offset : ℕ) → LacksOffset (unsure_line offset)
  pub loss : (offset : ℕ) → LacksOffset (loss_line offset)
  pub warning : (leads : Option ℕ) → LacksOffset (warning_text leads)
  pub warnings : (leads deep : Option ℕ) → LacksOffset (warnings_text leads deep)
  pub mixed : (holes : List Hole) (mixed : Option ℕ) → LacksOffset (mixed_text holes mixed)
  pub heading : (f : Frames) → LacksOffset (header f)
  pub ends : (c : Closing) → LacksOffset (ends_line c)
  pub other : (how : Manner) (p : Pickles) (bytes : List ℕ) (o : Output) → IsCallsText how p bytes o → length bytes < 2 ^ 64
      → (line : List ℕ) → IsAmong line (cut_lines o.text) → BeginsWithOffset line → IsOfItem how p bytes line
