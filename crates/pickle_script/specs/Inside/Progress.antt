-- How far a conversation has come: between what a transcript is and the loop that writes one. No public clause speaks
-- of this.
use Rattle.std.specs.Prelude.{◌≡◌, ℕ, ◌+◌, List, [], ◌∷◌, ◌++◌, length, take, nat_le, if◌then◌else◌, Bool, true, false, Result, Ok, Err, IfOk}
use Rattle.std.specs.List.{concat, list_any}
use Rattle.pickle_io.specs.declared.sink.Failed.{Failed}
use Rattle.pickle_io.specs.Device.{Told, Wrote, Writes}
use Rattle.pickle_machine.specs.State.{State}
use Rattle.pickle_session.specs.Session.{Session}
use Rattle.pickle_session.specs.Allowed.{SessionState}
use Rattle.pickle_script.specs.declared.conversation.line.Line.{Line}
use Rattle.pickle_script.specs.declared.conversation.line.Query.{Query}
use Rattle.pickle_script.specs.declared.conversation.line.Syntax.{Syntax}
use Rattle.pickle_script.specs.Grammar.{longest}
use Rattle.pickle_script.specs.declared.conversation.outcome.Outcome.{Outcome}
use Rattle.pickle_script.specs.declared.conversation.outcome.Outcome.TheVariants as outcome
use Rattle.pickle_script.specs.declared.conversation.outcome.Flow.{Flow}
use Rattle.pickle_script.specs.declared.conversation.outcome.Flow.TheVariants as flow
use Rattle.pickle_script.specs.Query.{IsQueryText}
use Rattle.pickle_script.specs.Script.{Cut, IsCut, lines_of}
use Rattle.pickle_script.specs.Transcript.{PrintsBy, PrintsAll, IsTranscript, has_quit, is_refusal, status_of}
use Rattle.pickle_script.specs.Conversation.{BrokeBeyond}

-- the line that has begun, and whether a line was refused
pub record Pending : Type 0 where
  pub line : List ℕ
  pub refused : Bool

-- of a line, as many bytes as show that it is too long
unfoldable pub line_start : List ℕ → List ℕ
line_start line = take (longest + 1) line

-- one byte more, unless the line is too long already
unfoldable pub longer : List ℕ → ℕ → List ℕ
longer line byte = if nat_le (length line) longest then line ++ byte ∷ [] else line

abbrev pub was_refused : Outcome → Bool
was_refused outcome.Accepted = false
was_refused outcome.Refused = true

-- what a query is answered was written, and the outcome is whether it refuses
pub record WritesQuery (query : Query) (s : Session) (t : State) (old new : Told) (r : Result Outcome Failed) : Type 0 where
  pub text : List ℕ
  pub text_is : IsQueryText query s t text
  pub writes : Writes old new r text
  pub refuses : IfOk r (λ o. was_refused o ≡ is_refusal text)

-- the text that a line gives was written, and the outcome is whether it refuses
pub record WritesLine (says : Result Line Syntax) (s after : SessionState) (old new : Told) (r : Result Outcome Failed) : Type 0 where
  pub text : List ℕ
  pub prints : PrintsBy says s text after
  pub writes : Writes old new r text
  pub refuses : IfOk r (λ o. was_refused o ≡ is_refusal text)

-- some text was written, or after an error a beginning of it
abbrev pub WritesSome : {A E : Type 0} → Told → Told → Result A E → Type 0
WritesSome old new r = (text : List ℕ) × Writes old new r text

-- the complete lines of what was given were obeyed, none of them quits, and of the rest as much is held as is needed
pub record SoFar (s : SessionState) (old : Told) (given : List ℕ) (after : SessionState) (new : Told) (pending : Pending) : Type 0 where
  pub cut : Cut
  pub is_cut : IsCut given cut
  pub texts : List (List ℕ)
  pub runs : PrintsAll s cut.complete texts after
  pub no_quit : has_quit cut.complete ≡ false
  pub wrote : Wrote old new (concat texts)
  pub holds : pending ≡ record { line = line_start cut.rest; refused = list_any is_refusal texts }

-- a complete line quits, and those up to it were obeyed
pub record HasQuit (s : SessionState) (old : Told) (given : List ℕ) (after : SessionState) (new : Told) (pending : Pending) : Type 0 where
  pub cut : Cut
  pub is_cut : IsCut given cut
  pub texts : List (List ℕ)
  pub transcript : IsTranscript s cut.complete texts after
  pub quits : has_quit cut.complete ≡ true
  pub wrote : Wrote old new (concat texts)
  pub refused : pending.refused ≡ list_any is_refusal texts

-- the sink failed in the text of one of the lines
pub record BreaksInLine (s : SessionState) (old : Told) (lines : List (List ℕ)) (after : SessionState) (new : Told) : Type 0 where
  pub before : List (List ℕ)
  pub last : List ℕ
  pub later : List (List ℕ)
  pub are : lines ≡ before ++ last ∷ later
  pub texts : List (List ℕ)
  pub text : List ℕ
  pub runs : PrintsAll s (before ++ last ∷ []) (texts ++ text ∷ []) after
  pub no_quit : has_quit before ≡ false
  pub broke : BrokeBeyond old new (concat texts) text

pub record HasBroken (s : SessionState) (old : Told) (given : List ℕ) (after : SessionState) (new : Told) : Type 0 where
  pub cut : Cut
  pub is_cut : IsCut given cut
  pub breaks : BreaksInLine s old cut.complete after new

-- after some bytes the conversation goes on, has quit, or is broken
abbrev pub Fed : SessionState → Told → List ℕ → SessionState → Told → Pending → Result Flow Failed → Type 0
Fed s old given after new pending (Ok flow.GoesOn) = SoFar s old given after new pending
Fed s old given after new pending (Ok flow.Quits) = HasQuit s old given after new pending
Fed s old given after new pending (Err e) = HasBroken s old given after new

-- these bytes lead so from one moment to the next, whatever was given before
abbrev pub Feeds : List ℕ → SessionState → Told → Pending → SessionState → Told → Pending → Result Flow Failed → Type 0
Feeds bytes mid seen held after new pending r =
    (s : SessionState) (old : Told) (given : List ℕ) → SoFar s old given mid seen held → Fed s old (given ++ bytes) after new pending r

-- the source has ended: all lines were obeyed up to one that quits, or the sink failed in one of them
pub record IsComplete (s : SessionState) (old : Told) (given : List ℕ) (after : SessionState) (new : Told) (status : ℕ) : Type 0 where
  pub cut : Cut
  pub is_cut : IsCut given cut
  pub texts : List (List ℕ)
  pub transcript : IsTranscript s (lines_of cut) texts after
  pub wrote : Wrote old new (concat texts)
  pub status_is : status ≡ status_of texts

pub record IsBroken (s : SessionState) (old : Told) (given : List ℕ) (after : SessionState) (new : Told) : Type 0 where
  pub cut : Cut
  pub is_cut : IsCut given cut
  pub breaks : BreaksInLine s old (lines_of cut) after new

abbrev pub Ended : SessionState → Told → List ℕ → SessionState → Told → Result ℕ Failed → Type 0
Ended s old given after new (Ok status) = IsComplete s old given after new status
Ended s old given after new (Err e) = IsBroken s old given after new

abbrev pub Ends : SessionState → Told → Pending → SessionState → Told → Result ℕ Failed → Type 0
Ends mid seen held after new r =
    (s : SessionState) (old : Told) (given : List ℕ) → SoFar s old given mid seen held → Ended s old given after new r
