-- How far a conversation in JSON has come: between what a transcript is and the loop that writes one. No public clause speaks
-- of this.
use Rattle.std.specs.Prelude.{◌≡◌, ℕ, List, [], ◌∷◌, ◌++◌, true, false, Result, Ok, Err}
use Rattle.std.specs.List.{list_any}
use Rattle.pickle_io.specs.declared.sink.Failed.{Failed}
use Rattle.pickle_io.specs.Device.{Told, Wrote, Writes}
use Rattle.pickle_session.specs.Allowed.{SessionState}
use Rattle.pickle_script.specs.Script.{Cut, IsCut, lines_of}
use Rattle.pickle_script.specs.Transcript.{has_quit}
use Rattle.pickle_script.specs.Conversation.{BrokeBeyond}
use Rattle.pickle_script.specs.Inside.Progress.{Pending, line_start}
use Rattle.debug_json.specs.Answer.{Answer}
use Rattle.debug_json.specs.Lines.{answer_line}
use Rattle.json_conversation.specs.declared.talk.Flow.{Flow}
use Rattle.json_conversation.specs.declared.talk.Flow.TheVariants as flow
use Rattle.json_conversation.specs.Transcript.{SaysAll, IsTranscript, lines_text, is_refusal, status_of}

-- some text was written, or after an error a beginning of it
abbrev pub WritesSome : {A E : Type 0} → Told → Told → Result A E → Type 0
WritesSome old new r = (text : List ℕ) × Writes old new r text

-- the complete lines of what was given were obeyed, none of them quits, and of the rest as much is held as is needed
pub record SoFar (s : SessionState) (old : Told) (given : List ℕ) (after : SessionState) (new : Told) (pending : Pending) : Type 0 where
  pub cut : Cut
  pub is_cut : IsCut given cut
  pub answers : List Answer
  pub runs : SaysAll s cut.complete answers after
  pub no_quit : has_quit cut.complete ≡ false
  pub wrote : Wrote old new (lines_text answers)
  pub holds : pending ≡ record { line = line_start cut.rest; refused = list_any is_refusal answers }

-- a complete line quits, and those up to it were obeyed
pub record HasQuit (s : SessionState) (old : Told) (given : List ℕ) (after : SessionState) (new : Told) (pending : Pending) : Type 0 where
  pub cut : Cut
  pub is_cut : IsCut given cut
  pub answers : List Answer
  pub transcript : IsTranscript s cut.complete answers after
  pub quits : has_quit cut.complete ≡ true
  pub wrote : Wrote old new (lines_text answers)
  pub refused : pending.refused ≡ list_any is_refusal answers

-- the sink failed in the text of one of the lines
pub record BreaksInLine (s : SessionState) (old : Told) (lines : List (List ℕ)) (after : SessionState) (new : Told) : Type 0 where
  pub before : List (List ℕ)
  pub last : List ℕ
  pub later : List (List ℕ)
  pub are : lines ≡ before ++ last ∷ later
  pub answers : List Answer
  pub answer : Answer
  pub runs : SaysAll s (before ++ last ∷ []) (answers ++ answer ∷ []) after
  pub no_quit : has_quit before ≡ false
  pub broke : BrokeBeyond old new (lines_text answers) (answer_line answer)

pub record HasBroken (s : SessionState) (old : Told) (given : List ℕ) (after : SessionState) (new : Told) : Type 0 where
  pub cut : Cut
  pub is_cut : IsCut given cut
  pub breaks : BreaksInLine s old cut.complete after new

-- after some bytes the conversation goes on, has quit, or is broken
abbrev pub Fed : SessionState → Told → List ℕ → SessionState → Told → Pending → Result Flow Failed → Type 0
Fed s old given after new pending (Ok flow.GoesOn) = SoFar s old given after new pending
Fed s old given after new pending (Ok flow.Quits) = HasQuit s old given after new pending
Fed s old given after new pending (Err e) = HasBroken s old given after new

-- these bytes lead so from one moment to the next, whatever was given before
abbrev pub Feeds : List ℕ → SessionState → Told → Pending → SessionState → Told → Pending → Result Flow Failed → Type 0
Feeds bytes mid seen held after new pending r =
    (s : SessionState) (old : Told) (given : List ℕ) → SoFar s old given mid seen held → Fed s old (given ++ bytes) after new pending r

-- the source has ended: all lines were obeyed up to one that quits, or the sink failed in one of them
pub record IsComplete (s : SessionState) (old : Told) (given : List ℕ) (after : SessionState) (new : Told) (status : ℕ) : Type 0 where
  pub cut : Cut
  pub is_cut : IsCut given cut
  pub answers : List Answer
  pub transcript : IsTranscript s (lines_of cut) answers after
  pub wrote : Wrote old new (lines_text answers)
  pub status_is : status ≡ status_of answers

pub record IsBroken (s : SessionState) (old : Told) (given : List ℕ) (after : SessionState) (new : Told) : Type 0 where
  pub cut : Cut
  pub is_cut : IsCut given cut
  pub breaks : BreaksInLine s old (lines_of cut) after new

abbrev pub Ended : SessionState → Told → List ℕ → SessionState → Told → Result ℕ Failed → Type 0
Ended s old given after new (Ok status) = IsComplete s old given after new status
Ended s old given after new (Err e) = IsBroken s old given after new

abbrev pub Ends : SessionState → Told → Pending → SessionState → Told → Result ℕ Failed → Type 0
Ends mid seen held after new r =
    (s : SessionState) (old : Told) (given : List ℕ) → SoFar s old given mid seen held → Ended s old given after new r
