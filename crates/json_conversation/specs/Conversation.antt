-- What a conversation in JSON leaves: the bytes that the source gave, the session, what the sink took, and how often it failed.
-- The bytes of a device that does not report them are not spoken of.
-- Source: own. It is a conversation for people, but for what each line is answered.
use Rattle.std.specs.Prelude.{◌≡◌, ℕ, ◌≤◌, List, [], ◌∷◌, ◌++◌, length, true, false, ◌⊎◌, Option}
use Rattle.std.specs.Io.KnownBytes.{Consumes, IsAtEnd}
use Rattle.pickle_io.specs.Device.{Told, Wrote, Broke}
use Rattle.pickle_session.specs.Allowed.{SessionState}
use Rattle.pickle_script.specs.Script.{Cut, IsCut, lines_of}
use Rattle.pickle_script.specs.Transcript.{has_quit}
use Rattle.pickle_script.specs.Conversation.{Gave, BrokeBeyond, AreGiven, most_at_once}
use Rattle.debug_json.specs.Answer.{Answer}
use Rattle.debug_json.specs.Lines.{answer_line}
use Rattle.json_conversation.specs.Transcript.{SaysAll, IsTranscript, lines_text, status_of}

-- A transcript of what the source gave was written. A line that quits is among it, or the source has said its end.
pub record Finishes (s after : SessionState) (status : ℕ) (source source' : Option (List ℕ)) (sink sink' : Told) : Type 0 where
  pub given : List ℕ
  pub gave : Consumes source source' given
  pub cut : Cut
  pub is_cut : IsCut given cut
  pub answers : List Answer
  pub transcript : IsTranscript s (lines_of cut) answers after
  pub wrote : Wrote sink sink' (lines_text answers)
  pub status_is : status ≡ status_of answers
  pub ends : (has_quit cut.complete ≡ true) ⊎ IsAtEnd source'

-- The source failed. The lines that it gave whole were obeyed and no other, and their answers were written.
pub record StopsReading (s after : SessionState) (source source' : Option (List ℕ)) (sink sink' : Told) : Type 0 where
  pub given : List ℕ
  pub gave : Gave source source' given
  pub cut : Cut
  pub is_cut : IsCut given cut
  pub answers : List Answer
  pub runs : SaysAll s cut.complete answers after
  pub no_quit : has_quit cut.complete ≡ false
  pub wrote : Wrote sink sink' (lines_text answers)

-- when more was read the last time: the lines that were whole by then had been obeyed, their answers taken, and none of these was held back
pub record Asked (s : SessionState) (given : List ℕ) (old between : Told) : Type 0 where
  pub cut : Cut
  pub is_cut : IsCut given cut
  pub answers : List Answer
  pub after : SessionState
  pub runs : SaysAll s cut.complete answers after
  pub wrote : Wrote old between (lines_text answers)
  pub handed : between.held ≡ 0

-- the sink failed behind what it had handed on when more was read the last time
pub record BrokeSince (s : SessionState) (given : List ℕ) (old new : Told) : Type 0 where
  pub earlier : List ℕ
  pub latest : List ℕ
  pub parts : given ≡ earlier ++ latest
  pub few : length latest ≤ most_at_once
  pub between : Told
  pub asked : Asked s earlier old between
  pub since : List ℕ
  pub broke : Broke between new since

-- The sink failed in the text of some line. That line and those before it were obeyed, and none after it; `Fails` is what is left of the sink,
-- by what was given, the answers before that of the line, and its text.
pub record StopsInLine (Fails : List ℕ → List Answer → Answer → Type 0) (s after : SessionState) (source source' : Option (List ℕ)) : Type 0 where
  pub given : List ℕ
  pub gave : Consumes source source' given
  pub cut : Cut
  pub is_cut : IsCut given cut
  pub before : List (List ℕ)
  pub last : List ℕ
  pub later : List (List ℕ)
  pub are_given : AreGiven cut source' (before ++ last ∷ later)
  pub answers : List Answer
  pub answer : Answer
  pub runs : SaysAll s (before ++ last ∷ []) (answers ++ answer ∷ []) after
  pub no_quit : has_quit before ≡ false
  pub fails : Fails given answers answer

-- the sink took whole the answers of the lines before that in which it failed, and held back none of those that it was to hand on before the last
-- read
abbrev pub StopsWriting : SessionState → SessionState → Option (List ℕ) → Option (List ℕ) → Told → Told → Type 0
StopsWriting s after source source' sink sink' =
    StopsInLine (λ given answers answer. BrokeBeyond sink sink' (lines_text answers) (answer_line answer) × BrokeSince s given sink sink') s after source source'
