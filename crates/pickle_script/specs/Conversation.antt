-- What a conversation leaves: the bytes that the source gave, the session, what the sink took, and how often it failed.
-- The bytes of a device that does not report them are not spoken of.
use Rattle.std.specs.Prelude.{◌≡◌, ℕ, ◌≤◌, List, [], ◌∷◌, ◌++◌, length, Bool, true, false, ◌⊎◌, Option, None, Some, Result, IfOk, ⊤}
use Rattle.std.specs.List.{concat}
use Rattle.std.specs.Io.KnownBytes.{Consumes, IsAtEnd}
use Rattle.pickle_io.specs.declared.sink.Failed.{Failed}
use Rattle.pickle_io.specs.Device.{Told, IsPrefix, HasFailed, StaysHanded, Wrote, Broke, Writes}
use Rattle.pickle_script.specs.Script.{Cut, IsCut, lines_of}
use Rattle.pickle_session.specs.Allowed.{SessionState}
use Rattle.pickle_script.specs.Transcript.{Prints, PrintsAll, IsTranscript, has_quit, is_refusal, status_of}

-- A transcript of what the source gave was written. A line that quits is among it, or the source has said its end.
pub record Finishes (s after : SessionState) (status : ℕ) (source source' : Option (List ℕ)) (sink sink' : Told) : Type 0 where
  pub given : List ℕ
  pub gave : Consumes source source' given
  pub cut : Cut
  pub is_cut : IsCut given cut
  pub texts : List (List ℕ)
  pub transcript : IsTranscript s (lines_of cut) texts after
  pub wrote : Wrote sink sink' (concat texts)
  pub status_is : status ≡ status_of texts
  pub ends : (has_quit cut.complete ≡ true) ⊎ IsAtEnd source'

-- the bytes that a source gave before it failed; after that it may no longer report what it has
abbrev pub Gave : Option (List ℕ) → Option (List ℕ) → List ℕ → Type 0
Gave None new given = ⊤
Gave (Some bytes) None given = IsPrefix given bytes
Gave (Some bytes) (Some rest) given = bytes ≡ given ++ rest

-- The source failed. The lines that it gave whole were obeyed and no other, and their texts were written.
pub record StopsReading (s after : SessionState) (source source' : Option (List ℕ)) (sink sink' : Told) : Type 0 where
  pub given : List ℕ
  pub gave : Gave source source' given
  pub cut : Cut
  pub is_cut : IsCut given cut
  pub texts : List (List ℕ)
  pub runs : PrintsAll s cut.complete texts after
  pub no_quit : has_quit cut.complete ≡ false
  pub wrote : Wrote sink sink' (concat texts)

-- a whole text was taken and then a beginning of another; a sink that has failed may no longer report what it took
abbrev pub AppendsBeyond : Option (List ℕ) → Option (List ℕ) → List ℕ → List ℕ → Type 0
AppendsBeyond None new whole next = ⊤
AppendsBeyond (Some bytes) None whole next = ⊤
AppendsBeyond (Some bytes) (Some more) whole next = (front : List ℕ) × IsPrefix front next × (more ≡ bytes ++ (whole ++ front))

-- a whole text was written and then a front of another, and then a failure came
pub record BrokeBeyond (old new : Told) (whole next : List ℕ) : Type 0 where
  pub taken : AppendsBeyond old.taken new.taken whole next
  pub stays : StaysHanded old new
  pub rises : old.failures ≤ new.failures
  pub failed : HasFailed old.failures new.failures

-- the lines of what was given, to which a last one without its newline belongs only where the source has ended
abbrev pub AreGiven : Cut → Option (List ℕ) → List (List ℕ) → Type 0
AreGiven cut source' lines = (lines ≡ cut.complete) ⊎ (IsAtEnd source' × (lines ≡ lines_of cut))

-- when more was read the last time: the lines that were whole by then had been obeyed, their texts taken, and none of these was held back
pub record Asked (s : SessionState) (given : List ℕ) (old between : Told) : Type 0 where
  pub cut : Cut
  pub is_cut : IsCut given cut
  pub texts : List (List ℕ)
  pub after : SessionState
  pub runs : PrintsAll s cut.complete texts after
  pub wrote : Wrote old between (concat texts)
  pub handed : between.held ≡ 0

-- the most bytes that are read at once
abbrev pub most_at_once : ℕ
most_at_once = 65536

-- the sink failed behind what it had handed on when more was read the last time
pub record BrokeSince (s : SessionState) (given : List ℕ) (old new : Told) : Type 0 where
  pub earlier : List ℕ
  pub latest : List ℕ
  pub parts : given ≡ earlier ++ latest
  pub few : length latest ≤ most_at_once
  pub between : Told
  pub asked : Asked s earlier old between
  pub since : List ℕ
  pub broke : Broke between new since

-- The sink failed in the text of some line. That line and those before it were obeyed, and none after it; `Fails` is what is left of the sink,
-- by what was given, the texts before that of the line, and its text.
pub record StopsInLine (Fails : List ℕ → List (List ℕ) → List ℕ → Type 0) (s after : SessionState) (source source' : Option (List ℕ)) : Type 0 where
  pub given : List ℕ
  pub gave : Consumes source source' given
  pub cut : Cut
  pub is_cut : IsCut given cut
  pub before : List (List ℕ)
  pub last : List ℕ
  pub later : List (List ℕ)
  pub are_given : AreGiven cut source' (before ++ last ∷ later)
  pub texts : List (List ℕ)
  pub text : List ℕ
  pub runs : PrintsAll s (before ++ last ∷ []) (texts ++ text ∷ []) after
  pub no_quit : has_quit before ≡ false
  pub fails : Fails given texts text

-- the sink took whole the texts of the lines before that in which it failed, and held back none of those that it was to hand on before the last
-- read
abbrev pub StopsWriting : SessionState → SessionState → Option (List ℕ) → Option (List ℕ) → Told → Told → Type 0
StopsWriting s after source source' sink sink' =
    StopsInLine (λ given texts text. BrokeBeyond sink sink' (concat texts) text × BrokeSince s given sink sink') s after source source'

-- ---- line by line

-- A line was obeyed, and its text written, or after a failure of the sink a beginning of it. The answer is whether the text is a refusal.
pub record AnswersLine (line : List ℕ) (s after : SessionState) (old new : Told) (r : Result Bool Failed) : Type 0 where
  pub text : List ℕ
  pub prints : Prints s line text after
  pub writes : Writes old new r text
  pub refuses : IfOk r (λ refused. refused ≡ is_refusal text)

-- As long as no line has quit, one more line continues a transcript: lines that are answered one after another give the transcript of all.
abbrev pub OneByOne : Type 0
OneByOne = (s mid after : SessionState) (lines texts : List (List ℕ)) (line text : List ℕ) → IsTranscript s lines texts mid → has_quit lines ≡ false
    → Prints mid line text after → IsTranscript s (lines ++ line ∷ []) (texts ++ text ∷ []) after
