-- A session that is kept between calls, and what is answered to a line.
-- Source: own.
use Rattle.std.specs.Prelude.{◌≡◌, ℕ, List, [], if◌then◌else◌}
use Rattle.pickle_session.specs.Allowed.{SessionState}
use Rattle.pickle_script.specs.Transcript.{Prints, is_refusal}
use Rattle.debug_json.specs.Answer.{Answer, refuses}
use Rattle.debug_json.specs.Lines.{answer_line}
use Rattle.debug_json.specs.Says as in_json

-- a session, and the text and the status of the latest line
pub record Talk : Type 0 where
  pub state : SessionState
  pub text : List ℕ
  pub status : ℕ

-- the status of the program for a script of one line that has this text
abbrev pub status_by : List ℕ → ℕ
status_by text = if is_refusal text then 1 else 0

-- a line was obeyed, and its text is kept
pub record Says (line : List ℕ) (old new : Talk) : Type 0 where
  pub prints : Prints old.state line new.text new.state
  pub status_is : new.status ≡ status_by new.text

-- a line was obeyed, and there was no memory for its text: none is kept
pub record Loses (line : List ℕ) (old new : Talk) : Type 0 where
  pub text : List ℕ
  pub prints : Prints old.state line text new.state
  pub none : new.text ≡ []
  pub status_is : new.status ≡ 0

-- ---- in JSON

-- a line was obeyed, and the line of JSON that answers it is kept
pub record SaysJson (line : List ℕ) (old new : Talk) : Type 0 where
  pub answer : Answer
  pub says : in_json.Says old.state line answer new.state
  pub text_is : new.text ≡ answer_line answer
  pub status_is : new.status ≡ (if refuses answer.said then 1 else 0)

-- a line was obeyed, and there was no memory for its line of JSON: none is kept
pub record LosesJson (line : List ℕ) (old new : Talk) : Type 0 where
  pub answer : Answer
  pub says : in_json.Says old.state line answer new.state
  pub none : new.text ≡ []
  pub status_is : new.status ≡ 0
